use Rattle.std.proofs.Common.{arith, ◌∙◌}
use Rattle.walker.proofs.ends.Ends.{entry_is}
use Rattle.walker.proofs.ends.end_of.Goals as goal

pub returns-in_default : goal.returns-in_default
returns-in_default c = entry_is c.requires.0 c.requires.1 (c.from.ensures ∙ c.item.ensures) (omega arith)
