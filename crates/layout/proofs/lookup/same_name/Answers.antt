use Rattle.std.proofs.Common.{◌∙◌}
use Rattle.layout.proofs.lookup.Names.{by_item}
use Rattle.layout.proofs.lookup.same_name.Goals as goal

pub returns : goal.returns
returns c = c.eq.ensures ∙ by_item _ _
