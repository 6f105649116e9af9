use mathlib.Core.Path.{◌∙◌}
use Rattle.substitute.proofs.instance.Pairing.{paired}
use Rattle.substitute.proofs.instance.pairs.Goals as goal

pub returns : goal.returns
returns c = paired c.name_past.ensures c.number-params.ensures c.past.ensures c.name_past-2.ensures c.number-args.ensures (c.from.ensures ∙ c.min.ensures)
