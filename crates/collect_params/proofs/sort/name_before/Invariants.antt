use mathlib.Core.Path.{◌≡◌}
use lib.ListN.{drop}
use Rattle.definition.specs.Names.{before}
use Rattle.collect_params.proofs.sort.name_before.Given as goal

abbrev pub invariant-loop-i : goal.invariant-loop-i
invariant-loop-i l = before l.a l.b ≡ before (drop l.i l.a) (drop l.i l.b)
