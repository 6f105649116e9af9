use mathlib.Core.Path.{◌≡◌}
use lib.ListN.{drop}
use Rattle.lift_tables.specs.binders.Row.{found_in}
use Rattle.lift_tables.proofs.binders.first_named.Given as goal

abbrev pub invariant-loop-binder : goal.invariant-loop-binder
invariant-loop-binder l = found_in l.s l.name l.row ≡ found_in l.s l.name (drop l.binder-index l.row)
