use mathlib.Core.Path.{◌≡◌}
use lib.ListN.{length, take}
use Rattle.lift_tables.specs.binders.Row.{binders_from}
use Rattle.lift_tables.proofs.binders.row_from.Given as goal

abbrev pub invariant-loop-k : goal.invariant-loop-k
invariant-loop-k l = record { long : length l.row ≡ 8; filled : take l.k l.row ≡ binders_from l.binders l.j l.k }
