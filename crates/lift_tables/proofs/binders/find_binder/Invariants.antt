use mathlib.Core.Path.{◌≡◌}
use Prim.Native.Nat.{◌-◌, ◌*◌}
use Rattle.lift_tables.specs.binders.Row.{binders_from, found_in}
use Rattle.lift_tables.proofs.binders.find_binder.Given as goal

abbrev pub invariant-loop-k : goal.invariant-loop-k
invariant-loop-k l = found_in l.s l.name (binders_from l.binders 0 l.b) ≡ found_in l.s l.name (binders_from l.binders (8 * l.k) (l.b - 8 * l.k))
