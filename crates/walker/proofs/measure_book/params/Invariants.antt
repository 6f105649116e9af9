use mathlib.Core.Path.{◌≡◌}
use Prim.Native.Nat.{◌-◌}
use lib.ListN.{length}
use Rattle.walker.specs.measure.Measure.{times}
use Rattle.walker.specs.measure_book.Measure.{param_at}
use Rattle.walker.proofs.measure_book.params.Given as goal

abbrev pub invariant-loop : goal.invariant-loop
invariant-loop l = (length l.ends ≡ length l.initial.ends) × (times (param_at l.s) (l.k - l.initial.counter) l.initial.here l.initial.ends ≡ times (param_at l.s) (l.k - l.counter) l.here l.ends)
