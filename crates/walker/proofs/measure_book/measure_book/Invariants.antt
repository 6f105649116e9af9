use mathlib.Core.Path.{◌≡◌}
use Prim.Native.Nat.{◌-◌}
use lib.ListN.{length}
use Rattle.walker.specs.measure.Measure.{times}
use Rattle.walker.specs.measure_book.Measure.{entry_step}
use Rattle.walker.proofs.measure_book.measure_book.Given as goal

abbrev pub invariant-loop : goal.invariant-loop
invariant-loop l = (length l.ends ≡ length l.initial.ends) × (times (entry_step l.s) (l.n - l.initial.counter) l.initial.here l.initial.ends ≡ times (entry_step l.s) (l.n - l.counter) l.here l.ends)
