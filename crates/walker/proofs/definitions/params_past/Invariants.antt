use mathlib.Core.Path.{◌≡◌}
use Prim.Native.Nat.{ℕ, ◌-◌}
use lib.ListN.{length}
use Rattle.walker.specs.definitions.Params.{ParamsLeft}
use Rattle.walker.proofs.definitions.params_past.Given as goal

abbrev pub invariant-loop : goal.invariant-loop
invariant-loop l = (length l.marks ≡ length l.initial.marks) × ((r : ℕ) → ParamsLeft l.book l.here (l.k - l.counter) r → ParamsLeft l.book l.initial.here (l.k - l.initial.counter) r)
