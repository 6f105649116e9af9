-- Steps so often, unrolled by one in the code's own terms.
-- Assumes nothing.
use mathlib.Core.List.{List}
use mathlib.Core.Path.{◌≡◌}
use Prim.Native.Nat.{ℕ, suc, ◌+◌, ◌-◌, ◌≤◌, ◌<◌}
use native.Mathlib.Omega.{arith}
use Rattle.collect_params.specs.declared.scope.Walk.{Walk}
use Rattle.collect_params.specs.roots.Recorded.{Use, times_use}

module _ (step : Use) (w : Walk) (u : List ℕ) where
  pub start_uses : (n : ℕ) → times_use step n w u ≡ times_use step (n - 0) w u
  start_uses n = let e : n - 0 ≡ n = omega arith in rw e

  pub more_uses : (n i : ℕ) → i < n → times_use step (n - i) w u ≡ times_use step (n - (i + 1)) (step w u).0 (step w u).1
  unfolding times_use
  more_uses n i h = let e : n - i ≡ suc (n - (i + 1)) = omega arith in rw e

  pub done_uses : (n i : ℕ) → n ≤ i → times_use step (n - i) w u ≡ (w, u)
  unfolding times_use
  done_uses n i h = let e : n - i ≡ 0 = omega arith in rw e
