-- The models, unrolled by one level or one step in the code's own terms.
-- Assumes nothing.
use mathlib.Core.List.{List}
use mathlib.Core.Path.{◌≡◌, refl}
use Prim.Native.Nat.{ℕ, zero, suc, ◌+◌, ◌-◌, ◌≤◌, ◌<◌}
use lib.Dec.{eqb, eqb-suc-zero}
use native.Mathlib.Numerals.{sub-one}
use native.Mathlib.Omega.{arith}
use Rattle.collect_params.specs.declared.scope.Walk.{Walk}
use Rattle.collect_params.specs.collect.Walk.{Step, times, combinator_by, argument_by, combinator_at, argument_at}

pub combinator_level : (k : ℕ) (s : List ℕ) (w : Walk) (b u : List ℕ) → combinator_at k s w b u ≡ combinator_by (eqb k 0) (combinator_at (k - 1) s) (argument_at (k - 1) s) s w b u
unfolding combinator_at combinator_by
combinator_level zero s w b u = refl
combinator_level (suc k) s w b u = rw (eqb-suc-zero, sub-one)

pub argument_level : (k : ℕ) (s : List ℕ) (w : Walk) (b u : List ℕ) → argument_at k s w b u ≡ argument_by (eqb k 0) (combinator_at (k - 1) s) (argument_at (k - 1) s) s w b u
unfolding argument_at argument_by
argument_level zero s w b u = refl
argument_level (suc k) s w b u = rw (eqb-suc-zero, sub-one)

module _ (step : Step) (w : Walk) (b u : List ℕ) where
  pub start : (n : ℕ) → times step n w b u ≡ times step (n - 0) w b u
  start n = let e : n - 0 ≡ n = omega arith in rw e

  pub more : (n i : ℕ) → i < n → times step (n - i) w b u ≡ times step (n - (i + 1)) (step w b u).0 (step w b u).1 (step w b u).2
  unfolding times
  more n i h = let e : n - i ≡ suc (n - (i + 1)) = omega arith in rw e

  pub done : (n i : ℕ) → n ≤ i → times step (n - i) w b u ≡ (w, b, u)
  unfolding times
  done n i h = let e : n - i ≡ 0 = omega arith in rw e
