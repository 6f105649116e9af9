-- The walk, unrolled by one level or one step in the code's own terms.
-- Assumes nothing.
use mathlib.Core.List.{List}
use mathlib.Core.Path.{◌≡◌, refl}
use Prim.Native.Nat.{ℕ, zero, suc, ◌+◌, ◌-◌, ◌≤◌, ◌<◌}
use lib.Dec.{eqb, eqb-suc-zero}
use native.Mathlib.Numerals.{sub-one}
use native.Mathlib.Omega.{arith}
use Rattle.walker.specs.measure.Measure.{Step, times, combinator_by, argument_by, combinator_at, argument_at}

pub combinator_level : (k : ℕ) (s : List ℕ) (at : ℕ) (t : List ℕ) → combinator_at k s at t ≡ combinator_by (eqb k 0) (combinator_at (k - 1) s) (argument_at (k - 1) s) s at t
unfolding combinator_at combinator_by
combinator_level zero s at t = refl
combinator_level (suc k) s at t = rw (eqb-suc-zero, sub-one)

pub argument_level : (k : ℕ) (s : List ℕ) (at : ℕ) (t : List ℕ) → argument_at k s at t ≡ argument_by (eqb k 0) (combinator_at (k - 1) s) (argument_at (k - 1) s) s at t
unfolding argument_at argument_by
argument_level zero s at t = refl
argument_level (suc k) s at t = rw (eqb-suc-zero, sub-one)

-- of n steps i are done
module _ (step : Step) (n i : ℕ) (at : ℕ) (t : List ℕ) where
  pub more : i < n → times step (n - i) at t ≡ times step (n - (i + 1)) (step at t).0 (step at t).1
  unfolding times
  more h = let e : n - i ≡ suc (n - (i + 1)) = omega arith in rw e

  pub done : n ≤ i → times step (n - i) at t ≡ (at, t)
  unfolding times
  done h = let e : n - i ≡ 0 = omega arith in rw e

pub all_steps : (step : Step) (n : ℕ) (at : ℕ) (t : List ℕ) {g : ℕ × List ℕ} → times step (n - 0) at t ≡ g → times step n at t ≡ g
all_steps step n at t e = let z : n - 0 ≡ n = omega arith in rw z at e
