-- The walk, unrolled by one level or one step in the code's own terms.
-- Assumes nothing.
use mathlib.Core.List.{List}
use mathlib.Core.Path.{◌≡◌, refl}
use Prim.Native.Nat.{ℕ, zero, suc, ◌+◌, ◌-◌, ◌≤◌, ◌<◌}
use lib.Dec.{eqb, eqb-suc-zero}
use native.Mathlib.Numerals.{sub-one}
use native.Mathlib.Omega.{arith}
use Rattle.walker.specs.declared.walk.Walk.{Walk}
use Rattle.walker.specs.calls.Walk.{Step, times, combinator_by, argument_by, combinator_at, argument_at}

pub combinator_level : (k : ℕ) (s : List ℕ) (w : Walk) (m : List ℕ) → combinator_at k s w m ≡ combinator_by (eqb k 0) (k - 1) (combinator_at (k - 1) s) (argument_at (k - 1) s) s w m
unfolding combinator_at combinator_by
combinator_level zero s w m = refl
combinator_level (suc k) s w m = rw (eqb-suc-zero, sub-one)

pub argument_level : (k : ℕ) (s : List ℕ) (w : Walk) (m : List ℕ) → argument_at k s w m ≡ argument_by (eqb k 0) (k - 1) (combinator_at (k - 1) s) (argument_at (k - 1) s) s w m
unfolding argument_at argument_by
argument_level zero s w m = refl
argument_level (suc k) s w m = rw (eqb-suc-zero, sub-one)

-- of n steps i are done
module _ (step : Step) (n i : ℕ) (w : Walk) (m : List ℕ) where
  pub more : i < n → times step (n - i) w m ≡ times step (n - (i + 1)) (step w m).0 (step w m).1
  unfolding times
  more h = let e : n - i ≡ suc (n - (i + 1)) = omega arith in rw e

  pub done : n ≤ i → times step (n - i) w m ≡ (w, m)
  unfolding times
  done h = let e : n - i ≡ 0 = omega arith in rw e

pub all_steps : (step : Step) (n : ℕ) (w : Walk) (m : List ℕ) {g : Walk × List ℕ} → times step (n - 0) w m ≡ g → times step n w m ≡ g
all_steps step n w m e = let z : n - 0 ≡ n = omega arith in rw z at e
