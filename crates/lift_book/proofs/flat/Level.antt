-- The walk, unrolled by one level or one step in the code's own terms.
-- Assumes nothing.
use mathlib.Core.List.{List}
use mathlib.Core.Path.{◌≡◌, refl, ◌∙◌}
use Prim.Native.Nat.{ℕ, zero, suc, ◌+◌, ◌-◌, ◌≤◌, ◌<◌}
use lib.Dec.{eqb, eqb-suc-zero}
use native.Mathlib.Numerals.{sub-one}
use native.Mathlib.Omega.{arith}
use Rattle.std.specs.Prelude.{Some, None, option_and_then}
use Rattle.lift_book.specs.flat.Past.{Step, times, combinator_by, calm_past_of}

pub calm_level : (k : ℕ) (s : List ℕ) (at : ℕ) → calm_past_of k s at ≡ combinator_by (eqb k 0) (calm_past_of (k - 1) s) s at
unfolding calm_past_of combinator_by
calm_level zero s at = refl
calm_level (suc k) s at = rw (eqb-suc-zero, sub-one)

-- after i steps of n
module _ (step : Step) (n i at : ℕ) where
  more : i < n → times step (n - i) at ≡ option_and_then (times step (n - (i + 1))) (step at)
  unfolding times
  more h = let k : n - i ≡ suc (n - (i + 1)) = omega arith in rw k

  pub next : (e : ℕ) → i < n → Some e ≡ step at → times step (n - i) at ≡ times step (n - (i + 1)) e
  next e h g = more h ∙ rw (← g)

  pub stop : i < n → None ≡ step at → times step (n - i) at ≡ None
  stop h g = more h ∙ rw (← g)

  pub done : n ≤ i → times step (n - i) at ≡ Some at
  unfolding times
  done h = let k : n - i ≡ 0 = omega arith in rw k
