-- The test by position, unrolled by one level in the code's own terms.
-- Assumes nothing.
use mathlib.Core.List.{List}
use mathlib.Core.Bool.{true, false}
use mathlib.Core.Path.{◌≡◌, refl, ◌∙◌}
use Prim.Native.Nat.{ℕ, zero, suc, ◌-◌, ◌≤◌}
use mathlib.Core.Logic.{◌⊎◌}
use lib.Dec.{eqb, eqb-suc-zero}
use native.Mathlib.Numerals.{sub-one}
use native.Mathlib.Omega.{arith}
use borrow.Author.Tests.{eqb-false, ne_eqb}
use Rattle.laws.proofs.Tests.{by_test}
use Rattle.layout.specs.items.At.{byte_at, past_at, text_past_of, length_past_of}
use Rattle.expand_combinator.specs.anonymous.Anonymous.{anonymous_by, anonymous_at}

anonymous_level : (k : ℕ) (s : List ℕ) (at : ℕ) → anonymous_at k s at ≡ anonymous_by (eqb k 0) (anonymous_at (k - 1) s) s at
unfolding anonymous_at anonymous_by
anonymous_level zero s at = refl
anonymous_level (suc k) s at = rw (eqb-suc-zero, sub-one)

pub level_none : (k : ℕ) (s : List ℕ) (at : ℕ) → k ≡ 0 → anonymous_at k s at ≡ false
unfolding anonymous_by
level_none k s at e = rw (anonymous_level, e)

module _ (k : ℕ) (s : List ℕ) (at : ℕ) (some : k ≡ 0 → ⊥) where
  level : anonymous_at k s at ≡ anonymous_by false (anonymous_at (k - 1) s) s at
  level = rw (anonymous_level, ne_eqb k 0 some)

  pub level_own : 3 ≤ byte_at s at → byte_at s at ≤ 7 → (byte_at s at ≡ 5 → ⊥) → anonymous_at k s at ≡ true
  unfolding anonymous_by
  level_own a b c = level ∙ rw (ne_eqb (byte_at s at) 5 c) (
      by_test (eqb (byte_at s at) 3) (λ (e : eqb (byte_at s at) 3 ≡ true). rw e) (λ (e : eqb (byte_at s at) 3 ≡ false). rw e (
      by_test (eqb (byte_at s at) 4) (λ (f : eqb (byte_at s at) 4 ≡ true). rw f) (λ (f : eqb (byte_at s at) 4 ≡ false). rw f (
      by_test (eqb (byte_at s at) 6) (λ (g : eqb (byte_at s at) 6 ≡ true). rw g) (λ (g : eqb (byte_at s at) 6 ≡ false). rw g (
      let x = eqb-false _ _ e in
      let y = eqb-false _ _ f in
      let z = eqb-false _ _ g in
      let q : byte_at s at ≡ 7 = omega arith in rw q)))))))

  pub level_wrap : byte_at s at ≡ 5 → anonymous_at k s at ≡ anonymous_at (k - 1) s (text_past_of s (past_at s at 1))
  unfolding anonymous_by
  level_wrap e = level ∙ rw e refl

  pub level_vec : byte_at s at ≡ 8 → anonymous_at k s at ≡ anonymous_at (k - 1) s (past_at s at 1)
  unfolding anonymous_by
  level_vec e = level ∙ rw e refl

  pub level_option : byte_at s at ≡ 12 → anonymous_at k s at ≡ anonymous_at (k - 1) s (past_at s at 1)
  unfolding anonymous_by
  level_option e = level ∙ rw e refl

  pub level_array : byte_at s at ≡ 9 → anonymous_at k s at ≡ anonymous_at (k - 1) s (length_past_of s (past_at s at 1))
  unfolding anonymous_by
  level_array e = level ∙ rw e refl

  pub level_other : byte_at s at ≤ 2 ⊎ (byte_at s at ≡ 10) ⊎ (byte_at s at ≡ 11) ⊎ (13 ≤ byte_at s at) → anonymous_at k s at ≡ false
  unfolding anonymous_by
  level_other h = level ∙ rw (ne_eqb (byte_at s at) 3 (omega arith), ne_eqb (byte_at s at) 4 (omega arith), ne_eqb (byte_at s at) 5 (omega arith), ne_eqb (byte_at s at) 6 (omega arith), ne_eqb (byte_at s at) 7 (omega arith), ne_eqb (byte_at s at) 8 (omega arith), ne_eqb (byte_at s at) 9 (omega arith), ne_eqb (byte_at s at) 12 (omega arith)) refl
