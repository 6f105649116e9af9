-- The bytes of characters, one at a time.
-- Assumes nothing.
use mathlib.Core.Path.{◌≡◌, refl, sym, ap}
use mathlib.Core.List.{List, [], ◌∷◌}
use mathlib.Core.Bool.{false}
use mathlib.Core.Logic.{◌⊎◌, ⊎_elim}
use Prim.Native.Nat.{ℕ, zero, suc, ◌-◌, ◌≤◌, ◌<◌}
use native.Mathlib.Numerals.{sub-one}
use native.Mathlib.Omega.{arith}
use borrow.Author.Tests.{le-leb, lt-leb}
use lib.Dec.{eqb, eqb-suc-zero}
use Rattle.definition.specs.Utf8.{Range, range, behind, characters, inside}
use Rattle.read_book.specs.characters.Ranges.{ranges_by}

no_byte : (b : ℕ) → inside (range 1 0) b ≡ false
no_byte zero = refl
no_byte (suc b) = rw (le-leb 1 (suc b) (omega arith), lt-leb (suc b) 0 (omega arith))

-- what awaits a byte in no range is never met
never : (t : List ℕ) → characters (ranges_by 1 (range 1 0)) t ≡ false
unfolding characters ranges_by
never [] = refl
never (b ∷ t) = rw (no_byte b)

module _ (low high b : ℕ) (t : List ℕ) where
  pub c_lead : (n : ℕ) (q : List Range) → n ≡ 0 → behind b ≡ q → characters (ranges_by n (range low high)) (b ∷ t) ≡ characters q t
  unfolding characters ranges_by
  c_lead n q e f = rw e (ap (λ (x : List Range). characters x t) f)

  pub c_out : (n : ℕ) → (n ≡ 0 → ⊥) → (b < low) ⊎ ((low ≤ b) × (high < b)) → characters (ranges_by n (range low high)) (b ∷ t) ≡ characters (ranges_by 1 (range 1 0)) t
  unfolding characters ranges_by
  c_out zero f o = absurd (f refl)
  c_out (suc n) f o =
      ⊎_elim (λ (h : b < low). rw (lt-leb low b h, never t)) (λ (h : (low ≤ b) × (high < b)). rw (le-leb low b h.0, lt-leb b high h.1, never t)) o

  pub c_in : (n : ℕ) → (n ≡ 0 → ⊥) → low ≤ b → b ≤ high → characters (ranges_by n (range low high)) (b ∷ t) ≡ characters (ranges_by (n - 1) (range 128 191)) t
  unfolding characters ranges_by
  c_in zero f l h = absurd (f refl)
  c_in (suc n) f l h = rw (le-leb low b l, le-leb b high h, sub-one)

pub c_end : (n : ℕ) (r : Range) → characters (ranges_by n r) [] ≡ eqb n 0
unfolding characters ranges_by
c_end zero r = refl
c_end (suc n) r = sym (eqb-suc-zero n)
