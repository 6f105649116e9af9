-- Laws of a label's segment, and the table's rule.
-- Assumes nothing.
use mathlib.Core.Path.{◌≡◌, refl, sym, ap}
use mathlib.Core.List.{List, [], ◌∷◌, ◌++◌, append_assoc, append-nil}
use mathlib.Core.Bool.{Bool}
use Prim.Native.Nat.{ℕ, ◌+◌, ◌≤◌, ◌<◌}
use native.Mathlib.Omega.{arith}
use native.Mathlib.Numerals.{add-one}
use borrow.Author.Tests.{eq-eqb, ne_eqb}
use lib.Dec.{T}
use lib.ListN.{length, get_or, take}
use lib.Seq.{take-suc, take_all}
use Rattle.definition.specs.Names.{eq_name, letter, letters, segment, anon}
use Rattle.layout.proofs.lookup.Names.{eq_name-true}
use Rattle.buffer.specs.writes.Buf.{Wrote}
use Rattle.buffer.proofs.writes.Wrote.{glue}
use Rattle.generated_name.specs.segment.Kept.{kept}
use Rattle.generated_name.proofs.segment.Table.{every, at, T_true}

-- The rule: an entry stands for the letter of its place. One test of each entry, which antt computes over the whole table
abbrev pub right : ℕ → ℕ → Bool
right b x = eq_name (kept x) (letter b)

pub record Right (table : List ℕ) : Type 0 where
  pub long : length table ≡ 256
  pub rule : (b : ℕ) → b < 256 → kept (get_or table b 0) ≡ letter b

pub tested : (table : List ℕ) → length table ≡ 256 → T (every right 0 table) → Right table
tested table k t = record {
  long = k;
  rule = λ b h. eq_name-true (kept (get_or table b 0)) (letter b) (T_true (right b (get_or table b 0)) (at right table t b (omega arith)));
}

letters-append : (xs ys : List ℕ) → letters (xs ++ ys) ≡ letters xs ++ letters ys
unfolding letters
letters-append [] ys = refl
letters-append (x ∷ xs) ys = rw (letters-append xs ys) (simp append_assoc)

-- one byte more
more : (l : List ℕ) (i : ℕ) → i < length l → letters (take (i + 1) l) ≡ letters (take i l) ++ letter (get_or l i 0)
unfolding letters
more l i h = rw (add-one i, take-suc l i 0 h, letters-append) (simp append-nil)

module _ (l d d₁ : List ℕ) (at o i x : ℕ) (h : i < length l) (e : kept x ≡ letter (get_or l i 0)) (w : Wrote d at (letters (take i l)) d₁ o) where
  pub keeps : {d₂ : List ℕ} {r : ℕ} → (x ≡ 0 → ⊥) → Wrote d₁ o (x ∷ []) d₂ r → Wrote d at (letters (take (i + 1) l)) d₂ r
  unfolding kept
  keeps z v = rw (more l i h, ← e, ne_eqb x 0 z) (glue w v)

  pub drops : x ≡ 0 → Wrote d at (letters (take (i + 1) l)) d₁ o
  unfolding kept
  drops z = rw (more l i h, ← e, eq-eqb x 0 z, append-nil) w

pub segment_none : (l : List ℕ) → length l ≡ 0 → segment l ≡ anon
unfolding segment
segment_none [] h = refl
segment_none (b ∷ s) h = absurd (omega arith)

pub segment_all : (l : List ℕ) (i : ℕ) → (length l ≡ 0 → ⊥) → length l ≤ i → segment l ≡ letters (take i l)
unfolding segment
segment_all [] i h k = absurd (h refl)
segment_all (b ∷ s) i h k = ap letters (sym (take_all i (b ∷ s) k))
