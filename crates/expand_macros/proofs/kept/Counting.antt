-- How many definitions are kept, entry by entry.
-- Assumes nothing.
use mathlib.Core.Path.{◌≡◌, sym, ◌∙◌}
use mathlib.Core.List.{List, [], ◌∷◌}
use mathlib.Core.Bool.{Bool, true}
use Prim.Native.Nat.{ℕ, ◌+◌, ◌*◌, ◌≤◌}
use native.Mathlib.Omega.{arith}
use lib.Dec.{eqb}
use lib.ListN.{length}
use borrow.Author.Tests.{eqb-true}
use Rattle.definition.specs.Tree.{Definition, format, constant, byte_order, macro}
use Rattle.definition.specs.Write.{kind_of, kind_byte, size_of, w_book}
use Rattle.laws.specs.Book.{IsBook}
use Rattle.layout.specs.items.At.{byte_at, past_at, number_at}
use Rattle.walker.specs.definitions.Listed.{Listed}
use Rattle.walker.proofs.definitions.Listed.{listed_kind, listed_next, book_listed}
use Rattle.expand_macros.specs.kept.Kept.{kept_of, KeptOf, Macroless}

-- the count r, from an entry on, where n were counted before it
pub record Counting (book : List ℕ) (entry left n r : ℕ) : Type 0 where
  pub says : (ds : List Definition) (at : ℕ) → Listed book entry at ds → left ≡ length ds → r ≡ n + kept_of ds

on : {book : List ℕ} {entry entry₁ at : ℕ} {d : Definition} {ds : List Definition} → entry₁ ≡ past_at book entry 6 → Listed book entry at (d ∷ ds) → Listed book entry₁ (past_at book at (size_of d)) ds
on he l = rw he (listed_next l)

module _ {book : List ℕ} {entry left n : ℕ} where
  pub counting_none : left ≤ 0 → Counting book entry left n n
  unfolding kept_of
  counting_none k = record { says = λ ds at l e. none ds e }
    where
      none : (ds : List Definition) → left ≡ length ds → n ≡ n + kept_of ds
      none [] e = omega arith
      none (d ∷ ds) e = absurd (omega arith)

  module _ {left₁ : ℕ} (k : left ≡ left₁ + 1) {kind entry₁ r : ℕ} (hk : kind ≡ byte_at book entry) (he : entry₁ ≡ past_at book entry 6) where
    pub counting_kept : (kind ≡ 4 → ⊥) → Counting book entry₁ left₁ (n + 1) r → Counting book entry left n r
    unfolding kept_of kind_byte kind_of
    counting_kept f c = record { says = λ ds at l e. step ds at l e }
      where
        step : (ds : List Definition) (at : ℕ) → Listed book entry at ds → left ≡ length ds → r ≡ n + kept_of ds
        step [] at l e = absurd (omega arith)
        step (format m ps b ∷ ds) at l e = omega (arith, c.says ds _ (on he l) (omega arith))
        step (constant m x ∷ ds) at l e = omega (arith, c.says ds _ (on he l) (omega arith))
        step (byte_order x ∷ ds) at l e = omega (arith, c.says ds _ (on he l) (omega arith))
        step (macro m ps b ∷ ds) at l e = absurd (f (hk ∙ listed_kind l))

    pub counting_macro : kind ≡ 4 → Counting book entry₁ left₁ n r → Counting book entry left n r
    unfolding kept_of kind_byte kind_of
    counting_macro f c = record { says = λ ds at l e. step ds at l e }
      where
        step : (ds : List Definition) (at : ℕ) → Listed book entry at ds → left ≡ length ds → r ≡ n + kept_of ds
        step [] at l e = absurd (omega arith)
        step (format m ps b ∷ ds) at l e = absurd (omega (arith, listed_kind l))
        step (constant m x ∷ ds) at l e = absurd (omega (arith, listed_kind l))
        step (byte_order x ∷ ds) at l e = absurd (omega (arith, listed_kind l))
        step (macro m ps b ∷ ds) at l e = c.says ds _ (on he l) (omega arith)

pub counted : {book : List ℕ} {entry left r : ℕ} → left ≡ number_at book 0 → entry ≡ past_at book 0 2 → Counting book entry left 0 r → KeptOf book r
counted {book} el ee c = record {
  says = λ ds e b.
      let w = book_listed book ds e b in
      c.says ds (past_at book 2 (6 * length ds)) (rw ee w.1) (el ∙ w.0) ∙ (let z : 0 + kept_of ds ≡ kept_of ds = omega arith in z);
}

pub told : {book : List ℕ} {n all : ℕ} → KeptOf book n → all ≡ number_at book 0 → Macroless book (eqb n all)
told {book} k e = record { says = λ ds w i. rw (k.says ds w i, e, (book_listed book ds w i).0) }

pub kept_few : (ds : List Definition) → kept_of ds ≤ length ds
unfolding kept_of
kept_few [] = omega arith
kept_few (format m ps c ∷ ds) = omega (arith, kept_few ds)
kept_few (constant m x ∷ ds) = omega (arith, kept_few ds)
kept_few (byte_order x ∷ ds) = omega (arith, kept_few ds)
kept_few (macro m ps c ∷ ds) = omega (arith, kept_few ds)

-- what a yes says
pub all-kept : {book : List ℕ} {r : Bool} → Macroless book r → r ≡ true → (ds : List Definition) → book ≡ w_book ds → IsBook ds → kept_of ds ≡ length ds
all-kept m t ds w i = eqb-true (kept_of ds) (length ds) (sym (m.says ds w i) ∙ t)
