-- The line of a refusal, from its pieces.
-- Assumes nothing.
use mathlib.Core.Path.{◌≡◌, sym, subst, ◌∙◌}
use mathlib.Core.List.{List, [], ◌∷◌, ◌++◌, append-nil}
use mathlib.Core.Bool.{Bool, true, false}
use Prim.Native.Nat.{ℕ}
use Rattle.definition.specs.Listing.{count, has_place_of, w_at, placed}
use Rattle.buffer.specs.writes.Buf.{Wrote}
use Rattle.buffer.proofs.writes.Wrote.{glue}
use Rattle.listing_lines.specs.refusal.Refusal.{refusal}

abbrev w_refused : List ℕ
w_refused = 114 ∷ 101 ∷ 102 ∷ 117 ∷ 115 ∷ 101 ∷ 100 ∷ []

module _ (n p : ℕ) {t : Bool} (h : t ≡ has_place_of n) {d₀ d₁ d₂ : List ℕ} {o₁ o₂ : ℕ} (a : Wrote d₀ 0 w_refused d₁ o₁) (b : Wrote d₁ o₁ (count n) d₂ o₂) where
  pub with_place : t ≡ true → {d₃ d₄ d₅ : List ℕ} {o₃ o₄ o₅ : ℕ} → Wrote d₂ o₂ w_at d₃ o₃ → Wrote d₃ o₃ (count p) d₄ o₄ → Wrote d₄ o₄ (10 ∷ []) d₅ o₅ → Wrote d₀ 0 (refusal n p) d₅ o₅
  unfolding refusal placed
  with_place e w x y = rw (sym h ∙ e) (glue (glue (glue a b) (glue w x)) y)

  pub without_place : t ≡ false → {d₃ : List ℕ} {o₃ : ℕ} → Wrote d₂ o₂ (10 ∷ []) d₃ o₃ → Wrote d₀ 0 (refusal n p) d₃ o₃
  unfolding refusal placed
  without_place e {d₃} {o₃} y = rw (sym h ∙ e) (subst (λ (l : List ℕ). Wrote d₀ 0 (l ++ (10 ∷ [])) d₃ o₃) (sym (append-nil (w_refused ++ count n))) (glue (glue a b) y))
