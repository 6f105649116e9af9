-- The loop of a substitution: whoever writes the rest from here has written all from the start.
-- Assumes nothing.
use mathlib.Core.Path.{◌≡◌, refl, ap, ◌∙◌}
use mathlib.Core.List.{List, [], ◌∷◌, ◌++◌}
use mathlib.Core.Bool.{true, false}
use Prim.Native.Nat.{ℕ, zero, suc, ◌+◌, ◌*◌, ◌/◌, ◌≤◌, ◌<◌, min}
use native.Mathlib.Numerals.{add-one}
use native.Mathlib.Omega.{arith}
use lib.ListN.{length, get_or, take, drop, length-drop}
use lib.Seq.{drop-cons, drop-drop}
use Rattle.std.specs.Simd.{first_chunks}
use Rattle.definition.specs.Tree.{Name}
use Rattle.buffer.specs.writes.Buf.{Wrote, part}
use Rattle.buffer.proofs.writes.Wrote.{glue, place_is, same_length}
use Rattle.buffer.specs.areas.First.{first}
use Rattle.buffer.proofs.areas.First.{first_kept}
use Rattle.substitute.specs.substitution.Substituted.{calls_name_of, substituted}

-- two of what is left
pub drop_two : (l : List ℕ) (i : ℕ) → i + 1 < length l → drop i l ≡ get_or l i 0 ∷ get_or l (i + 1) 0 ∷ drop (i + 2) l
drop_two l i h =
    let k : i + 2 ≡ suc (suc i) = omega arith in
    drop-cons l i 0 (omega arith) ∙ ap (λ (t : List ℕ). get_or l i 0 ∷ t) (drop-cons l (suc i) 0 (omega arith)) ∙ rw (k, add-one i)

-- the pairs of a list
pub pair_at : (l : List ℕ) (k i : ℕ) → i < k → get_or (first_chunks 2 k l) i [] ≡ take 2 (drop (2 * i) l)
pair_at l zero i h = absurd (omega arith)
pair_at l (suc k) zero h = refl
pair_at l (suc k) (suc i) h =
    let e : 2 * suc i ≡ 2 + 2 * i = omega arith in
    rw (e, pair_at (drop 2 l) k i (omega arith), drop-drop)

module _ (l : List ℕ) (i : ℕ) (h : i < length l / 2) where
  pub first_of_pair : get_or (get_or (first_chunks 2 (length l / 2) l) i []) 0 0 ≡ get_or l (2 * i) 0
  first_of_pair = rw (pair_at l (length l / 2) i h, drop_two l (2 * i) (omega arith))

  pub last_of_pair : get_or (get_or (first_chunks 2 (length l / 2) l) i []) 1 0 ≡ get_or l (2 * i + 1) 0
  last_of_pair = rw (pair_at l (length l / 2) i h, drop_two l (2 * i) (omega arith))

module _ (s : List ℕ) (p : Name) (a : List ℕ) (to : ℕ) where
  last : (l : List ℕ) (at : ℕ) → length l ≤ 1 → substituted s p a to l at ≡ part at to s
  unfolding substituted
  last [] at h = refl
  last (x ∷ []) at h = refl
  last (x ∷ e ∷ l) at h = absurd (omega arith)

  on_call : (l : List ℕ) (i at : ℕ) → i + 1 < length l → calls_name_of s (get_or l i 0) p ≡ true
      → substituted s p a to (drop i l) at ≡ (part at (get_or l i 0) s ++ (a ++ substituted s p a to (drop (i + 2) l) (get_or l (i + 1) 0)))
  unfolding substituted
  on_call l i at h e = rw (drop_two l i h, e)

  on_other : (l : List ℕ) (i at : ℕ) → i + 1 < length l → calls_name_of s (get_or l i 0) p ≡ false → substituted s p a to (drop i l) at ≡ substituted s p a to (drop (i + 2) l) at
  unfolding substituted
  on_other l i at h e = rw (drop_two l i h, e)

-- s is the first area, and the second is written
module _ (p : Name) (a : List ℕ) (to : ℕ) (marks d₀ : List ℕ) where
  pub record Copied (d : List ℕ) (at o i : ℕ) : Type 0 where
    pub low : i ≤ length marks
    pub long : length d ≡ length d₀
    pub far : min 16384 (length d + 1) ≤ o
    pub kept : first d ≡ first d₀
    pub goes : (e : List ℕ) (r : ℕ) → Wrote d o (substituted (first d₀) p a to (drop i marks) at) e r → Wrote d₀ 16384 (substituted (first d₀) p a to marks 0) e r

  pub copied_none : Copied d₀ 0 16384 0
  copied_none = record { low = omega arith; long = refl; far = omega arith; kept = refl; goes = λ e r w. w }

  module _ {d : List ℕ} {at o i : ℕ} (v : Copied d at o i) where
    pub copied_call : i + 1 < length marks → calls_name_of (first d) (get_or marks i 0) p ≡ true → {d₁ d₂ : List ℕ} {q o₂ : ℕ} → Wrote d o (part at (get_or marks i 0) (first d)) d₁ q → Wrote d₁ q a d₂ o₂ → Copied d₂ (get_or marks (i + 1) 0) o₂ (i + 2)
    copied_call h e {d₁} {d₂} {q} {o₂} w₁ w₂ =
        let f : min 16384 (length d₁ + 1) ≤ q = omega (arith, v.far, place_is w₁, same_length w₁) in
        record {
          low = omega arith;
          long = same_length w₂ ∙ same_length w₁ ∙ v.long;
          far = omega (arith, place_is w₂, same_length w₂);
          kept = first_kept w₂ f ∙ first_kept w₁ v.far ∙ v.kept;
          goes = λ g r w. v.goes g r (rw (on_call (first d₀) p a to marks i at h (rw v.kept at e)) (glue (rw v.kept at w₁) (glue w₂ w)));
        }

    pub copied_other : i + 1 < length marks → calls_name_of (first d) (get_or marks i 0) p ≡ false → Copied d at o (i + 2)
    copied_other h e = record { low = omega arith; long = v.long; far = v.far; kept = v.kept; goes = λ f r w. v.goes f r (rw (on_other (first d₀) p a to marks i at h (rw v.kept at e)) w) }

    pub copied_all : length marks ≤ i + 1 → {e : List ℕ} {r : ℕ} → Wrote d o (part at to (first d)) e r → Wrote d₀ 16384 (substituted (first d₀) p a to marks 0) e r
    copied_all h w = v.goes _ _ (rw (last (first d₀) p a to (drop i marks) at (rw length-drop (omega arith))) (rw v.kept at w))

  -- the marks as pairs
  module _ {d : List ℕ} {at o i : ℕ} (v : Copied d at o (2 * i)) {calls : List (List ℕ)} (ec : calls ≡ first_chunks 2 (length marks / 2) marks) (h : i < length calls) (long : length calls ≡ length marks / 2) {x : ℕ} (ex : x ≡ get_or (get_or calls i []) 0 0) where
    within : i < length marks / 2
    within = omega arith

    two_on : 2 * (i + 1) ≡ 2 * i + 2
    two_on = omega arith

    call_at : x ≡ get_or marks (2 * i) 0
    call_at = ex ∙ ap (λ (m : List (List ℕ)). get_or (get_or m i []) 0 0) ec ∙ first_of_pair marks i within

    pub paired_call : calls_name_of (first d) x p ≡ true → {d₁ d₂ : List ℕ} {q o₂ y : ℕ} → Wrote d o (part at x (first d)) d₁ q → Wrote d₁ q a d₂ o₂ → y ≡ get_or (get_or calls i []) 1 0 → Copied d₂ y o₂ (2 * (i + 1))
    paired_call e w₁ w₂ ey =
        let end_at = ey ∙ ap (λ (m : List (List ℕ)). get_or (get_or m i []) 1 0) ec ∙ last_of_pair marks i within in
        rw (two_on, end_at) (copied_call v (omega (arith, within)) (rw call_at at e) (rw call_at at w₁) w₂)

    pub paired_other : calls_name_of (first d) x p ≡ false → Copied d at o (2 * (i + 1))
    paired_other e = rw two_on (copied_other v (omega (arith, within)) (rw call_at at e))
