-- Merging, step by step.
-- Assumes nothing.
use mathlib.Core.Path.{◌≡◌, refl, sym, ap, ◌∙◌}
use mathlib.Core.Logic.{⊎_elim}
use mathlib.Core.List.{List, [], ◌∷◌}
use mathlib.Core.Bool.{true, false, not}
use Prim.Native.Nat.{ℕ, zero, suc, ◌+◌, ◌-◌, ◌≤◌, ◌<◌}
use native.Mathlib.Omega.{arith}
use lib.ListN.{length, get_or, set, take, drop, length-set, length-drop}
use lib.Seq.{drop-cons, take_all}
use Rattle.definition.specs.Names.{before}
use Rattle.laws.proofs.Tests.{yes_no, not_both}
use Rattle.buffer.specs.writes.Buf.{put}
use Rattle.buffer.proofs.writes.Put.{put-nil}
use Rattle.collect_params.specs.uses.Uses.{name_in}
use Rattle.collect_params.specs.sort.Sort.{left_first, merged}
use Rattle.collect_params.proofs.sort.Tables.{put_step, put_whole}

-- whose the next is, by what the code tests
pub left_none : (s l r : List ℕ) → length l ≡ 0 → false ≡ left_first s l r
unfolding left_first
left_none s [] r e = refl
left_none s (x ∷ l) r e = absurd (omega arith)

pub left_only : (s l r : List ℕ) → (length l ≡ 0 → ⊥) → length r ≡ 0 → true ≡ left_first s l r
unfolding left_first
left_only s [] r h e = absurd (h refl)
left_only s (x ∷ l) [] h e = refl
left_only s (x ∷ l) (y ∷ r) h e = absurd (omega arith)

pub left_two : (s l r : List ℕ) → (length l ≡ 0 → ⊥) → (length r ≡ 0 → ⊥) → not (before (name_in s (get_or r 0 0)) (name_in s (get_or l 0 0))) ≡ left_first s l r
unfolding left_first
left_two s [] r h g = absurd (h refl)
left_two s (x ∷ l) [] h g = absurd (g refl)
left_two s (x ∷ l) (y ∷ r) h g = ⊎_elim
    (λ (e : before (name_in s y) (name_in s x) ≡ true). rw e)
    (λ (e : before (name_in s y) (name_in s x) ≡ false). rw e)
    (yes_no (before (name_in s y) (name_in s x)))

module _ (s : List ℕ) (n : ℕ) where
  take_left : (x : ℕ) (l r : List ℕ) → left_first s (x ∷ l) r ≡ true → merged s (suc n) (x ∷ l) r ≡ x ∷ merged s n l r
  unfolding left_first merged
  take_left x l [] e = refl
  take_left x l (y ∷ r) e = ⊎_elim
      (λ (f : before (name_in s y) (name_in s x) ≡ true). not_both false (rw f at e) refl)
      (λ (f : before (name_in s y) (name_in s x) ≡ false). rw f)
      (yes_no (before (name_in s y) (name_in s x)))

  take_right : (l : List ℕ) (y : ℕ) (r : List ℕ) → left_first s l (y ∷ r) ≡ false → merged s (suc n) l (y ∷ r) ≡ y ∷ merged s n l r
  unfolding left_first merged
  take_right [] y r e = refl
  take_right (x ∷ l) y r e = ⊎_elim
      (λ (f : before (name_in s y) (name_in s x) ≡ true). rw f)
      (λ (f : before (name_in s y) (name_in s x) ≡ false). not_both true refl (rw f at e))
      (yes_no (before (name_in s y) (name_in s x)))

-- which list has one more
left_some : (s l r : List ℕ) → left_first s l r ≡ true → 0 < length l
unfolding left_first
left_some s [] r e = not_both false e refl
left_some s (x ∷ l) r e = omega arith

right_some : (s l r : List ℕ) → 0 < length l + length r → left_first s l r ≡ false → 0 < length r
unfolding left_first
right_some s l (y ∷ r) h e = omega arith
right_some s [] [] h e = absurd (omega arith)
right_some s (x ∷ l) [] h e = not_both true refl e

pub merged-length : (s : List ℕ) (n : ℕ) (l r : List ℕ) → n ≡ length l + length r → length (merged s n l r) ≡ n
unfolding merged
merged-length s zero l r e = refl
merged-length s (suc n) [] [] e = absurd (omega arith)
merged-length s (suc n) (x ∷ l) [] e = let h = merged-length s n l [] (omega arith) in omega arith
merged-length s (suc n) [] (y ∷ r) e = let h = merged-length s n [] r (omega arith) in omega arith
merged-length s (suc n) (x ∷ l) (y ∷ r) e = ⊎_elim
    (λ (f : before (name_in s y) (name_in s x) ≡ true). rw f (let h = merged-length s n (x ∷ l) r (omega arith) in omega arith))
    (λ (f : before (name_in s y) (name_in s x) ≡ false). rw f (let h = merged-length s n l (y ∷ r) (omega arith) in omega arith))
    (yes_no (before (name_in s y) (name_in s x)))

-- whoever finishes from l, r and k has merged all
pub record Merging (s left right dst₀ l r : List ℕ) (k : ℕ) (dst : List ℕ) : Type 0 where
  pub sum : k + (length l + length r) ≡ length dst₀
  pub long : length dst ≡ length dst₀
  pub rest : put dst k (merged s (length dst₀ - k) l r) ≡ put dst₀ 0 (merged s (length dst₀) left right)

pub merging_all : (s left right dst : List ℕ) → length dst ≡ length left + length right → Merging s left right dst left right 0 dst
merging_all s left right dst h = record { sum = omega arith; long = refl; rest = let z : length dst - 0 ≡ length dst = omega arith in rw z }

module _ {s left right dst₀ l r : List ℕ} {k : ℕ} {dst : List ℕ} (p : Merging s left right dst₀ l r k dst) where
  pub merging_done : length dst₀ ≡ length left + length right → length dst₀ ≤ k → dst ≡ merged s (length dst₀) left right
  unfolding merged
  merging_done g h =
      let z : length dst₀ - k ≡ 0 = omega arith in
      let e : put dst k (merged s (length dst₀ - k) l r) ≡ dst = rw z (put-nil dst k) in
      sym e ∙ p.rest ∙ put_whole dst₀ (merged s (length dst₀) left right) (merged-length s (length dst₀) left right g)

  module _ (h : k < length dst₀) where
    one_more : length dst₀ - k ≡ suc (length dst₀ - (k + 1))
    one_more = omega arith

    pub left_there : true ≡ left_first s l r → 0 < length l
    left_there e = left_some s l r (sym e)

    pub right_there : false ≡ left_first s l r → 0 < length r
    right_there e = right_some s l r (let z = p.sum in omega arith) (sym e)

    one_left : true ≡ left_first s l r → 0 < length l → Merging s left right dst₀ (drop 1 l) r (k + 1) (set dst k (get_or l 0 0))
    one_left e g =
        let c : l ≡ get_or l 0 0 ∷ drop 1 l = drop-cons l 0 0 g in
        record {
          sum = omega (arith, p.sum, length-drop 1 l);
          long = length-set dst k (get_or l 0 0) ∙ p.long;
          rest =
              put_step dst k (get_or l 0 0) _ (omega (arith, p.long))
              ∙ ap (put dst k) (sym (rw one_more (ap (λ (m : List ℕ). merged s (suc (length dst₀ - (k + 1))) m r) c ∙ take_left s (length dst₀ - (k + 1)) (get_or l 0 0) (drop 1 l) r (sym (ap (λ (m : List ℕ). left_first s m r) c) ∙ sym e))))
              ∙ p.rest;
        }

    pub merge_left : true ≡ left_first s l r → {rest : List ℕ} → rest ≡ take (length l - 1) (drop 1 l) → Merging s left right dst₀ rest r (k + 1) (set dst k (get_or l 0 0))
    merge_left e er =
        let g = left_there e in
        rw (er, take_all (length l - 1) (drop 1 l) (omega (arith, length-drop 1 l))) (one_left e g)

    one_right : false ≡ left_first s l r → 0 < length r → Merging s left right dst₀ l (drop 1 r) (k + 1) (set dst k (get_or r 0 0))
    one_right e g =
        let c : r ≡ get_or r 0 0 ∷ drop 1 r = drop-cons r 0 0 g in
        record {
          sum = omega (arith, p.sum, length-drop 1 r);
          long = length-set dst k (get_or r 0 0) ∙ p.long;
          rest =
              put_step dst k (get_or r 0 0) _ (omega (arith, p.long))
              ∙ ap (put dst k) (sym (rw one_more (ap (λ (m : List ℕ). merged s (suc (length dst₀ - (k + 1))) l m) c ∙ take_right s (length dst₀ - (k + 1)) l (get_or r 0 0) (drop 1 r) (sym (ap (λ (m : List ℕ). left_first s l m) c) ∙ sym e))))
              ∙ p.rest;
        }

    pub merge_right : false ≡ left_first s l r → {rest : List ℕ} → rest ≡ take (length r - 1) (drop 1 r) → Merging s left right dst₀ l rest (k + 1) (set dst k (get_or r 0 0))
    merge_right e er =
        let g = right_there e in
        rw (er, take_all (length r - 1) (drop 1 r) (omega (arith, length-drop 1 r))) (one_right e g)
