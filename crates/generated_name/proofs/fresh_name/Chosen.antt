-- The chosen name: the base, or the base with the first free number.
-- Assumes nothing.
use mathlib.Core.Path.{◌≡◌, refl, sym, ap, ◌∙◌, subst}
use mathlib.Core.Logic.{◌⊎◌, inl, inr, ⊎_elim}
use mathlib.Core.List.{List}
use mathlib.Core.Bool.{true, false}
use Prim.Native.Nat.{ℕ, ◌+◌, ◌≤◌, ◌<◌}
use native.Mathlib.Omega.{arith}
use native.Mathlib.Nat.{zero-add}
use lib.Dec.{eqb}
use Rattle.std.proofs.Common.{None, Some}
use borrow.Author.Tests.{eqb-true, eqb-false}
use Rattle.layout.proofs.lookup.Names.{yes_no}
use lib.ListN.{length, take, get_or, set, length-set, take-append-drop}
use lib.Seq.{length-take-le, get_or-set_same, get_or-set_other}
use Rattle.definition.specs.Tree.{Name}
use Rattle.definition.specs.Names.{elem, numbered, fresh}
use Rattle.buffer.specs.writes.Buf.{after, Wrote}
use Rattle.buffer.proofs.writes.Put.{put_fits, within}
use Rattle.buffer.proofs.writes.Wrote.{glue}
use Rattle.generated_name.specs.child_name.Name.{Held}
use Rattle.name_table.specs.taken.Taken.{Store, row, taken, Table, Hints}
use Rattle.name_table.specs.find.Found.{Found}
use Rattle.generated_name.specs.fresh_name.Free.{FirstFree, Fresh}
use Rattle.generated_name.proofs.child_name.Held.{held_whole, stays}
use Rattle.generated_name.proofs.fresh_name.FreeNames.{fresh-base, fresh_number, held_new}
use Rattle.name_table.proofs.find.Rows.{found_not, found_is, found_name, long_free, length_taken}

-- what stands in a buffer is as good as written there
stood : (d : List ℕ) (at : ℕ) → at ≤ length d → Wrote d 0 (take at d) d at
unfolding after
stood d at h =
    let e : length (take at d) ≡ at = length-take-le at d h in
    record {
      place = omega arith;
      holds = sym (put_fits d 0 (take at d) (omega arith) ∙ rw (e, zero-add) (take-append-drop at d));
    }

-- the base is free
pub chosen_base : {d : List ℕ} {at : ℕ} {names : Store} {places : List ℕ} {n : ℕ} → Found (take at d) names places n None → at ≤ length d → Fresh d at names places n d at
chosen_base {d} {at} {names} {places} {n} f h =
    let q : fresh (take at d) (taken names places n) ≡ take at d = fresh-base (take at d) (taken names places n) (found_not (take at d) names places f) in
    record {
      within = λ k. rw q (stood d at h);
      beyond = λ k. absurd (omega arith);
      named = λ base g. subst (λ (b : Name). Held d at (fresh b (taken names places n))) (held_whole g h) (rw q (subst (λ (b : Name). Held d at b) (sym (held_whole g h)) g));
      kept = refl;
    }

-- a base that has no room is free, and stays too long
pub chosen_long : {d : List ℕ} {at : ℕ} {names : Store} {places ways : List ℕ} {n : ℕ} → Table names places ways n → 255 ≤ length d → length d < at → Fresh d at names places n d (length d + 1)
chosen_long {d} {at} {names} {places} {ways} {n} t h k = record {
  within = λ m. absurd (omega arith);
  beyond = λ m. (omega arith, refl);
  named = λ base g.
      let z = g.place in
      let e : at ≡ length d + 1 = omega arith in
      rw (fresh-base base (taken names places n) (long_free base t (omega arith))) (subst (λ (m : ℕ). Held d m base) e g);
  kept = refl;
}

module _ {d : List ℕ} {at : ℕ} {names : Store} {places hints : List ℕ} {n r : ℕ} {d' : List ℕ} {k len : ℕ} (h : Hints names places hints n) (f : Found (take at d) names places n (Some r))
    (w : FirstFree d at names places n (get_or hints r 0) d' k len) where
  -- below the first free number all are taken: the hint says so of the first, the search of the rest
  all_taken : (j : ℕ) → j < k → elem (numbered (take at d) j) (taken names places n) ≡ true
  all_taken j m = ⊎_elim
      (λ (q : get_or hints r 0 ≤ j). w.passed j q m)
      (λ (q : j < get_or hints r 0). subst (λ (b : Name). elem (numbered b j) (taken names places n) ≡ true) (found_name (take at d) names places f) (h.tried r j f.bound q))
      (within (get_or hints r 0) j)

  chosen : fresh (take at d) (taken names places n) ≡ numbered (take at d) k
  chosen =
      let e : length (taken names places n) ≡ n = length_taken names places n in
      let l = w.last in
      fresh_number (take at d) (taken names places n) k (found_is (take at d) names places f) (omega arith) all_taken (λ m. w.free (omega arith))

  pub chosen_number : at ≤ length d → Fresh d at names places n d' len
  unfolding numbered
  chosen_number m =
      let v : Wrote d 0 (fresh (take at d) (taken names places n)) d' len = rw chosen (glue (stood d at m) w.wrote) in
      record {
        within = λ q. v;
        beyond = λ q. absurd (omega arith);
        named = λ base g. subst (λ (b : Name). Held d' len (fresh b (taken names places n))) (held_whole g m) (held_new v);
        kept = stays w.wrote;
      }

  -- and the hint may say so from now on
  pub hints_kept : Hints names places (set hints r k) n
  hints_kept = record {
    hints_long = rw length-set h.hints_long;
    low = λ i m. ⊎_elim
        (λ (q : i ≡ r). rw (q, here) w.last)
        (λ (q : i ≡ r → ⊥). rw (get_or-set_other hints r i k 0 q) (h.low i m))
        (same_or_not i r);
    tried = λ i j m l. ⊎_elim
        (λ (q : i ≡ r).
        let z : j < k = rw (q, here) at l in
        subst (λ (b : Name). elem (numbered b j) (taken names places n) ≡ true) (sym (found_name (take at d) names places f) ∙ ap (row names places) (sym q)) (all_taken j z))
        (λ (q : i ≡ r → ⊥). h.tried i j m (rw (get_or-set_other hints r i k 0 q) at l))
        (same_or_not i r);
  }
    where
      here : get_or (set hints r k) r 0 ≡ k
      here = get_or-set_same hints r k 0 (let z = h.hints_long in let y : r < n = f.bound in omega arith)

      same_or_not : (a b : ℕ) → (a ≡ b) ⊎ (a ≡ b → ⊥)
      same_or_not a b = ⊎_elim (λ (q : eqb a b ≡ true). inl (eqb-true a b q)) (λ (q : eqb a b ≡ false). inr (eqb-false a b q)) (yes_no (eqb a b))
