-- Writes one after the other, and what a place within the buffer tells of them.
-- Assumes nothing.
use mathlib.Core.Path.{◌≡◌, sym, ap, ◌∙◌}
use mathlib.Core.Logic.{⊎_elim}
use mathlib.Core.List.{List, [], ◌∷◌, ◌++◌}
use Prim.Native.Nat.{ℕ, suc, ◌+◌, ◌-◌, ◌≤◌, ◌<◌, min}
use native.Mathlib.Omega.{arith}
use borrow.Rule.Slice.PartMut.{put_mid}
use lib.Seq.{length-take-le, drop-drop}
use lib.ListN.{length, set, take, drop, length-append, length-take, length-drop, take-append-drop}
use Rattle.buffer.specs.writes.Buf.{put, after, Wrote}
use Rattle.buffer.proofs.writes.Put.{length-put, put-nil, put_past, put-put, put_cut, put_first, put_mid_is, within}

module _ {A : Type 0} where
  -- the place after a write, in numbers
  pub place_is : {d : List A} {at : ℕ} {p d' : List A} {r : ℕ} → Wrote d at p d' r → r ≡ min (suc (length d)) (at + length p)
  unfolding after
  place_is w = w.place

  pub same_length : {d : List A} {at : ℕ} {p d' : List A} {r : ℕ} → Wrote d at p d' r → length d' ≡ length d
  same_length w = ap length w.holds ∙ length-put _ _ _

  -- it is at most one past the end
  pub place_within : {d : List A} {at : ℕ} {p d' : List A} {r : ℕ} → Wrote d at p d' r → r ≤ suc (length d')
  place_within w = omega (arith, place_is w, same_length w)

  module _ {d : List A} {at : ℕ} {p d' : List A} {r : ℕ} (w : Wrote d at p d' r) where
    -- a place within the buffer says that all of it fitted
    pub fitted : r ≤ length d → at + length p ≤ length d
    fitted h = omega (arith, place_is w)

    pub place_fits : at + length p ≤ length d → r ≡ at + length p
    place_fits h = omega (arith, place_is w)

    -- two writes one after the other are one
    pub glue : {q e : List A} {o : ℕ} → Wrote d' r q e o → Wrote d at (p ++ q) e o
    unfolding after
    glue {q} {e} {o} v = record {
      place = let k : length (p ++ q) ≡ length p + length q = length-append p q in omega (arith, place_is w, place_is v, same_length w);
      holds = v.holds ∙ ap (λ (l : List A). put l r q) w.holds ∙ ⊎_elim (λ (h : at + length p ≤ length d). rw (place_fits h) (put-put d at p q)) (λ (h : length d < at + length p). past h) (within (at + length p) (length d));
    }
      where
        past : length d < at + length p → put (put d at p) r q ≡ put d at (p ++ q)
        past h =
            put_past (put d at p) r q (rw length-put (omega (arith, place_is w)))
            ∙ sym (put_past (put d at p) (at + length p) q (rw length-put (omega arith)))
            ∙ put-put d at p q

  -- no bytes at a place that a write may leave, one byte, and whatever starts past the end
  pub wrote_none : (d : List A) (at : ℕ) → at ≤ suc (length d) → Wrote d at [] d at
  unfolding after
  wrote_none d at h = record { place = omega arith; holds = sym (put-nil d at) }

  pub wrote_one : (d : List A) (at : ℕ) (x : A) → at < length d → Wrote d at (x ∷ []) (set d at x) (at + 1)
  unfolding after
  wrote_one d at x h = record { place = omega arith; holds = put_first d at x h }

  pub wrote_past : (d : List A) (at : ℕ) (p : List A) → length d ≤ at → length d < at + length p → Wrote d at p d (length d + 1)
  unfolding after
  wrote_past d at p h k = record { place = omega arith; holds = sym (put_past d at p h) }

  -- all of it, or as much as the buffer takes
  pub wrote_whole : (d : List A) (at : ℕ) (p d' : List A) → at + length p ≤ length d → d' ≡ put d at p → Wrote d at p d' (at + length p)
  unfolding after
  wrote_whole d at p d' h e = record { place = omega arith; holds = e }

  pub wrote_cut : (d : List A) (at : ℕ) (p d' : List A) → at ≤ length d → length d < at + length p → d' ≡ put d at (take (length d - at) p) → Wrote d at p d' (length d' + 1)
  unfolding after
  wrote_cut d at p d' h k e =
      let n : ℕ = length d - at in
      let m : length d ≤ at + length (take n p) = simp length-take (omega arith) in
      let long : length d' ≡ length d = ap length e ∙ length-put d at (take n p) in
      record {
        place = omega arith;
        holds = e ∙ sym (put_cut d at (take n p) (drop n p) m) ∙ ap (put d at) (take-append-drop n p);
      }

  -- the same where the library copied it
  pub copied_whole : (d : List A) (at : ℕ) (p q : List A) → at ≤ length d → length p ≤ length d - at → q ≡ p → Wrote d at p (put_mid at (at + length p - at) d q) (at + length p)
  copied_whole d at p q h k e =
      let f : at + length p ≤ length d = omega arith in
      wrote_whole d at p _ f (put_mid_is d at (at + length p - at) q (omega arith) (omega (arith, ap length e)) ∙ rw e)

  pub copied_cut : (d : List A) (at : ℕ) (p q : List A) → at ≤ length d → length d - at < length p → q ≡ take (length d - at) p → Wrote d at p (put_mid at (length d - at) d q) (length (put_mid at (length d - at) d q) + 1)
  copied_cut d at p q h k e =
      let f : length q ≡ length d - at = ap length e ∙ length-take-le (length d - at) p (omega arith) in
      wrote_cut d at p _ h (omega arith) (put_mid_is d at (length d - at) q (omega arith) f ∙ rw e)

  -- a write to what follows a place
  pub wrote_split : (d : List A) (at : ℕ) {p x : List A} {r : ℕ} → at ≤ length d → Wrote (drop at d) 0 p x r → Wrote d at p (take at d ++ x) (at + r)
  unfolding after put
  wrote_split d at {p} h w = record {
    place = let k : length (drop at d) ≡ length d - at = length-drop at d in omega (arith, w.place);
    holds = rw w.holds (ap (λ (l : List A). take at d ++ l) (let k : length (drop at d) - 0 ≡ length d - at = simp length-drop (omega arith) in let z : at + (0 + length p) ≡ at + length p = omega arith in rw (k, drop-drop, z)));
  }
