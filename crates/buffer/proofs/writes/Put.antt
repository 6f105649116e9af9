-- Laws of a buffer that is written from a place on, and of its parts.
-- Assumes nothing.
use mathlib.Core.Path.{◌≡◌, sym, ap, ◌∙◌}
use mathlib.Core.Logic.{◌⊎◌, inl, inr, ⊎_elim}
use mathlib.Core.List.{List, [], ◌∷◌, ◌++◌, append_assoc, append-nil}
use Prim.Native.Nat.{ℕ, suc, ◌+◌, ◌-◌, ◌≤◌, ◌<◌, min}
use native.Mathlib.Nat.{add-zero}
use native.Mathlib.Numerals.{add-one}
use native.Mathlib.Omega.{arith}
use borrow.Rule.Slice.PartMut.{put_mid}
use Rattle.std.specs.List.{copy_within}
use lib.ListN.{length, take, drop, get_or, set, length-append, length-take, length-drop, take-append-drop, get_or-append, drop_of_length-le}
use lib.Seq.{set_split, take_at, drop_at, length-take-le, drop-drop, take-append-le, take-append-add, get_or-drop, get_or-take, get_or-append-add, take-suc, take-add, take_all, take-nil, take-take}
pub use Rattle.buffer.proofs.numbers.Order.{within}
use Rattle.buffer.specs.writes.Buf.{put, part}

module _ {A : Type 0} where
  pub length-put : (d : List A) (at : ℕ) (p : List A) → length (put d at p) ≡ length d
  unfolding put
  length-put d at p = simp (length-append, length-take, length-drop) (omega arith)

  pub put-nil : (d : List A) (at : ℕ) → put d at [] ≡ d
  unfolding put
  put-nil d at = rw take-nil (simp (add-zero, take-append-drop))

  -- past its end a buffer takes nothing
  pub put_past : (d : List A) (at : ℕ) (p : List A) → length d ≤ at → put d at p ≡ d
  unfolding put
  put_past d at p h =
      let z : length d - at ≡ 0 = omega arith in
      let g : length d ≤ at + length p = omega arith in
      rw (z, take_all at d h, drop_of_length-le d g) (append-nil d)

  pub put_fits : (d : List A) (at : ℕ) (p : List A) → at + length p ≤ length d → put d at p ≡ (take at d ++ p) ++ drop (at + length p) d
  unfolding put
  put_fits d at p h =
      let g : length p ≤ length d - at = omega arith in
      rw (take_all (length d - at) p g) (sym (append_assoc (take at d) p (drop (at + length p) d)))

  -- the library's writes over a part of a list
  pub put_mid_is : (d : List A) (at k : ℕ) (p : List A) → at + k ≤ length d → length p ≡ k → put_mid at k d p ≡ put d at p
  unfolding put
  put_mid_is d at k p h e =
      let g : length p ≤ length d - at = omega arith in
      rw (take_all (length d - at) p g, e, drop-drop)

  pub copied_is : (s : List A) (a b at : ℕ) → b ≤ length s → at + (b - a) ≤ length s → copy_within s a b at ≡ put s at (take (b - a) (drop a s))
  copied_is s a b at k h =
      let n : ℕ = b - a in
      let e : length (take n (drop a s)) ≡ n = length-take-le n (drop a s) (rw length-drop (omega arith)) in
      sym (put_fits s at (take n (drop a s)) (omega arith) ∙ rw e)

  head-length : (d : List A) (at : ℕ) (p : List A) → at + length p ≤ length d → length (take at d ++ p) ≡ at + length p
  head-length d at p h = simp (length-append, length-take) (omega arith)

  module _ (d : List A) (at : ℕ) (p q : List A) where
    after_whole : at + length p ≤ length d → put (put d at p) (at + length p) q ≡ put d at (p ++ q)
    unfolding put
    after_whole h =
        let n : ℕ = at + length p in
        let H : List A = take at d ++ p in
        let T : List A = drop n d in
        let k : length H ≡ n = head-length d at p h in
        let whole : put d at p ≡ H ++ T = put_fits d at p h in
        let room : length (put d at p) - n ≡ length d - n = ap (λ (m : ℕ). m - n) (length-put d at p) in
        let e1 : take n (put d at p) ≡ H = ap (take n) whole ∙ take_at H T n k in
        let e2 : drop (n + length q) (put d at p) ≡ drop (n + length q) d =
        ap (drop (n + length q)) whole ∙ sym (drop-drop (length q) n (H ++ T)) ∙ ap (drop (length q)) (drop_at H T n k) ∙ drop-drop (length q) n d in
        let e3 : take (length d - at) (p ++ q) ≡ p ++ take (length d - n) q =
        ap (λ (m : ℕ). take m (p ++ q)) (let r : length d - at ≡ length p + (length d - n) = omega arith in r) ∙ take-append-add p q (length d - n) in
        let e4 : at + length (p ++ q) ≡ n + length q = simp length-append (omega arith) in
        ap (λ (l : List A). l ++ (take (length (put d at p) - n) q ++ drop (n + length q) (put d at p))) e1
        ∙ ap (λ (m : ℕ). H ++ (take m q ++ drop (n + length q) (put d at p))) room
        ∙ ap (λ (l : List A). H ++ (take (length d - n) q ++ l)) e2
        ∙ append_assoc (take at d) p (take (length d - n) q ++ drop (n + length q) d)
        ∙ rw (e3, e4) (ap (λ (l : List A). take at d ++ l) (sym (append_assoc p (take (length d - n) q) (drop (n + length q) d))))

    after_cut : length d < at + length p → put (put d at p) (at + length p) q ≡ put d at (p ++ q)
    unfolding put
    after_cut h =
        let k : length (put d at p) ≤ at + length p = omega (arith, length-put d at p) in
        let g : length d - at ≤ length p = omega arith in
        let z1 : drop (at + length p) d ≡ [] = drop_of_length-le d {i = at + length p} (omega arith) in
        let z2 : drop (at + length (p ++ q)) d ≡ [] = drop_of_length-le d {i = at + length (p ++ q)} (simp length-append (omega arith)) in
        put_past (put d at p) (at + length p) q k ∙ rw (z1, z2, take-append-le (length d - at) p q g)

  -- two writes one after the other are one
  pub put-put : (d : List A) (at : ℕ) (p q : List A) → put (put d at p) (at + length p) q ≡ put d at (p ++ q)
  put-put d at p q = ⊎_elim (after_whole d at p q) (after_cut d at p q) (within (at + length p) (length d))

  -- what lies past the end of a write that the buffer cuts makes no difference
  pub put_cut : (d : List A) (at : ℕ) (p q : List A) → length d ≤ at + length p → put d at (p ++ q) ≡ put d at p
  put_cut d at p q h = sym (put-put d at p q) ∙ put_past (put d at p) (at + length p) q (rw length-put h)

  -- a store is a write of one element
  pub put_first : (d : List A) (at : ℕ) (x : A) → at < length d → set d at x ≡ put d at (x ∷ [])
  put_first d at x h =
      let k : at + 1 ≡ suc at = add-one at in
      set_split d at x h ∙ sym (put_fits d at (x ∷ []) (omega arith) ∙ rw k (append_assoc (take at d) (x ∷ []) (drop (suc at) d)))

  -- a store at the place where the written part ends
  pub put_push : (d : List A) (at : ℕ) (p : List A) (x : A) (o : ℕ) → o ≡ at + length p → o < length d → set (put d at p) o x ≡ put d at (p ++ x ∷ [])
  put_push d at p x o e h =
      put_first (put d at p) o x (rw length-put h) ∙ rw e (put-put d at p (x ∷ []))

  -- what the write does not reach
  pub take_put : (d : List A) (at : ℕ) (p : List A) (n : ℕ) → n ≤ at → take n (put d at p) ≡ take n d
  unfolding put
  take_put d at p n h = ⊎_elim
      (λ (k : at ≤ length d).
      let e : n ≤ length (take at d) = simp length-take (omega arith) in
      take-append-le n (take at d) (take (length d - at) p ++ drop (at + length p) d) e ∙ take-take n at d h)
      (λ (k : length d < at). ap (take n) (put_past d at p (omega arith)))
      (within at (length d))

  pub drop-put : (d : List A) (at : ℕ) (p : List A) (n : ℕ) → at + length p ≤ n → drop n (put d at p) ≡ drop n d
  drop-put d at p n h = ⊎_elim
      (λ (k : at + length p ≤ length d). whole k)
      (λ (k : length d < at + length p). drop_of_length-le (put d at p) {i = n} (rw length-put (omega arith)) ∙ sym (drop_of_length-le d {i = n} (omega arith)))
      (within (at + length p) (length d))
    where
      whole : at + length p ≤ length d → drop n (put d at p) ≡ drop n d
      whole k =
          let m : ℕ = at + length p in
          let e : n ≡ m + (n - m) = omega arith in
          rw (e, put_fits d at p k)
          (sym (drop-drop (n - m) m ((take at d ++ p) ++ drop m d)) ∙ ap (drop (n - m)) (drop_at (take at d ++ p) (drop m d) m (head-length d at p k)) ∙ drop-drop (n - m) m d)

  -- a write over an earlier one that is no longer
  pub put_over : (d : List A) (at : ℕ) (p q : List A) → length p ≤ length q → put (put d at p) at q ≡ put d at q
  unfolding put
  put_over d at p q h =
      let e1 : take at (put d at p) ≡ take at d = take_put d at p at (omega arith) in
      let e2 : drop (at + length q) (put d at p) ≡ drop (at + length q) d = drop-put d at p (at + length q) (omega arith) in
      let e3 : length (put d at p) ≡ length d = length-put d at p in
      ap (λ (l : List A). l ++ (take (length (put d at p) - at) q ++ drop (at + length q) (put d at p))) e1
      ∙ ap (λ (m : ℕ). take at d ++ (take (m - at) q ++ drop (at + length q) (put d at p))) e3
      ∙ ap (λ (l : List A). take at d ++ (take (length d - at) q ++ l)) e2

  -- what was written is read back, behind what stood before it
  pub take_written : (d : List A) (at : ℕ) (p : List A) → at + length p ≤ length d → take (at + length p) (put d at p) ≡ take at d ++ p
  take_written d at p h = rw (put_fits d at p h) (take_at (take at d ++ p) (drop (at + length p) d) (at + length p) (head-length d at p h))

  pub part_written : (d : List A) (at : ℕ) (p : List A) → at + length p ≤ length d → part at (at + length p) (put d at p) ≡ p
  unfolding part
  part_written d at p h =
      let k : length (take at d) ≡ at = length-take-le at d (omega arith) in
      rw (put_fits d at p h, append_assoc)
      (ap (take (at + length p - at)) (drop_at (take at d) (p ++ drop (at + length p) d) at k)
      ∙ take_at p (drop (at + length p) d) (at + length p - at) (omega arith))

  -- parts
  pub length_part : (a e : ℕ) (l : List A) → a ≤ e → e ≤ length l → length (part a e l) ≡ e - a
  unfolding part
  length_part a e l h k = simp (length-take, length-drop) (omega arith)

  pub part_none : (a : ℕ) (l : List A) → part a a l ≡ []
  unfolding part
  part_none a l = let z : a - a ≡ 0 = omega arith in rw z

  pub part_split : (a i e : ℕ) (l : List A) → a ≤ i → i ≤ e → part a e l ≡ part a i l ++ part i e l
  unfolding part
  part_split a i e l h k =
      let n : e - a ≡ (i - a) + (e - i) = omega arith in
      let f : a + (i - a) ≡ i = omega arith in
      rw (n, take-add) (rw (drop-drop, f))

  -- a part that is none, and one that is cut by the end
  pub part_back : (a e : ℕ) (l : List A) → e ≤ a → part a e l ≡ []
  unfolding part
  part_back a e l h = let z : e - a ≡ 0 = omega arith in rw z

  pub part_cut : (a e : ℕ) (l : List A) → length l ≤ e → part a e l ≡ drop a l
  unfolding part
  part_cut a e l h = take_all (e - a) (drop a l) (rw length-drop (omega arith))

  module _ (a e : ℕ) (l : List A) (end : ℕ) (k : end ≡ min e (length l)) where
    pub part_clip : part a e l ≡ take (end - a) (drop a l)
    unfolding part
    part_clip = ⊎_elim
        (λ (h : e ≤ length l). let m : end ≡ e = omega arith in rw m)
        (λ (h : length l < e). let m : end ≡ length l = omega arith in rw m (part_cut a e l (omega arith) ∙ sym (part_cut a (length l) l (omega arith))))
        (within e (length l))

    pub part_short : end ≤ a → part a e l ≡ []
    part_short h = part_clip ∙ (let z : end - a ≡ 0 = omega arith in rw z)

  -- both ends of a part cut to the list
  pub part_within : (a e : ℕ) (l : List A) (end from : ℕ) → end ≡ min e (length l) → from ≡ min a end → take (end - from) (drop from l) ≡ part a e l
  part_within a e l end from h k = ⊎_elim
      (λ (f : a ≤ end). let m : from ≡ a = omega arith in rw m (sym (part_clip a e l end h)))
      (λ (f : end < a). let m : from ≡ end = omega arith in let z : end - end ≡ 0 = omega arith in rw (m, z, part_short a e l end h (omega arith)))
      (within a end)

  -- of a part that lies before a write
  pub part_put_before : (a n : ℕ) (d : List A) (at : ℕ) (p : List A) → a + n ≤ at → take n (drop a (put d at p)) ≡ take n (drop a d)
  part_put_before a n d at p h = sym (turn (put d at p)) ∙ ap (drop a) (take_put d at p (a + n) h) ∙ turn d
    where
      turn : (l : List A) → drop a (take (a + n) l) ≡ take n (drop a l)
      turn l = rw take-add (ends (within a (length l)))
        where
          ends : (a ≤ length l) ⊎ (length l < a) → drop a (take a l ++ take n (drop a l)) ≡ take n (drop a l)
          ends (inl k) = drop_at (take a l) (take n (drop a l)) a (length-take-le a l k)
          ends (inr k) =
              let z : drop a l ≡ [] = drop_of_length-le l {i = a} (omega arith) in
              rw (z, take-nil, append-nil) (drop_of_length-le (take a l) {i = a} (simp length-take (omega arith)))

pub part_more : (a j : ℕ) (l : List ℕ) → a ≤ j → j < length l → part a (j + 1) l ≡ part a j l ++ get_or l j 0 ∷ []
unfolding part
part_more a j l h k =
    let e : j + 1 - a ≡ suc (j - a) = omega arith in
    let f : a + (j - a) ≡ j = omega arith in
    rw e (take-suc (drop a l) (j - a) 0 (rw length-drop (omega arith)) ∙ rw (get_or-drop, f))

pub get_or-put_before : (d : List ℕ) (at : ℕ) (p : List ℕ) (i : ℕ) → i < at → get_or (put d at p) i 0 ≡ get_or d i 0
get_or-put_before d at p i h = sym (get_or-take at (put d at p) i 0 h) ∙ ap (λ (l : List ℕ). get_or l i 0) (take_put d at p at (omega arith)) ∙ get_or-take at d i 0 h

pub get_or-put-at : (d : List ℕ) (at : ℕ) (p : List ℕ) (i : ℕ) → i < length p → at + length p ≤ length d → get_or (put d at p) (at + i) 0 ≡ get_or p i 0
get_or-put-at d at p i h k =
    let e : length (take at d) ≡ at = length-take-le at d (omega arith) in
    rw (put_fits d at p k, append_assoc)
    (ap (λ (m : ℕ). get_or (take at d ++ (p ++ drop (at + length p) d)) (m + i) 0) (sym e)
    ∙ get_or-append-add (take at d) (p ++ drop (at + length p) d) i 0
    ∙ get_or-append p (drop (at + length p) d) 0 i h)
