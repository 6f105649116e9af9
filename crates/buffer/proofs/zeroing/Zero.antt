-- A range that is zeroed one element after the other, and all of a list.
-- Assumes nothing.
use mathlib.Core.Path.{◌≡◌, sym, ap, ◌∙◌}
use mathlib.Core.Logic.{⊎_elim}
use mathlib.Core.Bool.{false}
use mathlib.Core.List.{List, ◌++◌, append-nil, append_assoc}
use Prim.Native.Nat.{ℕ, ◌+◌, ◌-◌, ◌≤◌, ◌<◌, min, max}
use native.Mathlib.Omega.{arith}
use borrow.Rule.Slice.PartMut.{put_mid}
use lib.ListN.{length, replicate, take, drop, take-append-drop, length-take, length-drop, length-replicate, replicate-append-replicate, drop_of_length-le}
use lib.Seq.{drop-drop}
use Rattle.definition.specs.Answer.{zeroed}
use Rattle.buffer.specs.writes.Buf.{put, part}
use Rattle.buffer.specs.zeroing.Zeros.{zeros, some_in_of}
use Rattle.buffer.proofs.zeroing.Some.{all_zeros}
use Rattle.buffer.proofs.writes.Put.{put-nil, put-put, put_mid_is, put_cut, put_fits, within}

long : (n : ℕ) → length (zeros n) ≡ n
long n = length-replicate {0} {A = ℕ} n 0

pub put-zeros_none : (d : List ℕ) (a : ℕ) → put d a (zeros (a - a)) ≡ d
put-zeros_none d a = let z : a - a ≡ 0 = omega arith in rw z (put-nil d a)

-- zeros that the library filled in
pub zeros_filled : (d : List ℕ) (p e : ℕ) → p ≤ e → e ≤ length d → {q : List ℕ} → q ≡ replicate (length (take (e - p) (drop p d))) 0 → put_mid p (e - p) d q ≡ put d p (zeros (e - p))
zeros_filled d p e h k {q} w =
    let l : length (take (e - p) (drop p d)) ≡ e - p = simp (length-take, length-drop) (omega arith) in
    let z : q ≡ zeros (e - p) = w ∙ ap zeros l in
    put_mid_is d p (e - p) q (omega arith) (ap length z ∙ long (e - p)) ∙ rw z

-- zeros behind zeros
pub zeros_more : (d : List ℕ) (a p e : ℕ) → a ≤ p → p ≤ e → put (put d a (zeros (p - a))) p (zeros (e - p)) ≡ put d a (zeros (e - a))
zeros_more d a p e h k =
    let o : p ≡ a + length (zeros (p - a)) = omega (arith, long (p - a)) in
    let z : e - a ≡ (p - a) + (e - p) = omega arith in
    ap (λ (i : ℕ). put (put d a (zeros (p - a))) i (zeros (e - p))) o ∙ put-put d a (zeros (p - a)) (zeros (e - p)) ∙ rw z (ap (put d a) (replicate-append-replicate (p - a) (e - p) 0))

-- bytes that are zero already
pub zeros_there : (d : List ℕ) (p e : ℕ) → p ≤ e → e ≤ length d → some_in_of (part p e d) ≡ false → put d p (zeros (e - p)) ≡ d
unfolding part
zeros_there d p e h k n =
    let l : length (take (e - p) (drop p d)) ≡ e - p = simp (length-take, length-drop) (omega arith) in
    let z : take (e - p) (drop p d) ≡ zeros (e - p) = all_zeros (take (e - p) (drop p d)) n ∙ ap zeros l in
    let o : p + length (zeros (e - p)) ≡ e = omega (arith, long (e - p)) in
    put_fits d p (zeros (e - p)) (omega (arith, long (e - p))) ∙ rw (o, ← z) (whole d p e h)
  where
    whole : (d : List ℕ) (p e : ℕ) → p ≤ e → (take p d ++ take (e - p) (drop p d)) ++ drop e d ≡ d
    whole d p e h =
        let z : p + (e - p) ≡ e = omega arith in
        let q : drop (e - p) (drop p d) ≡ drop e d = drop-drop (e - p) p d ∙ rw z in
        append_assoc (take p d) (take (e - p) (drop p d)) (drop e d) ∙ ap (λ (l : List ℕ). take p d ++ l) (rw (← q) (take-append-drop (e - p) (drop p d))) ∙ take-append-drop p d

-- past the end there is nothing to zero
pub zeros_end : (d : List ℕ) (a e i : ℕ) → a ≤ i → i ≡ max a (min e (length d)) → put d a (zeros (i - a)) ≡ put d a (zeros (e - a))
zeros_end d a e i h k = ⊎_elim
    (λ (f : e ≤ length d). let m : i - a ≡ e - a = omega arith in rw m)
    (λ (f : length d < e).
    let m : e - a ≡ (i - a) + ((e - a) - (i - a)) = omega arith in
    let n : length d ≤ a + length (zeros (i - a)) = omega (arith, long (i - a)) in
    sym (rw m (ap (put d a) (sym (replicate-append-replicate (i - a) ((e - a) - (i - a)) 0)) ∙ put_cut d a (zeros (i - a)) (zeros ((e - a) - (i - a))) n)))
    (within e (length d))

-- zeros behind zeros, up to the end
pub zeros_whole : (d : List ℕ) (a p e i : ℕ) {d' : List ℕ} → d' ≡ put d a (zeros (p - a)) → a ≤ p → p ≤ i → i ≡ max a (min e (length d)) → put d' p (zeros (i - p)) ≡ put d a (zeros (e - a))
zeros_whole d a p e i w h k m = rw w (zeros_more d a p i h k) ∙ zeros_end d a e i (omega arith) m

-- "The work area, short or not, is all zero afterwards in each case."
pub all_zero : (w w₁ z : List ℕ) (end : ℕ) → length w₁ ≡ length w → end ≡ length w₁ → z ≡ put w₁ 0 (zeros (end - 0)) → z ≡ zeroed w
unfolding zeroed
all_zero w w₁ z end l e h =
    let m : end - 0 ≡ length w = omega arith in
    let k = long (length w) in
    h ∙ rw (m, put_fits w₁ 0 (zeros (length w)) (omega arith), drop_of_length-le w₁ {i = 0 + length (zeros (length w))} (omega arith)) (append-nil (zeros (length w)))
