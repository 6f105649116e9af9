-- Sorting by halves: what the two tables hold behind each call.
-- Assumes nothing.
use mathlib.Core.Path.{◌≡◌, refl, sym, ap, ◌∙◌}
use mathlib.Core.Logic.{◌⊎◌, ⊎_elim}
use mathlib.Core.List.{List, [], ◌++◌, append_assoc, append-nil}
use borrow.Rule.Slice.PartMut.{mid_of, post_of, put_mid, same_len_mid, Post-is}
use mathlib.Core.Bool.{Bool, true, false}
use Prim.Native.Nat.{ℕ, zero, suc, ◌+◌, ◌-◌, ◌/◌, ◌≤◌, ◌<◌, min}
use native.Mathlib.Omega.{arith}
use native.Mathlib.Numerals.{sub-one}
use lib.Dec.{eqb, ltb, eqb-suc-zero}
use lib.ListN.{length, take, drop, length-append, length-take, length-drop, drop_of_length-le}
use lib.Seq.{take_at, drop_at, take_all, drop-append-le}
use borrow.Author.Tests.{le-ltb, lt-ltb, ne_eqb}
use Rattle.laws.proofs.Tests.{yes_no}
use Rattle.buffer.specs.writes.Buf.{put}
use Rattle.buffer.proofs.writes.Put.{put-nil, put_fits}
use Rattle.layout.specs.items.At.{pick}
use Rattle.collect_params.specs.sort.Sort.{merged, ordered_by, ordered, spared}
use Rattle.collect_params.proofs.sort.Tables.{put_whole}
use Rattle.collect_params.proofs.sort.Merging.{merged-length}

pub ordered_level : (k : ℕ) (s l : List ℕ) → ordered k s l ≡ ordered_by (eqb k 0) (ordered (k - 1) s) s l
unfolding ordered ordered_by
ordered_level zero s l = refl
ordered_level (suc k) s l = rw (eqb-suc-zero, sub-one)

pub ordered-length : (k : ℕ) (s l : List ℕ) → length (ordered k s l) ≡ length l
unfolding ordered ordered_by
ordered-length zero s l = refl
ordered-length (suc k) s l = ⊎_elim
    (λ (e : ltb (length l) 2 ≡ true). rw e)
    (λ (e : ltb (length l) 2 ≡ false). rw e (merged-length s (length l) (ordered k s (take (length l / 2) l)) (ordered k s (drop (length l / 2) l))
    (rw (ordered-length k s (take (length l / 2) l), ordered-length k s (drop (length l / 2) l), length-take (length l / 2) l, length-drop (length l / 2) l) (omega arith))))
    (yes_no (ltb (length l) 2))

short_stays : (s : List ℕ) (t : Bool) (deep : List ℕ → List ℕ) (l : List ℕ) → ltb (length l) 2 ≡ true → ordered_by t deep s l ≡ l
unfolding ordered_by
short_stays s true deep l e = refl
short_stays s false deep l e = rw e

same_either : (t : Bool) → pick {A = List ℕ} t [] [] ≡ []
same_either true = refl
same_either false = refl

-- nothing to do
pub sort_none : (k : ℕ) (s u e : List ℕ) → (k ≡ 0) ⊎ ((k ≡ 0 → ⊥) × (length u < 2)) → (u ≡ ordered k s u) × (e ≡ put e 0 (spared (eqb k 0) u (ordered k s u)))
unfolding ordered ordered_by spared
sort_none k s u e = ⊎_elim
    (λ (z : k ≡ 0). rw z (refl, sym (put-nil e 0)))
    (λ (z : (k ≡ 0 → ⊥) × (length u < 2)).
    let short : ltb (length u) 2 ≡ true = lt-ltb (length u) 2 z.1 in
    let stays : ordered k s u ≡ u = ordered_level k s u ∙ short_stays s (eqb k 0) (ordered (k - 1) s) u short in
    rw (stays, short, same_either (eqb k 0)) (refl, sym (put-nil e 0)))

-- the halves put in order one after the other, then merged in the other table and copied back
module _ (k : ℕ) (s u : List ℕ) (more : (k ≡ 0) → ⊥) (long : 2 ≤ length u) where
  abbrev mid : ℕ
  mid = length u / 2

  abbrev left : List ℕ
  left = ordered (k - 1) s (take mid u)

  abbrev right : List ℕ
  right = ordered (k - 1) s (drop mid u)

  left_long : length left ≡ mid
  left_long = ordered-length (k - 1) s (take mid u) ∙ length-take mid u ∙ (let z : min mid (length u) ≡ mid = omega arith in z)

  right_long : length right ≡ length u - mid
  right_long = ordered-length (k - 1) s (drop mid u) ∙ length-drop mid u

  abbrev all : List ℕ
  all = merged s (length u) left right

  all_long : length all ≡ length u
  all_long = merged-length s (length u) left right (omega (arith, left_long, right_long))

  not_short : ltb (length u) 2 ≡ false
  not_short = le-ltb (length u) 2 long

  model : ordered k s u ≡ all
  unfolding ordered_by
  model = ordered_level k s u ∙ rw (ne_eqb k 0 more, not_short)

  -- the table when its first half is in order, and then its second
  module _ {x y : List ℕ} (ex : x ≡ left) (ey : y ≡ ordered (k - 1) s (take (length (x ++ drop mid u) - mid) (drop mid (x ++ drop mid u)))) where
    first_long : length x ≡ mid
    first_long = ap length ex ∙ left_long

    whole_long : length (x ++ drop mid u) ≡ length u
    whole_long = length-append x (drop mid u) ∙ (let z = length-drop mid u in omega (arith, first_long))

    second : y ≡ right
    second = ey ∙ ap (ordered (k - 1) s) (ap (take (length (x ++ drop mid u) - mid)) (drop_at x (drop mid u) mid first_long) ∙ take_all (length (x ++ drop mid u) - mid) (drop mid u) (omega (arith, whole_long, length-drop mid u)))

    both : put_mid mid (length (x ++ drop mid u) - mid) (x ++ drop mid u) y ≡ x ++ y
    both =
        let p : post_of mid (length (x ++ drop mid u) - mid) (x ++ drop mid u) ≡ [] =
        Post-is mid (length (x ++ drop mid u)) (x ++ drop mid u) (omega (arith, whole_long)) ∙ drop_of_length-le (x ++ drop mid u) {i = length (x ++ drop mid u)} (omega arith) in
        rw (p, take_at x (drop mid u) mid first_long, append-nil)

    pub sort_both : {l r : List ℕ} → l ≡ take mid (put_mid mid (length (x ++ drop mid u) - mid) (x ++ drop mid u) y) → r ≡ drop mid (put_mid mid (length (x ++ drop mid u) - mid) (x ++ drop mid u) y)
        → (e : List ℕ) → length e ≡ length u → {n : ℕ} → n ≡ length e → {d v : List ℕ} → d ≡ merged s n l r → v ≡ d → (v ≡ ordered k s u) × (d ≡ put e 0 (spared (eqb k 0) u (ordered k s u)))
    unfolding spared
    sort_both {l} {r} el er e le {n} en {d} {v} ed ev =
        let is_left : l ≡ left = el ∙ ap (take mid) both ∙ take_at x y mid first_long ∙ ex in
        let is_right : r ≡ right = er ∙ ap (drop mid) both ∙ drop_at x y mid first_long ∙ second in
        let is_all : d ≡ all = ed ∙ rw (en, le, is_left, is_right) in
        (ev ∙ is_all ∙ sym model, is_all ∙ rw (ne_eqb k 0 more, not_short, model, put_whole e all (all_long ∙ sym le)))

-- the other table is as long as before
pub spare_long : (m : ℕ) (e z y : List ℕ) → m ≤ length e → length z ≡ length (take m e) → length y ≡ length (mid_of m (length (z ++ drop m e) - m) (z ++ drop m e))
    → length (put_mid m (length (z ++ drop m e) - m) (z ++ drop m e) y) ≡ length e
spare_long m e z y h ez ey =
    same_len_mid m (length (z ++ drop m e) - m) (z ++ drop m e) y ey ∙ length-append z (drop m e) ∙ (let a = length-take m e in let b = length-drop m e in omega arith)

pub spare_short : (t : Bool) (l m : List ℕ) → length (spared t l m) ≤ length m
unfolding spared
spare_short true l m = omega arith
spare_short false l m = ⊎_elim (λ (e : ltb (length l) 2 ≡ true). rw e (omega arith)) (λ (e : ltb (length l) 2 ≡ false). rw e (omega arith)) (yes_no (ltb (length l) 2))

-- a table whose first part is in order, or written
pub put_front : (a p b : List ℕ) → length p ≤ length a → put a 0 p ++ b ≡ put (a ++ b) 0 p
put_front a p b h =
    rw (put_fits a 0 p (omega arith), put_fits (a ++ b) 0 p (rw length-append (omega arith)), drop-append-le (0 + length p) a b (omega arith)) (append_assoc p (drop (0 + length p) a) b)
