-- Laws of tables that are written in part, and of the byte order, in the code's own terms.
-- Assumes nothing.
use mathlib.Core.Path.{◌≡◌, refl, ◌∙◌}
use mathlib.Core.Logic.{⊎_elim}
use mathlib.Core.List.{List, [], ◌∷◌, append-nil}
use mathlib.Core.Bool.{false}
use Prim.Native.Nat.{ℕ, suc, ◌+◌, ◌-◌, ◌≤◌, ◌<◌, min}
use native.Mathlib.Omega.{arith}
use native.Mathlib.Numerals.{add-one}
use lib.Dec.{ltb}
use lib.ListN.{length, drop, get_or, set, drop_of_length-le}
use lib.Seq.{drop-cons, take_all}
use borrow.Author.Tests.{eq-eqb, ne_eqb, lt-ltb, le-ltb}
use Rattle.definition.specs.Tree.{Name}
use Rattle.definition.specs.Names.{before}
use Rattle.buffer.specs.writes.Buf.{put, part}
use Rattle.buffer.proofs.writes.Put.{put-put, put_first, within}

pub part-cons : (a e : ℕ) (l : List ℕ) → a < e → e ≤ length l → part a e l ≡ get_or l a 0 ∷ part (a + 1) e l
unfolding part
part-cons a e l h k = let n : e - a ≡ suc (e - (a + 1)) = omega arith in rw (n, drop-cons l a 0 (omega arith), add-one a)

-- a store, and what is written behind it
pub put_step : (d : List ℕ) (k x : ℕ) (l : List ℕ) → k < length d → put (set d k x) (k + 1) l ≡ put d k (x ∷ l)
put_step d k x l h = rw (put_first d k x h) (put-put d k (x ∷ []) l)

-- a write over all of a table
pub put_whole : (d p : List ℕ) → length p ≡ length d → put d 0 p ≡ p
unfolding put
put_whole d p h =
    let n : length d - 0 ≡ length d = omega arith in
    let m : 0 + length p ≡ length d = omega arith in
    rw (n, m, drop_of_length-le d {i = length d} (omega arith), append-nil) (take_all (length d) p (omega arith))

-- byte by byte
module _ (a b : Name) (i : ℕ) where
  heads : i < length a → i < length b → before (drop i a) (drop i b) ≡ before (get_or a i 0 ∷ drop (i + 1) a) (get_or b i 0 ∷ drop (i + 1) b)
  heads h k = rw (add-one i, drop-cons a i 0 h, drop-cons b i 0 k)

  pub before_on : i < length a → i < length b → get_or a i 0 ≡ get_or b i 0 → before (drop i a) (drop i b) ≡ before (drop (i + 1) a) (drop (i + 1) b)
  unfolding before
  before_on h k e = heads h k ∙ rw (eq-eqb _ _ e)

  pub before_not : i < length a → i < length b → (get_or a i 0 ≡ get_or b i 0 → ⊥) → before (drop i a) (drop i b) ≡ ltb (get_or a i 0) (get_or b i 0)
  unfolding before
  before_not h k e = heads h k ∙ rw (ne_eqb _ _ e)

none_before : (x : Name) → before x [] ≡ false
unfolding before
none_before [] = refl
none_before (x ∷ xs) = refl

-- where one of them ends, the shorter is before the longer
pub before_end : (a b : Name) (i : ℕ) → i ≡ min (length a) (length b) → before (drop i a) (drop i b) ≡ ltb (length a) (length b)
unfolding before
before_end a b i e = ⊎_elim
    (λ (h : length b ≤ length a). let n : i ≡ length b = omega arith in rw (n, drop_of_length-le b {i = length b} (omega arith), le-ltb _ _ h) (none_before (drop (length b) a)))
    (λ (h : length a < length b). let n : i ≡ length a = omega arith in rw (n, drop_of_length-le a {i = length a} (omega arith), drop-cons b (length a) 0 h, lt-ltb _ _ h) refl)
    (within (length b) (length a))
