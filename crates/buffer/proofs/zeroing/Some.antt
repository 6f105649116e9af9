-- Whether an entry of a list is not 0, entry by entry; and a list without one.
-- Assumes nothing.
use mathlib.Core.Path.{◌≡◌, refl, ap}
use mathlib.Core.Logic.{⊎_elim}
use mathlib.Core.Bool.{Bool, true, false, cond, not}
use mathlib.Core.List.{List, [], ◌∷◌}
use Prim.Native.Nat.{ℕ, zero, suc, ◌+◌, ◌≤◌, ◌<◌}
use native.Mathlib.Numerals.{add-one}
use native.Mathlib.Omega.{arith}
use lib.Bits.{bit_or, or_zero_l, or_add_and, and_le_r}
use lib.Dec.{eqb, eqb-suc-zero}
use lib.ListN.{length, drop, get_or, drop_of_length-le}
use lib.Seq.{drop-cons}
use borrow.Author.Tests.{ne_eqb, eqb-true}
use Rattle.laws.proofs.Tests.{yes_no, not_both}
use Rattle.buffer.specs.zeroing.Zeros.{zeros, some_in_of}

-- entries put together are 0 where all of them are
or_none : (a b : ℕ) → eqb (bit_or a b) 0 ≡ cond (eqb a 0) (eqb b 0) false
or_none zero b = rw (or_zero_l b)
or_none (suc a) b = rw eqb-suc-zero (ne_eqb (bit_or (suc a) b) 0 (λ e. omega (arith, or_add_and (suc a) b, and_le_r (suc a) b)))

pub some_on : (l : List ℕ) (i a : ℕ) → i < length l → cond (eqb a 0) (some_in_of (drop i l)) true ≡ cond (eqb (bit_or a (get_or l i 0)) 0) (some_in_of (drop (i + 1) l)) true
unfolding some_in_of
some_on l i a h = rw (add-one, drop-cons l i 0 h, or_none) (of (eqb a 0) (eqb (get_or l i 0) 0))
  where
    of : (x y : Bool) → cond x (cond y (some_in_of (drop (suc i) l)) true) true ≡ cond (cond x y false) (some_in_of (drop (suc i) l)) true
    of true y = refl
    of false y = refl

pub some_end : (l : List ℕ) (i a : ℕ) → length l ≤ i → cond (eqb a 0) (some_in_of (drop i l)) true ≡ not (eqb a 0)
unfolding some_in_of
some_end l i a h = rw (drop_of_length-le l {i = i} h) (other (eqb a 0))
  where
    other : (x : Bool) → cond x false true ≡ not x
    other true = refl
    other false = refl

-- a list in which there is none is one of zeros
pub all_zeros : (l : List ℕ) → some_in_of l ≡ false → l ≡ zeros (length l)
unfolding some_in_of
all_zeros [] e = refl
all_zeros (k ∷ l) e = ⊎_elim
    (λ (q : eqb k 0 ≡ true). let z : k ≡ 0 = eqb-true k 0 q in let w : some_in_of l ≡ false = rw q at e in rw z (ap (λ (m : List ℕ). 0 ∷ m) (all_zeros l w)))
    (λ (q : eqb k 0 ≡ false). absurd (not_both true refl (rw q at e)))
    (yes_no (eqb k 0))
