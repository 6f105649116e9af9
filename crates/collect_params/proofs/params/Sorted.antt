-- The sort by halves, and then each name once, gives the definition's `sorted`.
-- Assumes nothing.
use mathlib.Core.Path.{◌≡◌, refl, sym, ap, ◌∙◌}
use mathlib.Core.Logic.{⊎_elim}
use mathlib.Core.List.{List, [], ◌∷◌, ◌++◌}
use mathlib.Core.Bool.{Bool, true, false, cond, ◌||◌}
use Prim.Native.Nat.{ℕ, zero, suc, ◌+◌, ◌/◌, ◌^◌, ◌≤◌, ◌<◌}
use native.Mathlib.Omega.{arith}
use lib.Dec.{eqb, ltb}
use lib.ListN.{length, take, drop, length-take, length-drop, take-append-drop}
use borrow.Author.Tests.{ltb-true, le-ltb, eqb-true, eq-eqb, ne_eqb}
use Rattle.definition.specs.Tree.{Name}
use Rattle.definition.specs.Names.{eq_name, elem, before, sorted}
use Rattle.laws.specs.Laws.{Ascending}
use Rattle.laws.proofs.Tests.{yes_no, not_both}
use Rattle.laws.proofs.Members.{eq_name-true}
use Rattle.laws.proofs.Order.{sorted_ascends, elem-sorted}
use Rattle.collect_params.specs.uses.Uses.{name_in, names_in_of}
use Rattle.collect_params.proofs.uses.Without.{names_append}
use Rattle.collect_params.specs.sort.Sort.{merged, ordered_by, ordered}
use Rattle.collect_params.specs.params.Once.{once_after, once}
use Rattle.collect_params.proofs.sort.Sorting.{ordered-length}
use Rattle.collect_params.proofs.params.Unique.{less_of, unique}

-- of two names one is not before the other
asymmetric : (a b : Name) → before a b ≡ true → before b a ≡ false
unfolding before
asymmetric [] [] e = not_both false e refl
asymmetric [] (y ∷ b) e = refl
asymmetric (x ∷ a) [] e = not_both false e refl
asymmetric (x ∷ a) (y ∷ b) e = ⊎_elim
    (λ (p : eqb x y ≡ true). let q = eqb-true x y p in rw (eq-eqb y x (sym q)) (asymmetric a b (rw p at e)))
    (λ (p : eqb x y ≡ false).
    let less : x < y = ltb-true x y (rw p at e) in
    rw (ne_eqb y x (λ f. omega arith)) (le-ltb y x (omega arith)))
    (yes_no (eqb x y))

through : (a b c : Bool) → cond a true (b || c) ≡ cond a true b || c
through true b c = refl
through false b c = refl

over : (a b c : Bool) → cond a true (b || c) ≡ b || cond a true c
over true true c = refl
over true false c = refl
over false true c = refl
over false false c = refl

twice : (a b : Bool) → cond a true b ≡ cond a true (cond a true b)
twice true b = refl
twice false b = refl

module _ (s : List ℕ) where
  -- the first of a list is not before x
  abbrev From : ℕ → List ℕ → Type 0
  From x [] = Unit {0}
  From x (y ∷ l) = before (name_in s y) (name_in s x) ≡ false

  abbrev Rising : List ℕ → Type 0
  Rising [] = Unit {0}
  Rising (x ∷ l) = From x l × Rising l

  merged_from : (z n : ℕ) (l r : List ℕ) → From z l → From z r → From z (merged s n l r)
  unfolding merged
  merged_from z zero l r p q = tt
  merged_from z (suc n) [] [] p q = tt
  merged_from z (suc n) (x ∷ l) [] p q = p
  merged_from z (suc n) [] (y ∷ r) p q = q
  merged_from z (suc n) (x ∷ l) (y ∷ r) p q = ⊎_elim
      (λ (f : before (name_in s y) (name_in s x) ≡ true). rw f q)
      (λ (f : before (name_in s y) (name_in s x) ≡ false). rw f p)
      (yes_no (before (name_in s y) (name_in s x)))

  merged_rising : (n : ℕ) (l r : List ℕ) → Rising l → Rising r → Rising (merged s n l r)
  unfolding merged
  merged_rising zero l r p q = tt
  merged_rising (suc n) [] [] p q = tt
  merged_rising (suc n) (x ∷ l) [] p q = (merged_from x n l [] p.0 tt, merged_rising n l [] p.1 tt)
  merged_rising (suc n) [] (y ∷ r) p q = (merged_from y n [] r tt q.0, merged_rising n [] r tt q.1)
  merged_rising (suc n) (x ∷ l) (y ∷ r) p q = ⊎_elim
      (λ (f : before (name_in s y) (name_in s x) ≡ true).
      rw f (merged_from y n (x ∷ l) r (asymmetric (name_in s y) (name_in s x) f) q.0, merged_rising n (x ∷ l) r p q.1))
      (λ (f : before (name_in s y) (name_in s x) ≡ false).
      rw f (merged_from x n l (y ∷ r) p.0 f, merged_rising n l (y ∷ r) p.1 q))
      (yes_no (before (name_in s y) (name_in s x)))

  short_rising : (l : List ℕ) → length l < 2 → Rising l
  short_rising [] h = tt
  short_rising (x ∷ []) h = (tt, tt)
  short_rising (x ∷ y ∷ l) h = absurd (omega arith)

  ordered_rising : (k : ℕ) (l : List ℕ) → length l ≤ 2 ^ k → Rising (ordered k s l)
  unfolding ordered ordered_by
  ordered_rising zero l h = short_rising l (omega arith)
  ordered_rising (suc k) l h = ⊎_elim
      (λ (e : ltb (length l) 2 ≡ true). rw e (short_rising l (ltb-true (length l) 2 e)))
      (λ (e : ltb (length l) 2 ≡ false).
      rw e (merged_rising (length l) (ordered k s (take (length l / 2) l)) (ordered k s (drop (length l / 2) l))
      (ordered_rising k (take (length l / 2) l) (rw (length-take (length l / 2) l) (omega arith)))
      (ordered_rising k (drop (length l / 2) l) (rw (length-drop (length l / 2) l) (omega arith)))))
      (yes_no (ltb (length l) 2))

  -- members
  module _ (n : Name) where
    abbrev has : List ℕ → Bool
    has l = elem n (names_in_of s l)

    merged-has : (k : ℕ) (l r : List ℕ) → k ≡ length l + length r → has (merged s k l r) ≡ has l || has r
    unfolding merged elem names_in_of
    merged-has zero [] [] e = refl
    merged-has zero [] (y ∷ r) e = absurd (omega arith)
    merged-has zero (x ∷ l) r e = absurd (omega arith)
    merged-has (suc k) [] [] e = absurd (omega arith)
    merged-has (suc k) (x ∷ l) [] e = rw (merged-has k l [] (omega arith)) (through (eq_name n (name_in s x)) (has l) false)
    merged-has (suc k) [] (y ∷ r) e = rw (merged-has k [] r (omega arith))
    merged-has (suc k) (x ∷ l) (y ∷ r) e = ⊎_elim
        (λ (f : before (name_in s y) (name_in s x) ≡ true).
        rw (f, merged-has k (x ∷ l) r (omega arith)) (over (eq_name n (name_in s y)) (has (x ∷ l)) (has r)))
        (λ (f : before (name_in s y) (name_in s x) ≡ false).
        rw (f, merged-has k l (y ∷ r) (omega arith)) (through (eq_name n (name_in s x)) (has l) (has (y ∷ r))))
        (yes_no (before (name_in s y) (name_in s x)))

    both_halves : (a b : List Name) → elem n a || elem n b ≡ elem n (a ++ b)
    unfolding elem
    both_halves [] b = refl
    both_halves (m ∷ a) b = sym (through (eq_name n m) (elem n a) (elem n b)) ∙ ap (λ (t : Bool). cond (eq_name n m) true t) (both_halves a b)

    ordered-has : (k : ℕ) (l : List ℕ) → has (ordered k s l) ≡ has l
    unfolding ordered ordered_by
    ordered-has zero l = refl
    ordered-has (suc k) l = ⊎_elim
        (λ (e : ltb (length l) 2 ≡ true). rw e)
        (λ (e : ltb (length l) 2 ≡ false).
        let h : ℕ = length l / 2 in
        rw e (merged-has (length l) (ordered k s (take h l)) (ordered k s (drop h l)) (rw (ordered-length k s (take h l), ordered-length k s (drop h l), length-take h l, length-drop h l) (omega arith))
        ∙ rw (ordered-has k (take h l), ordered-has k (drop h l)) (both_halves (names_in_of s (take h l)) (names_in_of s (drop h l)) ∙ ap (elem n) (sym (names_append s (take h l) (drop h l)) ∙ ap (names_in_of s) (take-append-drop h l)))))
        (yes_no (ltb (length l) 2))

    once_has : (x : ℕ) (l : List ℕ) → has (x ∷ once_after s x l) ≡ has (x ∷ l)
    unfolding elem names_in_of once_after
    once_has x [] = refl
    once_has x (y ∷ l) = ⊎_elim
        (λ (e : eq_name (name_in s x) (name_in s y) ≡ true).
        let q = eq_name-true (name_in s x) (name_in s y) e in
        rw e (once_has x l ∙ rw q (twice (eq_name n (name_in s y)) (has l))))
        (λ (e : eq_name (name_in s x) (name_in s y) ≡ false).
        rw e (ap (λ (t : Bool). cond (eq_name n (name_in s x)) true t) (once_has y l)))
        (yes_no (eq_name (name_in s x) (name_in s y)))

  once_ascends : (x : ℕ) (l : List ℕ) → Rising (x ∷ l) → Ascending (names_in_of s (x ∷ once_after s x l))
  unfolding names_in_of once_after
  once_ascends x [] h = tt
  once_ascends x (y ∷ l) h = ⊎_elim
      (λ (e : eq_name (name_in s x) (name_in s y) ≡ true).
      let q = eq_name-true (name_in s x) (name_in s y) e in
      rw e (once_ascends x l (from_same x y l q h.1.0, h.1.1)))
      (λ (e : eq_name (name_in s x) (name_in s y) ≡ false).
      rw e (less_of (name_in s x) (name_in s y) e h.0, once_ascends y l h.1))
      (yes_no (eq_name (name_in s x) (name_in s y)))
    where
      from_same : (x y : ℕ) (l : List ℕ) → name_in s x ≡ name_in s y → From y l → From x l
      from_same x y [] q p = tt
      from_same x y (z ∷ l) q p = rw q p

  whole_ascends : (l : List ℕ) → Rising l → Ascending (names_in_of s (once s l))
  unfolding names_in_of once
  whole_ascends [] h = tt
  whole_ascends (x ∷ l) h = once_ascends x l h

  whole_has : (n : Name) (l : List ℕ) → elem n (names_in_of s (once s l)) ≡ elem n (names_in_of s l)
  unfolding once
  whole_has n [] = refl
  whole_has n (x ∷ l) = once_has n x l

  pub sorted_names : (l : List ℕ) → length l ≤ 2 ^ 24 → names_in_of s (once s (ordered 24 s l)) ≡ sorted (names_in_of s l)
  sorted_names l h =
      unique (names_in_of s (once s (ordered 24 s l))) (sorted (names_in_of s l)) (whole_ascends (ordered 24 s l) (ordered_rising 24 l h)) (sorted_ascends (names_in_of s l))
      (λ n. whole_has n (ordered 24 s l) ∙ ordered-has n 24 l ∙ sym (elem-sorted n (names_in_of s l)))

-- no more than there were
once_after_short : (s : List ℕ) (x : ℕ) (l : List ℕ) → length (once_after s x l) ≤ length l
unfolding once_after
once_after_short s x [] = omega arith
once_after_short s x (y ∷ l) = ⊎_elim
    (λ (e : eq_name (name_in s x) (name_in s y) ≡ true). rw e (let h = once_after_short s x l in omega arith))
    (λ (e : eq_name (name_in s x) (name_in s y) ≡ false). rw e (let h = once_after_short s y l in omega arith))
    (yes_no (eq_name (name_in s x) (name_in s y)))

pub once_short : (s l : List ℕ) → length (once s l) ≤ length l
unfolding once
once_short s [] = omega arith
once_short s (x ∷ l) = let h = once_after_short s x l in omega arith
