-- "Parameters: free root names, each once, in byte order."
use mathlib.Core.Path.{◌≡◌, refl, sym, ◌∙◌}
use mathlib.Core.Logic.{◌⊎◌, inl, inr, ⊎_elim}
use mathlib.Core.List.{List, [], ◌∷◌}
use mathlib.Core.Bool.{Bool, true, false, cond}
use native.Mathlib.Nat.{lt_trans}
use native.Mathlib.Omega.{arith}
use lib.Dec.{eqb, ltb}
use borrow.Author.Tests.{eqb-true, eqb-false, ltb-true, ltb-false}
use Rattle.definition.specs.Tree.{Name}
use Rattle.definition.specs.Names.{eq_name, elem, before, insert, sorted}
use Rattle.laws.specs.Lists.{Distinct}
use Rattle.laws.specs.Laws.{ByteOrder, Less, ends, smaller, equal, Ascending, SortedAscends, SortedHasMembers}
use Rattle.laws.proofs.Tests.{by_test, not_both}
use Rattle.laws.proofs.Members.{eq_name-true, elem_in, in-elem}

-- the test says the order
before_less : (a b : Name) → before a b ≡ true → Less a b
unfolding before
before_less [] [] e = not_both false e refl
before_less [] (y ∷ b) e = ends
before_less (x ∷ a) [] e = not_both false e refl
before_less (x ∷ a) (y ∷ b) e = by_test (eqb x y)
    (λ p. rw (eqb-true x y p) (equal (before_less a b (rw p at e))))
    (λ p. smaller (ltb-true x y (rw p at e)))

-- of two names that differ one comes before the other
not_before : (a b : Name) → eq_name a b ≡ false → before a b ≡ false → Less b a
unfolding eq_name before
not_before [] [] e f = not_both true refl e
not_before [] (y ∷ b) e f = not_both true refl f
not_before (x ∷ a) [] e f = ends
not_before (x ∷ a) (y ∷ b) e f = by_test (eqb x y)
    (λ p. rw (eqb-true x y p) (equal (not_before a b (rw p at e) (rw p at f))))
    (λ p. smaller (omega (arith, eqb-false x y p, ltb-false x y (rw p at f))))

-- a name put into a list: what ascends behind m ascends behind it still
insert_behind : (m n : Name) (l : List Name) → Ascending (m ∷ l) → Less m n → Ascending (m ∷ insert n l)
unfolding insert
insert_behind m n [] h p = (p, tt)
insert_behind m n (x ∷ l) h p = by_test (eq_name n x)
    (λ q. rw q h)
    (λ q. by_test (before n x)
    (λ r. rw (q, r) (p, (before_less n x r, h.1)))
    (λ r. rw (q, r) (h.0, insert_behind x n l h.1 (not_before n x q r))))

insert_ascends : (n : Name) (l : List Name) → Ascending l → Ascending (insert n l)
unfolding insert
insert_ascends n [] h = tt
insert_ascends n (x ∷ l) h = by_test (eq_name n x)
    (λ q. rw q h)
    (λ q. by_test (before n x)
    (λ r. rw (q, r) (before_less n x r, h))
    (λ r. rw (q, r) (insert_behind x n l h (not_before n x q r))))

pub sorted_ascends : SortedAscends
unfolding sorted
sorted_ascends [] = tt
sorted_ascends (n ∷ ns) = insert_ascends n (sorted ns) (sorted_ascends ns)

-- sorting keeps the names
elem_swap : (p m n : Name) (l : List Name) → elem p (m ∷ n ∷ l) ≡ elem p (n ∷ m ∷ l)
unfolding elem
elem_swap p m n l = by_tests (eq_name p m) (eq_name p n) (elem p l)
  where
    by_tests : (a b c : Bool) → cond a true (cond b true c) ≡ cond b true (cond a true c)
    by_tests true true c = refl
    by_tests true false c = refl
    by_tests false true c = refl
    by_tests false false c = refl

elem-insert : (p n : Name) (l : List Name) → elem p (insert n l) ≡ elem p (n ∷ l)
unfolding insert elem
elem-insert p n [] = refl
elem-insert p n (m ∷ l) = by_test (eq_name n m)
    (λ q. let e = eq_name-true n m q in rw (q, e) (twice (eq_name p m) (elem p l)))
    (λ q. by_test (before n m)
    (λ r. rw (q, r))
    (λ r. rw (q, r, elem-insert p n l) (elem_swap p m n l)))
  where
    twice : (a c : Bool) → cond a true c ≡ cond a true (cond a true c)
    twice true c = refl
    twice false c = refl

pub elem-sorted : (p : Name) (l : List Name) → elem p (sorted l) ≡ elem p l
unfolding sorted elem
elem-sorted p [] = refl
elem-sorted p (n ∷ l) = rw (elem-insert p n (sorted l), elem-sorted p l)

pub sorted_has_members : SortedHasMembers
sorted_has_members ns n = (λ h. elem_in n ns (sym (elem-sorted n ns) ∙ in-elem n (sorted ns) h), λ h. elem_in n (sorted ns) (elem-sorted n ns ∙ in-elem n ns h))

-- what ascends names each once
pub passes : {a b c : Name} → Less a b → Less b c → Less a c
passes ends (smaller q) = ends
passes ends (equal q) = ends
passes (smaller p) (smaller q) = smaller (lt_trans p q)
passes (smaller p) (equal q) = smaller p
passes (equal p) (smaller q) = smaller q
passes (equal p) (equal q) = equal (passes p q)

less_differs : {a b : Name} → Less a b → a ≡ b → ⊥
less_differs ends e = cc
less_differs {a = x ∷ a} {b = y ∷ b} (smaller p) e = let f : x ≡ y = cc in omega arith
less_differs (equal p) e = less_differs p (cc)

pub irreflexive : (a : Name) → Less a a → ⊥
irreflexive a p = less_differs p refl

total : (a b : Name) → (a ≡ b → ⊥) → Less a b ⊎ Less b a
total [] [] h = absurd (h refl)
total [] (y ∷ b) h = inl ends
total (x ∷ a) [] h = inr ends
total (x ∷ a) (y ∷ b) h = by_test (eqb x y)
    (λ p. let e = eqb-true x y p in rw e (⊎_elim (λ w. inl (equal w)) (λ w. inr (equal w)) (total a b (λ q. h (cc)))))
    (λ p. let e = eqb-false x y p in by_test (ltb x y) (λ q. inl (smaller (ltb-true x y q))) (λ q. inr (smaller (omega (arith, ltb-false x y q)))))

pub byte_order : ByteOrder
byte_order = record { irreflexive = irreflexive; transitive = λ a b c p q. passes p q; total = total }

less_apart : (a b : Name) → Less a b → eq_name a b ≡ false
less_apart a b p = by_test (eq_name a b) (λ e. let f = eq_name-true a b e in absurd (irreflexive b (rw f at p))) (λ e. e)

behind : (n : Name) (l : List Name) → Ascending (n ∷ l) → elem n l ≡ false
unfolding elem
behind n [] h = refl
behind n (m ∷ []) h = rw (less_apart n m h.0)
behind n (m ∷ x ∷ l) h = rw (less_apart n m h.0) (behind n (x ∷ l) (passes h.0 h.1.0, h.1.1))

distinct : (l : List Name) → Ascending l → Distinct l
distinct [] h = tt
distinct (n ∷ []) h = (behind n [] h, tt)
distinct (n ∷ m ∷ l) h = (behind n (m ∷ l) h, distinct (m ∷ l) h.1)

pub sorted_distinct : (l : List Name) → Distinct (sorted l)
sorted_distinct l = distinct (sorted l) (sorted_ascends l)
