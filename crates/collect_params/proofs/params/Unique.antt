-- A list of names that ascends is fixed by its members.
-- Assumes nothing.
use mathlib.Core.Path.{◌≡◌, refl, sym, ap, ◌∙◌}
use mathlib.Core.Logic.{◌⊎◌, inl, inr, ⊎_elim}
use mathlib.Core.List.{List, [], ◌∷◌}
use mathlib.Core.Bool.{true, false, cond}
use native.Mathlib.Omega.{arith}
use lib.Dec.{eqb}
use borrow.Author.Tests.{eqb-true, eqb-false, ltb-false, eq-eqb}
use Rattle.definition.specs.Tree.{Name}
use Rattle.definition.specs.Names.{eq_name, elem, before}
use Rattle.laws.specs.Laws.{Less, ends, smaller, equal, Ascending}
use Rattle.laws.proofs.Tests.{yes_no, not_both}
use Rattle.laws.proofs.Members.{eq_name-true, eq_name_refl}
use Rattle.laws.proofs.Order.{passes, irreflexive}

-- of two names that differ the one that the other is not before
pub less_of : (a b : Name) → eq_name a b ≡ false → before b a ≡ false → Less a b
unfolding eq_name before
less_of [] [] e f = not_both true refl e
less_of [] (y ∷ b) e f = ends
less_of (x ∷ a) [] e f = not_both true refl f
less_of (x ∷ a) (y ∷ b) e f = ⊎_elim
    (λ (p : eqb y x ≡ true). let q = eqb-true y x p in rw q (equal (less_of a b (rw (q, eq-eqb x x refl) at e) (rw p at f))))
    (λ (p : eqb y x ≡ false). smaller (omega (arith, eqb-false y x p, ltb-false y x (rw p at f))))
    (yes_no (eqb y x))

-- a member is the first, or behind it
one_of : (x y : Name) (b : List Name) → elem x (y ∷ b) ≡ true → (x ≡ y) ⊎ (elem x b ≡ true)
unfolding elem
one_of x y b e = ⊎_elim
    (λ (p : eq_name x y ≡ true). inl (eq_name-true x y p))
    (λ (p : eq_name x y ≡ false). inr (rw p at e))
    (yes_no (eq_name x y))

first_in : (x : Name) (a : List Name) → elem x (x ∷ a) ≡ true
unfolding elem
first_in x a = rw (eq_name_refl x)

-- what stands behind the first is larger
larger : (y x : Name) (b : List Name) → Ascending (y ∷ b) → elem x b ≡ true → Less y x
unfolding elem
larger y x [] h e = not_both false e refl
larger y x (m ∷ b) h e = larger_of y x m b h.0 (one_of x m b e) (λ f. larger m x b h.1 f)
  where
    larger_of : (y x m : Name) (b : List Name) → Less y m → (x ≡ m) ⊎ (elem x b ≡ true) → (elem x b ≡ true → Less m x) → Less y x
    larger_of y x m b p (inl e) f = rw e p
    larger_of y x m b p (inr e) f = passes p (f e)

not_behind : (x : Name) (a : List Name) → Ascending (x ∷ a) → elem x a ≡ false
not_behind x a h = ⊎_elim (λ (e : elem x a ≡ true). absurd (irreflexive x (larger x x a h e))) (λ e. e) (yes_no (elem x a))

tail_of : (x : Name) (a : List Name) → Ascending (x ∷ a) → Ascending a
tail_of x [] h = tt
tail_of x (m ∷ a) h = h.1

pub unique : (a b : List Name) → Ascending a → Ascending b → ((n : Name) → elem n a ≡ elem n b) → a ≡ b
unfolding elem
unique [] [] h k e = refl
unique [] (y ∷ b) h k e = not_both false (e y ∙ first_in y b) refl
unique (x ∷ a) [] h k e = not_both false (sym (e x) ∙ first_in x a) refl
unique (x ∷ a) (y ∷ b) h k e =
    let same : x ≡ y = heads x y a b h k (one_of x y b (sym (e x) ∙ first_in x a)) (one_of y x a (e y ∙ first_in y b)) in
    let rest : a ≡ b = unique a b (tail_of x a h) (tail_of y b k) (λ n. tails n x y a b same h k (e n)) in
    cc
  where
    heads : (x y : Name) (a b : List Name) → Ascending (x ∷ a) → Ascending (y ∷ b) → (x ≡ y) ⊎ (elem x b ≡ true) → (y ≡ x) ⊎ (elem y a ≡ true) → x ≡ y
    heads x y a b h k (inl p) q = p
    heads x y a b h k (inr p) (inl q) = sym q
    heads x y a b h k (inr p) (inr q) = absurd (irreflexive x (passes (larger x y a h q) (larger y x b k p)))

    tails : (n x y : Name) (a b : List Name) → x ≡ y → Ascending (x ∷ a) → Ascending (y ∷ b) → elem n (x ∷ a) ≡ elem n (y ∷ b) → elem n a ≡ elem n b
    tails n x y a b s h k e = ⊎_elim
        (λ (p : eq_name n x ≡ true).
        let q : n ≡ x = eq_name-true n x p in
        rw q (not_behind x a h ∙ sym (rw s (not_behind y b k))))
        (λ (p : eq_name n x ≡ false). rw p at (e ∙ sym (ap (λ (m : Name). cond (eq_name n m) true (elem n b)) s)))
        (yes_no (eq_name n x))
