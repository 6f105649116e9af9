-- The tests `eq_name` and `elem` say equality and membership.
use mathlib.Core.Path.{◌≡◌, refl}
use mathlib.Core.Logic.{⊎_elim}
use mathlib.Core.List.Memᴰ
use mathlib.Core.List.{List, [], ◌∷◌, Memᴰ}
use mathlib.Core.Bool.{Bool, true, false, cond}
use lib.Dec.{eqb}
use borrow.Author.Tests.{eqb-true, eq-eqb}
use Rattle.definition.specs.Tree.{Name}
use Rattle.definition.specs.Names.{eq_name, elem}
use Rattle.laws.proofs.Tests.{by_test, not_both}

both : (a b : Bool) → cond a b false ≡ true → (a ≡ true) × (b ≡ true)
both true b e = (refl, e)
both false b e = not_both false e refl

pub eq_name-true : (a b : Name) → eq_name a b ≡ true → a ≡ b
unfolding eq_name
eq_name-true [] [] e = refl
eq_name-true [] (y ∷ ys) e = not_both false e refl
eq_name-true (x ∷ xs) [] e = not_both false e refl
eq_name-true (x ∷ xs) (y ∷ ys) e =
    let p = both (eqb x y) (eq_name xs ys) e in
    let a : x ≡ y = eqb-true x y p.0 in
    let b : xs ≡ ys = eq_name-true xs ys p.1 in
    cc

pub eq_name_refl : (a : Name) → eq_name a a ≡ true
unfolding eq_name
eq_name_refl [] = refl
eq_name_refl (x ∷ xs) = simp (eq-eqb x x refl, eq_name_refl xs)

pub eq_name_swap : (a b : Name) → eq_name a b ≡ false → eq_name b a ≡ false
eq_name_swap a b e = by_test (eq_name b a)
    (λ p. let q = eq_name-true b a p in not_both (eq_name a b) (rw q (eq_name_refl a)) e)
    (λ p. p)

pub elem_in : (n : Name) (l : List Name) → elem n l ≡ true → Memᴰ n l
unfolding elem
elem_in n [] e = not_both false e refl
elem_in n (m ∷ l) e = by_test (eq_name n m)
    (λ p. Memᴰ.head (eq_name-true n m p))
    (λ p. Memᴰ.tail (elem_in n l (rw p at e)))

pub in-elem : (n : Name) (l : List Name) → Memᴰ n l → elem n l ≡ true
unfolding elem
in-elem n [] h = absurd (Memᴰ.not-nil h)
in-elem n (m ∷ l) h = ⊎_elim
    (λ p. rw (← p, eq_name_refl n))
    (λ p. by_test (eq_name n m) (λ q. rw q) (λ q. rw (q, in-elem n l p)))
    (Memᴰ.cases_cons h)
