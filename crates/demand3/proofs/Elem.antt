-- Laws of name lists and of the bodies of lifted names.
use mathlib.Core.Path.{◌≡◌, refl}
use mathlib.Core.Logic.{⊎_elim}
use mathlib.Core.List.{List, [], ◌∷◌, ◌++◌}
use mathlib.Core.Bool.{true, false}
use Prim.Native.Nat.{ℕ}
use native.Mathlib.Omega.{arith}
use Rattle.definition.specs.Res.{absent, just}
use Rattle.definition.specs.Tree.{Name, Combinator, Param, Definition, format, constant, byte_order, macro}
use Rattle.definition.specs.Names.{eq_name, elem}
use Rattle.definition.specs.Lift.{names}
use Rattle.demand3.specs.PutBack.{whole_of}
use Rattle.laws.specs.Lists.{Distinct}
use Rattle.laws.proofs.Tests.{yes_no, not_both}
use Rattle.laws.proofs.Members.{eq_name-true, eq_name_refl, eq_name_swap}

-- one is in a list in which the other is not
pub apart : (m n : Name) (l : List Name) → elem m l ≡ true → elem n l ≡ false → eq_name m n ≡ false
apart m n l p q = ⊎_elim
    (λ (r : eq_name m n ≡ true). let e = eq_name-true m n r in not_both (elem m l) p (rw e q))
    (λ r. r)
    (yes_no (eq_name m n))

pub elem_here : (n : Name) (l : List Name) → elem n (n ∷ l) ≡ true
unfolding elem
elem_here n l = rw (eq_name_refl n)

pub elem_there : (m n : Name) (l : List Name) → elem m l ≡ true → elem m (n ∷ l) ≡ true
unfolding elem
elem_there m n l p = ⊎_elim
    (λ (q : eq_name m n ≡ true). rw q)
    (λ (q : eq_name m n ≡ false). rw (q, p))
    (yes_no (eq_name m n))

pub elem_tail : (m n : Name) (l : List Name) → elem m (n ∷ l) ≡ false → (eq_name m n ≡ false) × (elem m l ≡ false)
unfolding elem
elem_tail m n l p = ⊎_elim
    (λ (q : eq_name m n ≡ true). not_both (elem m (n ∷ l)) (rw q) p)
    (λ (q : eq_name m n ≡ false). (q, rw q at p))
    (yes_no (eq_name m n))

pub elem_snoc : (m n : Name) (l : List Name) → elem m l ≡ false → eq_name m n ≡ false → elem m (l ++ (n ∷ [])) ≡ false
unfolding elem
elem_snoc m n [] p q = rw q
elem_snoc m n (x ∷ l) p q = let w = elem_tail m x l p in rw w.0 (elem_snoc m n l w.1 q)

pub distinct_snoc : (l : List Name) (n : Name) → Distinct l → elem n l ≡ false → Distinct (l ++ (n ∷ []))
unfolding elem
distinct_snoc [] n d p = (refl, tt)
distinct_snoc (x ∷ l) n d p =
    let w = elem_tail n x l p in
    (elem_snoc x n l d.0 (eq_name_swap n x w.0), distinct_snoc l n d.1 w.1)

pub names_snoc : (ds : List Definition) (n : Name) (ps : List Param) (c : Combinator) → names (ds ++ (format n ps c ∷ [])) ≡ names ds ++ (n ∷ [])
unfolding names
names_snoc [] n ps c = refl
names_snoc (format m qs d ∷ ds) n ps c = rw (names_snoc ds n ps c)
names_snoc (constant m x ∷ ds) n ps c = rw (names_snoc ds n ps c)
names_snoc (byte_order x ∷ ds) n ps c = rw (names_snoc ds n ps c)
names_snoc (macro m qs d ∷ ds) n ps c = rw (names_snoc ds n ps c)

-- a body that was found is found after more definitions were appended
pub whole_of_lasts : (ds more : List Definition) (n : Name) (c : Combinator) → whole_of ds n ≡ just c → whole_of (ds ++ more) n ≡ just c
unfolding whole_of
whole_of_lasts [] more n c e = let z : ◌≡◌ {A = ℕ} 0 1 = cc in absurd (omega arith)
whole_of_lasts (format m qs d ∷ ds) more n c e = ⊎_elim
    (λ (q : eq_name m n ≡ true). rw q (rw q at e))
    (λ (q : eq_name m n ≡ false). rw q (whole_of_lasts ds more n c (rw q at e)))
    (yes_no (eq_name m n))
whole_of_lasts (constant m x ∷ ds) more n c e = whole_of_lasts ds more n c e
whole_of_lasts (byte_order x ∷ ds) more n c e = whole_of_lasts ds more n c e
whole_of_lasts (macro m qs d ∷ ds) more n c e = whole_of_lasts ds more n c e

-- the one that was appended is found
pub whole_of_new : (ds : List Definition) (n : Name) (ps : List Param) (c : Combinator) → elem n (names ds) ≡ false → whole_of (ds ++ (format n ps c ∷ [])) n ≡ just c
unfolding whole_of names elem
whole_of_new [] n ps c e = rw (eq_name_refl n)
whole_of_new (format m qs d ∷ ds) n ps c e =
    let w = elem_tail n m (names ds) e in
    rw (eq_name_swap n m w.0) (whole_of_new ds n ps c w.1)
whole_of_new (constant m x ∷ ds) n ps c e = whole_of_new ds n ps c (elem_tail n m (names ds) e).1
whole_of_new (byte_order x ∷ ds) n ps c e = whole_of_new ds n ps c e
whole_of_new (macro m qs d ∷ ds) n ps c e = whole_of_new ds n ps c e

-- a name that no definition has stands for nothing
pub whole_of_none : (ds : List Definition) (n : Name) → elem n (names ds) ≡ false → whole_of ds n ≡ absent
unfolding whole_of names elem
whole_of_none [] n e = refl
whole_of_none (format m qs d ∷ ds) n e =
    let w = elem_tail n m (names ds) e in
    rw (eq_name_swap n m w.0) (whole_of_none ds n w.1)
whole_of_none (constant m x ∷ ds) n e = whole_of_none ds n (elem_tail n m (names ds) e).1
whole_of_none (byte_order x ∷ ds) n e = whole_of_none ds n e
whole_of_none (macro m qs d ∷ ds) n e = whole_of_none ds n e
