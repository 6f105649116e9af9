-- Each lifted name is called once, without a chain and with its parameters for arguments, where every name that is called in the expanded list is none of theirs.
use mathlib.Core.Path.{◌≡◌, refl, sym, ap, ◌∙◌}
use mathlib.Core.Logic.{inl, inr}
use mathlib.Core.List.{List, [], ◌∷◌, ◌++◌, append-nil, append_assoc}
use mathlib.Core.Bool.{Bool, true, false}
use Prim.Native.Nat.{ℕ, ◌+◌}
use native.Mathlib.Omega.{arith}
use lib.ListN.{length, length-append}
use Rattle.definition.specs.Tree.{Name, Combinator, plain, chained, Inner, leaf, struct, choice, shell, bytes, invocation, macro_invocation, Fields, no_field, field, const, Cases, no_case, case, Param, Definition, format, constant, byte_order, macro}
use Rattle.definition.specs.Names.{eq_name, elem, sorted}
use Rattle.definition.specs.Collect.{free}
use Rattle.definition.specs.Lift.{State, names}
use Rattle.laws.specs.Lists.{param_names, Distinct}
use Rattle.laws.proofs.Tests.{by_test, not_both}
use Rattle.laws.proofs.Members.{eq_name-true, eq_name_refl, eq_name_swap}
use Rattle.demand3.specs.Words.{Named, EachBody, EachCall, EachCallI, EachCallF, EachCallC}
use Rattle.demand3.specs.Called.{Call, calls, calls_i, calls_f, calls_c, calls_in, of_name, calls_of, Each, Once, Handed}
use Rattle.demand3.proofs.Agree.{named_elem}
use Rattle.demand3.proofs.Elem.{elem_tail, names_snoc}
use Rattle.demand3.proofs.Formats.{Has}
use Rattle.demand3.proofs.Trace.{Kid, walked, moved, Walks, WalksI, WalksF, WalksC, WalksAll}

-- calls of a name in two lists
of_append : (n : Name) (a b : List Call) → of_name n (a ++ b) ≡ of_name n a ++ of_name n b
unfolding of_name
of_append n [] b = refl
of_append n (x ∷ a) b = by_test (eq_name x.name n) (λ q. rw (q, of_append n a b) refl) (λ q. rw (q, of_append n a b) refl)

in-append : (ds es : List Definition) → calls_in (ds ++ es) ≡ calls_in ds ++ calls_in es
unfolding calls_in
in-append [] es = refl
in-append (format n ps c ∷ ds) es = rw (in-append ds es) (sym (append_assoc (calls c) (calls_in ds) (calls_in es)))
in-append (constant n x ∷ ds) es = in-append ds es
in-append (byte_order x ∷ ds) es = in-append ds es
in-append (macro n ps c ∷ ds) es = in-append ds es

in-snoc : (ds : List Definition) (n : Name) (ps : List Param) (c : Combinator) → calls_in (ds ++ (format n ps c ∷ [])) ≡ calls_in ds ++ (calls c ++ [])
unfolding calls_in
in-snoc ds n ps c = in-append ds (format n ps c ∷ [])

-- how often a name stands among others
abbrev bit : Bool → ℕ
bit true = 1
bit false = 0

unfoldable occurs : Name → List Name → ℕ
occurs n [] = 0
occurs n (m ∷ ms) = bit (eq_name m n) + occurs n ms

occurs_snoc : (n m : Name) (ms : List Name) → occurs n (ms ++ (m ∷ [])) ≡ occurs n ms + bit (eq_name m n)
unfolding occurs
occurs_snoc n m [] = omega arith
occurs_snoc n m (x ∷ ms) = rw (occurs_snoc n m ms) (omega arith)

occurs_not : (n : Name) (ms : List Name) → elem n ms ≡ false → occurs n ms ≡ 0
unfolding occurs
occurs_not n [] q = refl
occurs_not n (m ∷ ms) q = let w = elem_tail n m ms q in rw (eq_name_swap n m w.0) (omega (arith, occurs_not n ms w.1))

occurs_once : (n : Name) (ms : List Name) → Distinct ms → elem n ms ≡ true → occurs n ms ≡ 1
unfolding occurs elem
occurs_once n [] d q = not_both false q refl
occurs_once n (m ∷ ms) d q = by_test (eq_name n m)
    (λ r. let e = eq_name-true n m r in let k : eq_name m n ≡ true = rw e (eq_name_refl m) in let o : occurs n ms ≡ 0 = occurs_not n ms (rw e d.0) in rw k (omega (arith, o)))
    (λ r. rw (eq_name_swap n m r) (omega (arith, occurs_once n ms d.1 (rw r at q))))

-- those of these definitions that have the name n have parameters of these names
abbrev Fits : Name → List Name → List Definition → Type 0
Fits n ns [] = Unit {0}
Fits n ns (format m ps c ∷ ds) = (eq_name m n ≡ true → param_names ps ≡ ns) × Fits n ns ds
Fits n ns (constant m x ∷ ds) = Fits n ns ds
Fits n ns (byte_order x ∷ ds) = Fits n ns ds
Fits n ns (macro m ps c ∷ ds) = Fits n ns ds

fits_snoc : (n : Name) (ns : List Name) (ds : List Definition) (m : Name) (ps : List Param) (c : Combinator) → Fits n ns (ds ++ (format m ps c ∷ [])) → Fits n ns ds × (eq_name m n ≡ true → param_names ps ≡ ns)
fits_snoc n ns [] m ps c f = (tt, f.0)
fits_snoc n ns (format k qs d ∷ ds) m ps c f = let r = fits_snoc n ns ds m ps c f.1 in ((f.0, r.0), r.1)
fits_snoc n ns (constant k x ∷ ds) m ps c f = fits_snoc n ns ds m ps c f
fits_snoc n ns (byte_order x ∷ ds) m ps c f = fits_snoc n ns ds m ps c f
fits_snoc n ns (macro k qs d ∷ ds) m ps c f = fits_snoc n ns ds m ps c f

fits_none : (n : Name) (ns : List Name) (ds : List Definition) → elem n (names ds) ≡ false → Fits n ns ds
unfolding names
fits_none n ns [] e = tt
fits_none n ns (format m ps c ∷ ds) e = let w = elem_tail n m (names ds) e in ((λ q. not_both (eq_name m n) q (eq_name_swap n m w.0)), fits_none n ns ds w.1)
fits_none n ns (constant m x ∷ ds) e = fits_none n ns ds (elem_tail n m (names ds) e).1
fits_none n ns (byte_order x ∷ ds) e = fits_none n ns ds e
fits_none n ns (macro m ps c ∷ ds) e = fits_none n ns ds e

has_named : (n : Name) (ps : List Param) (ds : List Definition) → Has n ps ds → Named n ds
has_named n ps [] h = absurd h
has_named n ps (format m qs c ∷ ds) (inl e) = inl e.0
has_named n ps (format m qs c ∷ ds) (inr h) = inr (has_named n ps ds h)
has_named n ps (constant m x ∷ ds) h = inr (has_named n ps ds h)
has_named n ps (byte_order x ∷ ds) h = has_named n ps ds h
has_named n ps (macro m qs c ∷ ds) h = has_named n ps ds h

-- where no two have one name, the one that has it is the one that is meant
fits_own : (n : Name) (ps : List Param) (ds : List Definition) → Distinct (names ds) → Has n ps ds → Fits n (param_names ps) ds
unfolding names
fits_own n ps [] d h = absurd h
fits_own n ps (format m qs c ∷ ds) d (inl e) = ((λ q. rw e.1), fits_none n (param_names ps) ds (rw e.0 d.0))
fits_own n ps (format m qs c ∷ ds) d (inr h) =
    ((λ q. not_both (elem m (names ds)) (rw (eq_name-true m n q) (named_elem n ds (has_named n ps ds h))) d.0), fits_own n ps ds d.1 h)
fits_own n ps (constant m x ∷ ds) d h = fits_own n ps ds d.1 h
fits_own n ps (byte_order x ∷ ds) d h = fits_own n ps ds d h
fits_own n ps (macro m qs c ∷ ds) d h = fits_own n ps ds d h

-- n: a name; ns: what its parameters should be
module _ (n : Name) (ns : List Name) where
  abbrev Right : Call → Type 0
  Right x = (x.chain ≡ false) × (x.arguments ≡ ns)

  abbrev tally : List Call → ℕ
  tally xs = length (of_name n xs)

  tally-append : (a b : List Call) → tally (a ++ b) ≡ tally a + tally b
  tally-append a b = rw (of_append n a b) (length-append (of_name n a) (of_name n b))

  each_append : (a b : List Call) → Each Right a → Each Right b → Each Right (a ++ b)
  each_append [] b p q = q
  each_append (x ∷ a) b p q = (p.0, each_append a b p.1 q)

  right_append : (a b : List Call) → Each Right (of_name n a) → Each Right (of_name n b) → Each Right (of_name n (a ++ b))
  right_append a b p q = rw (of_append n a b) (each_append (of_name n a) (of_name n b) p q)

  -- a part of the walk that leaves the calls xs: of that name there are as many calls more as definitions, and if these fit, the calls are right
  record Even (xs : List Call) (s t : State) : Type 0 where
    fewer : Fits n ns t.made → Fits n ns s.made
    sum : tally xs + tally (calls_in t.made) + occurs n (names s.made) ≡ tally (calls_in s.made) + occurs n (names t.made)
    here : Fits n ns t.made → Each Right (of_name n xs)
    made : Fits n ns t.made → Each Right (of_name n (calls_in s.made)) → Each Right (of_name n (calls_in t.made))

  -- nothing of that name
  still : (xs : List Call) → of_name n xs ≡ [] → (s t : State) → t ≡ s → Even xs s t
  still xs e s t q = rw q (record { fewer = λ f. f; sum = rw e (omega arith); here = λ f. rw e tt; made = λ f h. h })

  nothing : (s t : State) → t ≡ s → Even [] s t
  unfolding of_name
  nothing s t q = still [] refl s t q

  then : (a b : List Call) {s u t : State} → Even a s u → Even b u t → Even (a ++ b) s t
  then a b x y = record {
    fewer = λ f. x.fewer (y.fewer f);
    sum = rw (tally-append a b) (omega (arith, x.sum, y.sum));
    here = λ f. right_append a b (x.here (y.fewer f)) (y.here f);
    made = λ f h. y.made f (x.made (y.fewer f) h);
  }

  -- a chain is walked first and stands last
  turned : (a b : List Call) {s u t : State} → Even a s u → Even b u t → Even (b ++ a) s t
  turned a b x y = record {
    fewer = λ f. x.fewer (y.fewer f);
    sum = rw (tally-append b a) (omega (arith, x.sum, y.sum));
    here = λ f. right_append b a (y.here f) (x.here (y.fewer f));
    made = λ f h. y.made f (x.made (y.fewer f) h);
  }

  other_name : (m : Name) (a : List Name) (x : Bool) → eq_name m n ≡ false → of_name n (record { name = m; arguments = a; chain = x } ∷ []) ≡ []
  unfolding of_name
  other_name m a x q = rw q refl

  one_counted : (m : Name) (a : List Name) → tally (record { name = m; arguments = a; chain = false } ∷ []) ≡ bit (eq_name m n)
  unfolding of_name
  one_counted m a = by_test (eq_name m n) (λ q. rw q refl) (λ q. rw q refl)

  one_right : (m : Name) (a : List Name) → (eq_name m n ≡ true → a ≡ ns) → Each Right (of_name n (record { name = m; arguments = a; chain = false } ∷ []))
  unfolding of_name
  one_right m a h = by_test (eq_name m n) (λ q. rw q ((refl, h q), tt)) (λ q. rw q tt)

  -- P: names that are not this one
  module _ (P : Name → Type 0) (other : (m : Name) → P m → eq_name m n ≡ false) where
    kid_even : (c : Combinator) (W : State → Combinator → State → Type 0) → ((s : State) (d : Combinator) (t : State) → W s d t → Even (calls d) s t) → (s : State) (d : Combinator) (t : State) → Kid c W s d t → Even (calls d) s t
    unfolding calls
    kid_even c W ih s d t (walked q w) = ih s d t w
    kid_even c W ih s d t (moved inside m b l w) =
        let r = ih l.first l.body l.last w in
        let o = one_counted l.name (sorted (free c)) in
        let e : calls_in t.made ≡ calls_in l.last.made ++ (calls l.body ++ []) = ap calls_in l.last_made ∙ in-snoc l.last.made l.name l.params l.body in
        let e₁ : tally (calls_in t.made) ≡ tally (calls_in l.last.made) + tally (calls l.body) = ap tally e ∙ (tally-append (calls_in l.last.made) (calls l.body ++ []) ∙ ap (λ x. tally (calls_in l.last.made) + tally x) (append-nil (calls l.body))) in
        let e₂ : occurs n (names t.made) ≡ occurs n (names l.last.made) + bit (eq_name l.name n) = ap (λ x. occurs n (names x)) l.last_made ∙ (ap (occurs n) (names_snoc l.last.made l.name l.params l.body) ∙ occurs_snoc n l.name (names l.last.made)) in
        let f₁ : tally (calls_in l.first.made) ≡ tally (calls_in s.made) = ap (λ x. tally (calls_in x)) l.first_made in
        let f₂ : occurs n (names l.first.made) ≡ occurs n (names s.made) = ap (λ x. occurs n (names x)) l.first_made in
        let fit : Fits n ns t.made → Fits n ns l.last.made × (eq_name l.name n ≡ true → param_names l.params ≡ ns) = λ f. fits_snoc n ns l.last.made l.name l.params l.body (rw l.last_made at f) in
        rw l.there (record {
          fewer = λ f. rw l.first_made at (r.fewer (fit f).0);
          sum = omega (arith, r.sum, o, e₁, e₂, f₁, f₂);
          here = λ f. one_right l.name (sorted (free c)) (λ q. sym l.needed ∙ (fit f).1 q);
          made = λ f h. rw e (right_append (calls_in l.last.made) (calls l.body ++ []) (r.made (fit f).0 (rw l.first_made h)) (rw (append-nil (calls l.body)) (r.here (fit f).0)));
        })

    mutual
      unfolding calls

      even : (c : Combinator) → EachCall c P → (s : State) (d : Combinator) (t : State) → Walks c s d t → Even (calls d) s t
      even (plain i) p s d t w = rw w.is (even_i i p s w.part t w.went false)
      even (chained i c) p s d t w = rw w.is (turned (calls w.one) (calls_i w.two true) (kid_even c (λ s d t. Walks c s d t) (λ s d t v. even c p.1 s d t v) s w.one w.mid w.first) (even_i i p.0 w.mid w.two t w.second true))

      even_i : (i : Inner) → EachCallI i P → (s : State) (j : Inner) (t : State) → WalksI i s j t → (x : Bool) → Even (calls_i j x) s t
      even_i (leaf k y) p s j t w x = rw w.is (nothing s t w.state)
      even_i (struct f) p s j t w x = rw w.is (even_f f p s w.part t w.went)
      even_i (choice y k f) p s j t w x = rw w.is (even_c f p s w.part t w.went)
      even_i (shell y c) p s j t w x = rw w.is (kid_even c (λ s d t. Walks c s d t) (λ s d t v. even c p s d t v) s w.part t w.went)
      even_i (bytes l) p s j t w x = rw w.is (nothing s t w.state)
      even_i (invocation m a) p s j t w x = rw w.is (still (record { name = m; arguments = a; chain = x } ∷ []) (other_name m a x (other m p)) s t w.state)
      even_i (macro_invocation m a) p s j t w x = rw w.is (nothing s t w.state)

      even_f : (f : Fields) → EachCallF f P → (s : State) (g : Fields) (t : State) → WalksF f s g t → Even (calls_f g) s t
      even_f no_field p s g t w = rw w.is (nothing s t w.state)
      even_f (field k l c f) p s g t w = rw w.is (then (calls w.one) (calls_f w.two) (kid_even c (λ s d t. Walks c s d t) (λ s d t v. even c p.0 s d t v) s w.one w.mid w.first) (even_f f p.1 w.mid w.two t w.second))
      even_f (const l y f) p s g t w = rw w.is (even_f f p s w.part t w.went)

      even_c : (f : Cases) → EachCallC f P → (s : State) (g : Cases) (t : State) → WalksC f s g t → Even (calls_c g) s t
      even_c no_case p s g t w = rw w.is (nothing s t w.state)
      even_c (case l c f) p s g t w = rw w.is (then (calls w.one) (calls_c w.two) (kid_even c (λ s d t. Walks c s d t) (λ s d t v. even c p.0 s d t v) s w.one w.mid w.first) (even_c f p.1 w.mid w.two t w.second))

    even_all : (ds : List Definition) → EachBody (λ c. EachCall c P) ds → (s : State) (es : List Definition) (t : State) → WalksAll ds s es t → Even (calls_in es) s t
    unfolding calls_in
    even_all [] p s es t w = rw w.is (nothing s t w.state)
    even_all (format m ps c ∷ ds) p s es t w = rw w.is (then (calls w.one) (calls_in w.two) (even c p.0 s w.one w.mid w.first) (even_all ds p.1 w.mid w.two t w.second))
    even_all (constant m x ∷ ds) p s es t w = rw w.is (even_all ds p s w.part t w.went)
    even_all (byte_order x ∷ ds) p s es t w = rw w.is (even_all ds p s w.part t w.went)
    even_all (macro m ps c ∷ ds) p s es t w = rw w.is (even_all ds p s w.part t w.went)

  -- what holds of a call that is right
  each_chain : (xs : List Call) → Each Right xs → Each (λ x. x.chain ≡ false) xs
  each_chain [] h = tt
  each_chain (x ∷ xs) h = (h.0.0, each_chain xs h.1)

  each_arguments : (xs : List Call) → Each Right xs → Handed ns xs
  each_arguments [] h = tt
  each_arguments (x ∷ xs) h = (rw h.0.1, each_arguments xs h.1)

-- the whole list: the lifted definition of name n and parameters ps
module _ (ds : List Definition) (p : EachBody (λ c. EachCall c (λ m. Named m ds)) ds) (s : State) (none : s.made ≡ []) (es : List Definition) (t : State) (w : WalksAll ds s es t)
    (fresh : (m : Name) → Named m ds → Named m t.made → ⊥) (distinct : Distinct (names t.made)) (n : Name) (ps : List Param) (h : Has n ps t.made) where
  evenly : Even n (param_names ps) (calls_in es) s t
  evenly = even_all n (param_names ps) (λ m. Named m ds) (λ m x. by_test (eq_name m n) (λ y. absurd (fresh m x (rw (eq_name-true m n y) (has_named n ps t.made h)))) (λ y. y)) ds p s es t w

  abbrev there : List Call
  there = calls_of n (es ++ t.made)

  all_right : Each (Right n (param_names ps)) there
  unfolding calls_in of_name
  all_right =
      let f = fits_own n ps t.made distinct h in
      let r : Each (Right n (param_names ps)) (of_name n (calls_in s.made)) = rw none tt in
      rw (in-append es t.made) (right_append n (param_names ps) (calls_in es) (calls_in t.made) (evenly.here f) (evenly.made f r))

  pub called_once : Once there
  unfolding calls_in of_name names occurs
  called_once =
      let a = tally-append n (param_names ps) (calls_in es) (calls_in t.made) in
      let b : length there ≡ tally n (param_names ps) (calls_in es ++ calls_in t.made) = ap (λ x. length (of_name n x)) (in-append es t.made) in
      let c : occurs n (names s.made) ≡ 0 = rw none refl in
      let d : tally n (param_names ps) (calls_in s.made) ≡ 0 = rw none refl in
      let o = occurs_once n (names t.made) distinct (named_elem n t.made (has_named n ps t.made h)) in
      record { one = omega (arith, evenly.sum, a, b, c, d, o); no_chain = each_chain n (param_names ps) there all_right }

  pub called_handed : Handed (param_names ps) there
  called_handed = each_arguments n (param_names ps) there all_right
