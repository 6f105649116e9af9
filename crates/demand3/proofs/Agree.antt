-- The words of demand 3 and the tests of the definition say the same.
use mathlib.Core.Path.{◌≡◌, refl}
use mathlib.Core.Logic.{◌⊎◌, inl, inr}
use mathlib.Core.List.{List, [], ◌∷◌}
use mathlib.Core.Bool.{Bool, true, false, ◌&&◌}
use Rattle.definition.specs.Tree.{Name, Leaf, constraint_int, constraint_enum, bits, enum, tail, nothing, never, Combinator, plain, chained, Inner, leaf, struct, choice, shell, bytes, invocation, macro_invocation, Fields, no_field, field, const, Cases, no_case, case, Definition, format, constant, byte_order, macro}
use Rattle.definition.specs.Names.{eq_name, elem}
use Rattle.definition.specs.Collect.{is_tail, bytes_or_tail}
use Rattle.definition.specs.Lift.{names}
use Rattle.definition.specs.Bodies.{every_invocation, every_invocation_i, every_invocation_f, every_invocation_c, chains_ok, chains_ok_i, chains_ok_f, chains_ok_c, every_body}
use Rattle.definition.specs.Premise.{calls_known, chains_plain}
use Rattle.laws.proofs.Tests.{by_test, not_both, both_true}
use Rattle.laws.proofs.Members.{eq_name-true, eq_name_refl}
use Rattle.demand3.specs.Words.{Named, EachBody, EachCall, EachCallI, EachCallF, EachCallC, IsTail, BytesOrTail, PlainChains, PlainChainsI, PlainChainsF, PlainChainsC}
use Rattle.demand3.specs.Demand3.{CallsKnown, ChainsPlain}

-- names of the list
here_or_there : (n m : Name) (l : List Name) → (n ≡ m) ⊎ (elem n l ≡ true) → elem n (m ∷ l) ≡ true
unfolding elem
here_or_there n m l (inl e) = rw (← e, eq_name_refl n)
here_or_there n m l (inr h) = by_test (eq_name n m) (λ q. rw q) (λ q. rw (q, h))

there_or_here : (n m : Name) (l : List Name) → elem n (m ∷ l) ≡ true → (n ≡ m) ⊎ (elem n l ≡ true)
unfolding elem
there_or_here n m l h = by_test (eq_name n m) (λ q. inl (eq_name-true n m q)) (λ q. inr (rw q at h))

module _ {A B C : Type 0} where
  right : (B → C) → A ⊎ B → A ⊎ C
  right f (inl a) = inl a
  right f (inr b) = inr (f b)

pub named_elem : (n : Name) (ds : List Definition) → Named n ds → elem n (names ds) ≡ true
unfolding names
named_elem n [] h = absurd h
named_elem n (format m ps c ∷ ds) h = here_or_there n m (names ds) (right (λ w. named_elem n ds w) h)
named_elem n (constant m x ∷ ds) h = here_or_there n m (names ds) (right (λ w. named_elem n ds w) h)
named_elem n (byte_order x ∷ ds) h = named_elem n ds h
named_elem n (macro m ps c ∷ ds) h = named_elem n ds h

pub elem_named : (n : Name) (ds : List Definition) → elem n (names ds) ≡ true → Named n ds
unfolding names elem
elem_named n [] h = not_both false h refl
elem_named n (format m ps c ∷ ds) h = right (λ w. elem_named n ds w) (there_or_here n m (names ds) h)
elem_named n (constant m x ∷ ds) h = right (λ w. elem_named n ds w) (there_or_here n m (names ds) h)
elem_named n (byte_order x ∷ ds) h = elem_named n ds h
elem_named n (macro m ps c ∷ ds) h = elem_named n ds h

pub unnamed : (n : Name) (ds : List Definition) → elem n (names ds) ≡ false → Named n ds → ⊥
unnamed n ds h w = not_both (elem n (names ds)) (named_elem n ds w) h

-- called names
module _ (P : Name → Type 0) (test : Name → Bool) (h : (n : Name) → P n → test n ≡ true) where
  mutual
    unfolding every_invocation

    pub calls_pass : (c : Combinator) → EachCall c P → every_invocation c test ≡ true
    calls_pass (plain i) p = calls_pass_i i p
    calls_pass (chained i c) p = rw (calls_pass_i i p.0, calls_pass c p.1)

    calls_pass_i : (i : Inner) → EachCallI i P → every_invocation_i i test ≡ true
    calls_pass_i (leaf k x) p = refl
    calls_pass_i (struct f) p = calls_pass_f f p
    calls_pass_i (choice s k f) p = calls_pass_c f p
    calls_pass_i (shell x c) p = calls_pass c p
    calls_pass_i (bytes l) p = refl
    calls_pass_i (invocation n a) p = h n p
    calls_pass_i (macro_invocation n a) p = refl

    calls_pass_f : (f : Fields) → EachCallF f P → every_invocation_f f test ≡ true
    calls_pass_f no_field p = refl
    calls_pass_f (field k l c f) p = rw (calls_pass c p.0, calls_pass_f f p.1)
    calls_pass_f (const l x f) p = calls_pass_f f p

    calls_pass_c : (f : Cases) → EachCallC f P → every_invocation_c f test ≡ true
    calls_pass_c no_case p = refl
    calls_pass_c (case l c f) p = rw (calls_pass c p.0, calls_pass_c f p.1)

module _ (P : Name → Type 0) (test : Name → Bool) (h : (n : Name) → test n ≡ true → P n) where
  mutual
    unfolding every_invocation

    pub passed_calls : (c : Combinator) → every_invocation c test ≡ true → EachCall c P
    passed_calls (plain i) p = passed_calls_i i p
    passed_calls (chained i c) p = let q = both_true (every_invocation_i i test) (every_invocation c test) p in (passed_calls_i i q.0, passed_calls c q.1)

    passed_calls_i : (i : Inner) → every_invocation_i i test ≡ true → EachCallI i P
    passed_calls_i (leaf k x) p = tt
    passed_calls_i (struct f) p = passed_calls_f f p
    passed_calls_i (choice s k f) p = passed_calls_c f p
    passed_calls_i (shell x c) p = passed_calls c p
    passed_calls_i (bytes l) p = tt
    passed_calls_i (invocation n a) p = h n p
    passed_calls_i (macro_invocation n a) p = tt

    passed_calls_f : (f : Fields) → every_invocation_f f test ≡ true → EachCallF f P
    passed_calls_f no_field p = tt
    passed_calls_f (field k l c f) p = let q = both_true (every_invocation c test) (every_invocation_f f test) p in (passed_calls c q.0, passed_calls_f f q.1)
    passed_calls_f (const l x f) p = passed_calls_f f p

    passed_calls_c : (f : Cases) → every_invocation_c f test ≡ true → EachCallC f P
    passed_calls_c no_case p = tt
    passed_calls_c (case l c f) p = let q = both_true (every_invocation c test) (every_invocation_c f test) p in (passed_calls c q.0, passed_calls_c f q.1)

-- what says less holds too
module _ (P Q : Name → Type 0) (h : (n : Name) → P n → Q n) where
  mutual
    pub fewer_calls : (c : Combinator) → EachCall c P → EachCall c Q
    fewer_calls (plain i) p = fewer_calls_i i p
    fewer_calls (chained i c) p = (fewer_calls_i i p.0, fewer_calls c p.1)

    fewer_calls_i : (i : Inner) → EachCallI i P → EachCallI i Q
    fewer_calls_i (leaf k x) p = tt
    fewer_calls_i (struct f) p = fewer_calls_f f p
    fewer_calls_i (choice s k f) p = fewer_calls_c f p
    fewer_calls_i (shell x c) p = fewer_calls c p
    fewer_calls_i (bytes l) p = tt
    fewer_calls_i (invocation n a) p = h n p
    fewer_calls_i (macro_invocation n a) p = tt

    fewer_calls_f : (f : Fields) → EachCallF f P → EachCallF f Q
    fewer_calls_f no_field p = tt
    fewer_calls_f (field k l c f) p = (fewer_calls c p.0, fewer_calls_f f p.1)
    fewer_calls_f (const l x f) p = fewer_calls_f f p

    fewer_calls_c : (f : Cases) → EachCallC f P → EachCallC f Q
    fewer_calls_c no_case p = tt
    fewer_calls_c (case l c f) p = (fewer_calls c p.0, fewer_calls_c f p.1)

pub fewer_bodies : (P Q : Combinator → Type 0) → ((c : Combinator) → P c → Q c) → (ds : List Definition) → EachBody P ds → EachBody Q ds
fewer_bodies P Q h [] p = tt
fewer_bodies P Q h (format n ps c ∷ ds) p = (h c p.0, fewer_bodies P Q h ds p.1)
fewer_bodies P Q h (constant n x ∷ ds) p = fewer_bodies P Q h ds p
fewer_bodies P Q h (byte_order x ∷ ds) p = fewer_bodies P Q h ds p
fewer_bodies P Q h (macro n ps c ∷ ds) p = fewer_bodies P Q h ds p

-- chains
is_tail_lem : (k : Leaf) → IsTail k → is_tail k ≡ true
unfolding is_tail
is_tail_lem constraint_int p = absurd p
is_tail_lem constraint_enum p = absurd p
is_tail_lem bits p = absurd p
is_tail_lem enum p = absurd p
is_tail_lem tail p = refl
is_tail_lem nothing p = absurd p
is_tail_lem never p = absurd p

tail_is : (k : Leaf) → is_tail k ≡ true → IsTail k
unfolding is_tail
tail_is constraint_int p = not_both false p refl
tail_is constraint_enum p = not_both false p refl
tail_is bits p = not_both false p refl
tail_is enum p = not_both false p refl
tail_is tail p = tt
tail_is nothing p = not_both false p refl
tail_is never p = not_both false p refl

pub may_chain : (i : Inner) → BytesOrTail i → bytes_or_tail i ≡ true
unfolding bytes_or_tail
may_chain (leaf k x) p = is_tail_lem k p
may_chain (struct f) p = absurd p
may_chain (choice s k f) p = absurd p
may_chain (shell x c) p = absurd p
may_chain (bytes l) p = refl
may_chain (invocation n a) p = absurd p
may_chain (macro_invocation n a) p = absurd p

chain_may : (i : Inner) → bytes_or_tail i ≡ true → BytesOrTail i
unfolding bytes_or_tail
chain_may (leaf k x) p = tail_is k p
chain_may (struct f) p = not_both false p refl
chain_may (choice s k f) p = not_both false p refl
chain_may (shell x c) p = not_both false p refl
chain_may (bytes l) p = tt
chain_may (invocation n a) p = not_both false p refl
chain_may (macro_invocation n a) p = not_both false p refl

mutual
  unfolding chains_ok

  chains_pass : (c : Combinator) → PlainChains c → chains_ok c ≡ true
  chains_pass (plain i) p = chains_pass_i i p
  chains_pass (chained i c) p = rw (may_chain i p.0, chains_pass_i i p.1.0, chains_pass c p.1.1)

  chains_pass_i : (i : Inner) → PlainChainsI i → chains_ok_i i ≡ true
  chains_pass_i (leaf k x) p = refl
  chains_pass_i (struct f) p = chains_pass_f f p
  chains_pass_i (choice s k f) p = chains_pass_c f p
  chains_pass_i (shell x c) p = chains_pass c p
  chains_pass_i (bytes l) p = refl
  chains_pass_i (invocation n a) p = refl
  chains_pass_i (macro_invocation n a) p = refl

  chains_pass_f : (f : Fields) → PlainChainsF f → chains_ok_f f ≡ true
  chains_pass_f no_field p = refl
  chains_pass_f (field k l c f) p = rw (chains_pass c p.0, chains_pass_f f p.1)
  chains_pass_f (const l x f) p = chains_pass_f f p

  chains_pass_c : (f : Cases) → PlainChainsC f → chains_ok_c f ≡ true
  chains_pass_c no_case p = refl
  chains_pass_c (case l c f) p = rw (chains_pass c p.0, chains_pass_c f p.1)

mutual
  unfolding chains_ok

  passed_chains : (c : Combinator) → chains_ok c ≡ true → PlainChains c
  passed_chains (plain i) p = passed_chains_i i p
  passed_chains (chained i c) p =
      let q = both_true (bytes_or_tail i) (chains_ok_i i && chains_ok c) p in
      let r = both_true (chains_ok_i i) (chains_ok c) q.1 in
      (chain_may i q.0, (passed_chains_i i r.0, passed_chains c r.1))

  passed_chains_i : (i : Inner) → chains_ok_i i ≡ true → PlainChainsI i
  passed_chains_i (leaf k x) p = tt
  passed_chains_i (struct f) p = passed_chains_f f p
  passed_chains_i (choice s k f) p = passed_chains_c f p
  passed_chains_i (shell x c) p = passed_chains c p
  passed_chains_i (bytes l) p = tt
  passed_chains_i (invocation n a) p = tt
  passed_chains_i (macro_invocation n a) p = tt

  passed_chains_f : (f : Fields) → chains_ok_f f ≡ true → PlainChainsF f
  passed_chains_f no_field p = tt
  passed_chains_f (field k l c f) p = let q = both_true (chains_ok c) (chains_ok_f f) p in (passed_chains c q.0, passed_chains_f f q.1)
  passed_chains_f (const l x f) p = passed_chains_f f p

  passed_chains_c : (f : Cases) → chains_ok_c f ≡ true → PlainChainsC f
  passed_chains_c no_case p = tt
  passed_chains_c (case l c f) p = let q = both_true (chains_ok c) (chains_ok_c f) p in (passed_chains c q.0, passed_chains_c f q.1)

-- all bodies
module _ (P : Combinator → Type 0) (test : Combinator → Bool) where
  pub bodies_pass : ((c : Combinator) → P c → test c ≡ true) → (ds : List Definition) → EachBody P ds → every_body test ds ≡ true
  unfolding every_body
  bodies_pass h [] p = refl
  bodies_pass h (format n ps c ∷ ds) p = rw (h c p.0, bodies_pass h ds p.1)
  bodies_pass h (constant n x ∷ ds) p = bodies_pass h ds p
  bodies_pass h (byte_order x ∷ ds) p = bodies_pass h ds p
  bodies_pass h (macro n ps c ∷ ds) p = bodies_pass h ds p

  pub passed_bodies : ((c : Combinator) → test c ≡ true → P c) → (ds : List Definition) → every_body test ds ≡ true → EachBody P ds
  unfolding every_body
  passed_bodies h [] p = tt
  passed_bodies h (format n ps c ∷ ds) p = let q = both_true (test c) (every_body test ds) p in (h c q.0, passed_bodies h ds q.1)
  passed_bodies h (constant n x ∷ ds) p = passed_bodies h ds p
  passed_bodies h (byte_order x ∷ ds) p = passed_bodies h ds p
  passed_bodies h (macro n ps c ∷ ds) p = passed_bodies h ds p

-- the two premises
module _ (ds : List Definition) where
  abbrev Known : Name → Type 0
  Known n = Named n ds

  abbrev known : Name → Bool
  known n = elem n (names ds)

  pub calls_known_lem : CallsKnown ds → calls_known ds ≡ true
  unfolding calls_known
  calls_known_lem p = bodies_pass (λ c. EachCall c Known) (λ c. every_invocation c known) (λ c w. calls_pass Known known (λ n q. named_elem n ds q) c w) ds p

  pub known_calls : calls_known ds ≡ true → CallsKnown ds
  unfolding calls_known
  known_calls p = passed_bodies (λ c. EachCall c Known) (λ c. every_invocation c known) (λ c w. passed_calls Known known (λ n q. elem_named n ds q) c w) ds p

  pub chains_plain_lem : ChainsPlain ds → chains_plain ds ≡ true
  unfolding chains_plain
  chains_plain_lem p = bodies_pass PlainChains chains_ok (λ c w. chains_pass c w) ds p

  pub plain_chains : chains_plain ds ≡ true → ChainsPlain ds
  unfolding chains_plain
  plain_chains p = passed_bodies PlainChains chains_ok (λ c w. passed_chains c w) ds p
