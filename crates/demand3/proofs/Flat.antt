-- What the walk leaves is flat.
use mathlib.Core.Path.{◌≡◌, refl}
use mathlib.Core.List.{List, [], ◌∷◌, ◌++◌}
use mathlib.Core.Bool.{true, false}
use Rattle.definition.specs.Tree.{Leaf, constraint_int, constraint_enum, bits, enum, tail, nothing, never, Combinator, plain, chained, Inner, leaf, struct, choice, shell, bytes, invocation, macro_invocation, Fields, no_field, field, const, Cases, no_case, case, Definition, format, constant, byte_order, macro}
use Rattle.definition.specs.Collect.{anonymous_leaf, anonymous, anonymous_i}
use Rattle.definition.specs.Lift.{State}
use Rattle.laws.specs.Lists.{NoMacro}
use Rattle.laws.proofs.Tests.{not_both}
use Rattle.demand3.specs.Flat.{CalmLeaf, Calm, CalmI, CalmF, CalmC, Flat, FlatI, FlatAll}
use Rattle.demand3.proofs.Trace.{Kid, walked, moved, Walks, WalksI, WalksF, WalksC, WalksAll}

flat_append : (a b : List Definition) → FlatAll a → FlatAll b → FlatAll (a ++ b)
flat_append [] b f g = g
flat_append (format n ps c ∷ a) b f g = (f.0, flat_append a b f.1 g)
flat_append (constant n x ∷ a) b f g = flat_append a b f g
flat_append (byte_order x ∷ a) b f g = flat_append a b f g
flat_append (macro n ps c ∷ a) b f g = absurd f

-- what was made stays flat, and what stands there is
record Leaves (X : Type 0) (s t : State) : Type 0 where
  made : FlatAll s.made → FlatAll t.made
  here : X

-- a body may have one of them at its root, unless it is not anonymous
abbrev Body : Combinator → Combinator → Type 0
Body c d = Flat d × (anonymous c ≡ false → Calm d)

abbrev BodyI : Inner → Inner → Type 0
BodyI i j = FlatI j × (anonymous_i i ≡ false → CalmI j)

kid_flat : (c : Combinator) (W : State → Combinator → State → Type 0) → ((s : State) (d : Combinator) (t : State) → W s d t → Leaves (Body c d) s t) → (s : State) (d : Combinator) (t : State) → Kid c W s d t → Leaves (Calm d) s t
kid_flat c W ih s d t (walked q w) = let v = ih s d t w in record { made = v.made; here = v.here.1 q }
kid_flat c W ih s d t (moved inside n b l w) =
    let v = ih l.first l.body l.last w in
    record { made = λ f. rw l.last_made (flat_append l.last.made _ (v.made (rw l.first_made f)) (v.here.0, tt)); here = rw l.there tt }

pub calm_leaf : (k : Leaf) → anonymous_leaf k ≡ false → CalmLeaf k
unfolding anonymous_leaf
calm_leaf constraint_int e = tt
calm_leaf constraint_enum e = tt
calm_leaf bits e = not_both true refl e
calm_leaf enum e = not_both true refl e
calm_leaf tail e = tt
calm_leaf nothing e = tt
calm_leaf never e = tt

mutual
  unfolding anonymous

  flat : (c : Combinator) (s : State) (d : Combinator) (t : State) → Walks c s d t → Leaves (Body c d) s t
  flat (plain i) s d t w = let v = flat_i i s w.part t w.went in record { made = v.made; here = rw w.is v.here }
  flat (chained i c) s d t w =
      let k = kid_flat c (λ s d t. Walks c s d t) (λ s d t v. flat c s d t v) s w.one w.mid w.first in
      let v = flat_i i w.mid w.two t w.second in
      record { made = λ f. v.made (k.made f); here = rw w.is ((v.here.0, k.here), λ a. (v.here.1 a, k.here)) }

  flat_i : (i : Inner) (s : State) (j : Inner) (t : State) → WalksI i s j t → Leaves (BodyI i j) s t
  flat_i (leaf k x) s j t w = record { made = λ f. rw w.state f; here = rw w.is (tt, λ a. calm_leaf k a) }
  flat_i (struct f) s j t w = let v = flat_f f s w.part t w.went in record { made = v.made; here = rw w.is (v.here, λ a. not_both true refl a) }
  flat_i (choice x k f) s j t w = let v = flat_c f s w.part t w.went in record { made = v.made; here = rw w.is (v.here, λ a. not_both true refl a) }
  flat_i (shell x c) s j t w =
      let v = kid_flat c (λ s d t. Walks c s d t) (λ s d t v. flat c s d t v) s w.part t w.went in
      record { made = v.made; here = rw w.is (v.here, λ a. v.here) }
  flat_i (bytes l) s j t w = record { made = λ f. rw w.state f; here = rw w.is (tt, λ a. tt) }
  flat_i (invocation n xs) s j t w = record { made = λ f. rw w.state f; here = rw w.is (tt, λ a. tt) }
  flat_i (macro_invocation n xs) s j t w = record { made = λ f. rw w.state f; here = rw w.is (tt, λ a. tt) }

  flat_f : (f : Fields) (s : State) (g : Fields) (t : State) → WalksF f s g t → Leaves (CalmF g) s t
  flat_f no_field s g t w = record { made = λ f. rw w.state f; here = rw w.is tt }
  flat_f (field k l c f) s g t w =
      let q = kid_flat c (λ s d t. Walks c s d t) (λ s d t v. flat c s d t v) s w.one w.mid w.first in
      let v = flat_f f w.mid w.two t w.second in
      record { made = λ f. v.made (q.made f); here = rw w.is (q.here, v.here) }
  flat_f (const l x f) s g t w = let v = flat_f f s w.part t w.went in record { made = v.made; here = rw w.is v.here }

  flat_c : (f : Cases) (s : State) (g : Cases) (t : State) → WalksC f s g t → Leaves (CalmC g) s t
  flat_c no_case s g t w = record { made = λ f. rw w.state f; here = rw w.is tt }
  flat_c (case l c f) s g t w =
      let q = kid_flat c (λ s d t. Walks c s d t) (λ s d t v. flat c s d t v) s w.one w.mid w.first in
      let v = flat_c f w.mid w.two t w.second in
      record { made = λ f. v.made (q.made f); here = rw w.is (q.here, v.here) }

flat_list : (ds : List Definition) → NoMacro ds → (s : State) (es : List Definition) (t : State) → WalksAll ds s es t → Leaves (FlatAll es) s t
flat_list [] m s es t w = record { made = λ f. rw w.state f; here = rw w.is tt }
flat_list (format n ps c ∷ ds) m s es t w =
    let q = flat c s w.one w.mid w.first in
    let v = flat_list ds m w.mid w.two t w.second in
    record { made = λ f. v.made (q.made f); here = rw w.is (q.here.0, v.here) }
flat_list (constant n x ∷ ds) m s es t w = let v = flat_list ds m s w.part t w.went in record { made = v.made; here = rw w.is v.here }
flat_list (byte_order x ∷ ds) m s es t w = let v = flat_list ds m s w.part t w.went in record { made = v.made; here = rw w.is v.here }
flat_list (macro n ps c ∷ ds) m s es t w = absurd m

-- of a list without kind 4 definitions all that is kept and made is flat
pub flat_all : (ds : List Definition) → NoMacro ds → (s : State) (es : List Definition) (t : State) → WalksAll ds s es t → FlatAll s.made → FlatAll (es ++ t.made)
flat_all ds m s es t w f = let v = flat_list ds m s es t w in flat_append es t.made v.here (v.made f)
