-- Putting back ends in each lifted body, and each lifted parameter list is the shortest for what it ends with, where chains stand only on Bytes and Tail.
use mathlib.Core.Path.{◌≡◌}
use mathlib.Core.List.{List, [], ◌∷◌}
use Prim.Native.Nat.{ℕ, ◌+◌, ◌≤◌}
use native.Mathlib.Omega.{arith}
use lib.ListN.{length}
use Rattle.definition.specs.Tree.{Name, Combinator, plain, chained, Inner, leaf, struct, choice, shell, bytes, invocation, macro_invocation, Fields, no_field, field, const, Cases, no_case, case, Param, Definition, format, constant, byte_order, macro}
use Rattle.definition.specs.Lift.{State}
use Rattle.laws.specs.Lists.{param_names}
use Rattle.demand3.specs.Words.{Named, EachBody, EachFormat, EachCall, EachCallI, EachCallF, EachCallC, PlainChains, PlainChainsI, PlainChainsF, PlainChainsC}
use Rattle.demand3.specs.PutBack.{rounds, PutsBack}
use Rattle.demand3.specs.Shortest.{Shortest}
use Rattle.demand3.proofs.Uses.{shortest}
use Rattle.demand3.proofs.Agree.{fewer_calls}
use Rattle.demand3.proofs.Formats.{each_snoc}
use Rattle.demand3.proofs.Trace.{Kid, walked, moved, Walks, WalksI, WalksF, WalksC, WalksAll}
use Rattle.demand3.proofs.Grew.{Span, front, rest, within, counted, grew, grew_k, grew_i, grew_f, grew_c, grew_all}
use Rattle.demand3.proofs.Back.{back}

-- a lifted definition: putting back ends in its body, and where X holds its parameter list is the shortest for what it ends with
pub record Tight (M : List Definition) (X : Type 0) (ps : List Param) (d : Combinator) : Type 0 where
  pub body : Combinator
  pub back : PutsBack M d body
  pub shortest : X → Shortest (param_names ps) body

abbrev pub AllTight : List Definition → Type 0 → List Definition → Type 0
AllTight M X ds = EachFormat (λ n ps d. Tight M X ps d) ds

-- X: chains stand only on Bytes and Tail
module _ (M : List Definition) (X : Type 0) (P : Name → Type 0) (away : (n : Name) → P n → Named n M → ⊥) where
  -- what a part of the walk makes is tight, if what was made before it is
  abbrev Adds : State → State → Type 0
  Adds s t = Span M s t → length t.made ≤ length M → AllTight M X s.made → AllTight M X t.made

  module _ (c : Combinator) (p : EachCall c P) (r : X → PlainChains c) (W : State → Combinator → State → Type 0)
      (backs : (s : State) (d : Combinator) (t : State) → W s d t → Span M s t → (k : ℕ) → length t.made ≤ length s.made + k → rounds k d M ≡ c)
      (ih : (s : State) (d : Combinator) (t : State) → W s d t → Adds s t) where
    kid_tight : (s : State) (d : Combinator) (t : State) → Kid c W s d t → Adds s t
    kid_tight s d t (walked a w) h q f = ih s d t w h q f
    kid_tight s d t (moved inside n b l w) h q f =
        let f₁ = ih l.first l.body l.last w (within M l h) (omega (arith, counted l)) (rw l.first_made f) in
        rw l.last_made (each_snoc (λ n ps d. Tight M X ps d) l.last.made l.name l.params l.body f₁ (record {
          body = c;
          back = record {
            ends = λ k z. backs l.first l.body l.last w (within M l h) k (omega (arith, counted l, z));
            none_left = fewer_calls P (λ n. Named n M → ⊥) (λ n z. away n z) c p;
          };
          shortest = λ x. rw l.needed (shortest c (r x));
        }))

  mutual
    tight : (c : Combinator) → EachCall c P → (X → PlainChains c) → (s : State) (d : Combinator) (t : State) → Walks c s d t → Adds s t
    tight (plain i) p r s d t w h q f = tight_i i p r s w.part t w.went h q f
    tight (chained i c) p r s d t w h q f =
        let g₁ = grew_k c s w.one w.mid w.first in
        let g₂ = grew_i i w.mid w.two t w.second in
        tight_i i p.0 (λ x. (r x).1.0) w.mid w.two t w.second (rest M g₁ h) q
        (kid_tight c p.1 (λ x. (r x).1.1) (λ s d t. Walks c s d t) (λ s d t v h k q. back M P away c p.1 s d t v h k q) (λ s d t v h q f. tight c p.1 (λ x. (r x).1.1) s d t v h q f) s w.one w.mid w.first (front M g₂ h) (omega (arith, g₂.longer)) f)

    tight_i : (i : Inner) → EachCallI i P → (X → PlainChainsI i) → (s : State) (j : Inner) (t : State) → WalksI i s j t → Adds s t
    tight_i (leaf k x) p r s j t w h q f = rw w.state f
    tight_i (struct fs) p r s j t w h q f = tight_f fs p r s w.part t w.went h q f
    tight_i (choice x k fs) p r s j t w h q f = tight_c fs p r s w.part t w.went h q f
    tight_i (shell x c) p r s j t w h q f = kid_tight c p r (λ s d t. Walks c s d t) (λ s d t v h k q. back M P away c p s d t v h k q) (λ s d t v h q f. tight c p r s d t v h q f) s w.part t w.went h q f
    tight_i (bytes l) p r s j t w h q f = rw w.state f
    tight_i (invocation n a) p r s j t w h q f = rw w.state f
    tight_i (macro_invocation n a) p r s j t w h q f = rw w.state f

    tight_f : (fs : Fields) → EachCallF fs P → (X → PlainChainsF fs) → (s : State) (g : Fields) (t : State) → WalksF fs s g t → Adds s t
    tight_f no_field p r s g t w h q f = rw w.state f
    tight_f (field k l c fs) p r s g t w h q f =
        let g₁ = grew_k c s w.one w.mid w.first in
        let g₂ = grew_f fs w.mid w.two t w.second in
        tight_f fs p.1 (λ x. (r x).1) w.mid w.two t w.second (rest M g₁ h) q
        (kid_tight c p.0 (λ x. (r x).0) (λ s d t. Walks c s d t) (λ s d t v h k q. back M P away c p.0 s d t v h k q) (λ s d t v h q f. tight c p.0 (λ x. (r x).0) s d t v h q f) s w.one w.mid w.first (front M g₂ h) (omega (arith, g₂.longer)) f)
    tight_f (const l x fs) p r s g t w h q f = tight_f fs p r s w.part t w.went h q f

    tight_c : (fs : Cases) → EachCallC fs P → (X → PlainChainsC fs) → (s : State) (g : Cases) (t : State) → WalksC fs s g t → Adds s t
    tight_c no_case p r s g t w h q f = rw w.state f
    tight_c (case l c fs) p r s g t w h q f =
        let g₁ = grew_k c s w.one w.mid w.first in
        let g₂ = grew_c fs w.mid w.two t w.second in
        tight_c fs p.1 (λ x. (r x).1) w.mid w.two t w.second (rest M g₁ h) q
        (kid_tight c p.0 (λ x. (r x).0) (λ s d t. Walks c s d t) (λ s d t v h k q. back M P away c p.0 s d t v h k q) (λ s d t v h q f. tight c p.0 (λ x. (r x).0) s d t v h q f) s w.one w.mid w.first (front M g₂ h) (omega (arith, g₂.longer)) f)

  -- the whole list
  pub tight_all : (ds : List Definition) → EachBody (λ c. EachCall c P) ds → (X → EachBody PlainChains ds) → (s : State) (es : List Definition) (t : State) → WalksAll ds s es t → Adds s t
  tight_all [] p r s es t w h q f = rw w.state f
  tight_all (format n ps c ∷ ds) p r s es t w h q f =
      let g₁ = grew c s w.one w.mid w.first in
      let g₂ = grew_all ds w.mid w.two t w.second in
      tight_all ds p.1 (λ x. (r x).1) w.mid w.two t w.second (rest M g₁ h) q (tight c p.0 (λ x. (r x).0) s w.one w.mid w.first (front M g₂ h) (omega (arith, g₂.longer)) f)
  tight_all (constant n x ∷ ds) p r s es t w h q f = tight_all ds p r s w.part t w.went h q f
  tight_all (byte_order x ∷ ds) p r s es t w h q f = tight_all ds p r s w.part t w.went h q f
  tight_all (macro n ps c ∷ ds) p r s es t w h q f = tight_all ds p r s w.part t w.went h q f
