-- What the walk keeps from state to state: taken names stay taken, lifted names are fresh, and the definitions made stay.
use mathlib.Core.Path.{◌≡◌, ap}
use mathlib.Core.List.{List, [], ◌∷◌}
use mathlib.Core.Bool.{true, false}
use Prim.Native.Nat.{◌+◌, ◌≤◌}
use native.Mathlib.Omega.{arith}
use lib.ListN.{length, length-append}
use Rattle.definition.specs.Res.{just}
use Rattle.definition.specs.Tree.{Name, Combinator, plain, chained, Inner, leaf, struct, choice, shell, bytes, invocation, macro_invocation, Fields, no_field, field, const, Cases, no_case, case, Param, Definition, format, constant, byte_order, macro}
use Rattle.definition.specs.Names.{elem}
use Rattle.definition.specs.Lift.{full, State, Walk, names}
use Rattle.laws.specs.Lists.{Distinct}
use Rattle.laws.proofs.Members.{eq_name_swap}
use Rattle.laws.proofs.Lifted.{Lifted}
use Rattle.demand3.specs.PutBack.{whole_of}
use Rattle.demand3.proofs.Elem.{apart, elem_here, elem_there, elem_tail, elem_snoc, distinct_snoc, names_snoc, whole_of_lasts}
use Rattle.demand3.proofs.Trace.{Kid, walked, moved, KidOf, Walks, WalksI, WalksF, WalksC, WalksAll}

-- the name of every definition made is taken
unfoldable pub Known : State → Type 0
Known s = (n : Name) → elem n s.taken ≡ false → elem n (names s.made) ≡ false

-- from one state of the walk to a later one
pub record Grew (s t : State) : Type 0 where
  pub keep : (n : Name) → elem n s.taken ≡ true → elem n t.taken ≡ true
  pub fixed : (n : Name) → elem n s.taken ≡ true → elem n (names s.made) ≡ false → elem n (names t.made) ≡ false
  pub known : Known s → Known t
  pub distinct : Known s → Distinct (names s.made) → Distinct (names t.made)
  pub lasts : (n : Name) (c : Combinator) → whole_of s.made n ≡ just c → whole_of t.made n ≡ just c
  pub longer : length s.made ≤ length t.made

stay : (s t : State) → t ≡ s → Grew s t
stay s t e = rw e (record { keep = λ n p. p; fixed = λ n p q. q; known = λ k. k; distinct = λ k d. d; lasts = λ n c p. p; longer = omega arith })

then : {s t u : State} → Grew s t → Grew t u → Grew s u
then a b = record {
  keep = λ n p. b.keep n (a.keep n p);
  fixed = λ n p q. b.fixed n (a.keep n p) (a.fixed n p q);
  known = λ k. b.known (a.known k);
  distinct = λ k d. b.distinct (a.known k) (a.distinct k d);
  lasts = λ n c p. b.lasts n c (a.lasts n c p);
  longer = omega (arith, a.longer, b.longer);
}

-- a lift, from what its inside did
module _ {c : Combinator} {inside : Walk} {base : Name} {binders : List Param} {s : State} {d : Combinator} {t : State} (l : Lifted full c inside base binders s d t) where
  pub known_first : Known s → Known l.first
  unfolding Known
  known_first k m p = rw l.first_made (k m (elem_tail m l.name s.taken (rw l.first_taken at p)).1)

  taken-first : elem l.name l.first.taken ≡ true
  taken-first = rw l.first_taken (elem_here l.name s.taken)

  pub counted : length t.made ≡ length l.last.made + 1
  counted = rw l.last_made (simp length-append)

  module _ (g : Grew l.first l.last) where
    -- its own name is not among those made before it is appended
    pub name_new : Known s → elem l.name (names l.last.made) ≡ false
    unfolding Known
    name_new k = g.fixed l.name taken-first (rw l.first_made (k l.name l.unused))

    lift_grew : Grew s t
    unfolding Known
    lift_grew = record {
      keep = λ m p. rw l.last_taken (g.keep m (rw l.first_taken (elem_there m l.name s.taken p)));
      fixed = λ m p q. rw (l.last_made, names_snoc l.last.made l.name l.params l.body)
          (elem_snoc m l.name (names l.last.made)
          (g.fixed m (rw l.first_taken (elem_there m l.name s.taken p)) (rw l.first_made q))
          (apart m l.name s.taken p l.unused));
      known = λ k m p. rw (l.last_made, names_snoc l.last.made l.name l.params l.body)
          (let p₁ : elem m l.last.taken ≡ false = rw l.last_taken at p in
          elem_snoc m l.name (names l.last.made)
          (g.known (known_first k) m p₁)
          (eq_name_swap l.name m (apart l.name m l.last.taken (g.keep l.name taken-first) p₁)));
      distinct = λ k dd. rw (l.last_made, names_snoc l.last.made l.name l.params l.body)
          (distinct_snoc (names l.last.made) l.name (g.distinct (known_first k) (rw l.first_made dd)) (name_new k));
      lasts = λ m b p. rw l.last_made (whole_of_lasts l.last.made _ m b (g.lasts m b (rw l.first_made p)));
      longer = rw l.last_made (simp length-append (omega (arith, g.longer, ap length l.first_made)));
    }

kid_grew : (c : Combinator) (W : State → Combinator → State → Type 0) → ((s : State) (d : Combinator) (t : State) → W s d t → Grew s t) → (s : State) (d : Combinator) (t : State) → Kid c W s d t → Grew s t
kid_grew c W ih s d t (walked q w) = ih s d t w
kid_grew c W ih s d t (moved inside n b l w) = lift_grew l (ih l.first l.body l.last w)

mutual
  pub grew : (c : Combinator) (s : State) (d : Combinator) (t : State) → Walks c s d t → Grew s t
  grew (plain i) s d t w = grew_i i s w.part t w.went
  grew (chained i c) s d t w = then (kid_grew c (λ s d t. Walks c s d t) (λ s d t v. grew c s d t v) s w.one w.mid w.first) (grew_i i w.mid w.two t w.second)

  pub grew_i : (i : Inner) (s : State) (j : Inner) (t : State) → WalksI i s j t → Grew s t
  grew_i (leaf k x) s j t w = stay s t w.state
  grew_i (struct f) s j t w = grew_f f s w.part t w.went
  grew_i (choice x k f) s j t w = grew_c f s w.part t w.went
  grew_i (shell x c) s j t w = kid_grew c (λ s d t. Walks c s d t) (λ s d t v. grew c s d t v) s w.part t w.went
  grew_i (bytes l) s j t w = stay s t w.state
  grew_i (invocation n a) s j t w = stay s t w.state
  grew_i (macro_invocation n a) s j t w = stay s t w.state

  pub grew_f : (f : Fields) (s : State) (g : Fields) (t : State) → WalksF f s g t → Grew s t
  grew_f no_field s g t w = stay s t w.state
  grew_f (field k l c f) s g t w = then (kid_grew c (λ s d t. Walks c s d t) (λ s d t v. grew c s d t v) s w.one w.mid w.first) (grew_f f w.mid w.two t w.second)
  grew_f (const l x f) s g t w = grew_f f s w.part t w.went

  pub grew_c : (f : Cases) (s : State) (g : Cases) (t : State) → WalksC f s g t → Grew s t
  grew_c no_case s g t w = stay s t w.state
  grew_c (case l c f) s g t w = then (kid_grew c (λ s d t. Walks c s d t) (λ s d t v. grew c s d t v) s w.one w.mid w.first) (grew_c f w.mid w.two t w.second)

-- for a child, and for the whole list
pub grew_k : (c : Combinator) (s : State) (d : Combinator) (t : State) → KidOf c s d t → Grew s t
grew_k c s d t w = kid_grew c (λ s d t. Walks c s d t) (λ s d t v. grew c s d t v) s d t w

pub grew_all : (ds : List Definition) (s : State) (es : List Definition) (t : State) → WalksAll ds s es t → Grew s t
grew_all [] s es t w = stay s t w.state
grew_all (format n ps c ∷ ds) s es t w = then (grew c s w.one w.mid w.first) (grew_all ds w.mid w.two t w.second)
grew_all (constant n x ∷ ds) s es t w = grew_all ds s w.part t w.went
grew_all (byte_order x ∷ ds) s es t w = grew_all ds s w.part t w.went
grew_all (macro n ps c ∷ ds) s es t w = grew_all ds s w.part t w.went

-- M: the definitions lifted in the end
module _ (M : List Definition) where
  -- a part of the walk: at its start the names of what was made are taken, and what is made at its end stands in M
  pub record Span (s t : State) : Type 0 where
    pub known : Known s
    pub holds : (n : Name) (c : Combinator) → whole_of t.made n ≡ just c → whole_of M n ≡ just c

  pub front : {s u t : State} → Grew u t → Span s t → Span s u
  front g h = record { known = h.known; holds = λ n c p. h.holds n c (g.lasts n c p) }

  pub rest : {s u t : State} → Grew s u → Span s t → Span u t
  rest g h = record { known = g.known h.known; holds = h.holds }

  module _ {c : Combinator} {inside : Walk} {base : Name} {binders : List Param} {s : State} {d : Combinator} {t : State} (l : Lifted full c inside base binders s d t) where
    pub within : Span s t → Span l.first l.last
    within h = record { known = known_first l h.known; holds = λ n x p. h.holds n x (rw l.last_made (whole_of_lasts l.last.made _ n x p)) }
