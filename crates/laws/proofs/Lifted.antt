-- What a lift that was made says: its name was free, its parameters are the free names, and its body was walked and appended.
use mathlib.Core.Path.{◌≡◌, refl, ◌∙◌}
use mathlib.Core.List.{List, [], ◌∷◌, ◌++◌}
use mathlib.Core.Bool.{Bool, true, false, not}
use Prim.Native.Nat.{◌+◌, ◌-◌, ◌≤◌}
use lib.Dec.{leb}
use lib.ListN.{length}
use borrow.Author.Tests.{leb-true}
use Rattle.definition.specs.Res.{Maybe, absent, just, ok, require}
use Rattle.definition.specs.Tree.{Name, Combinator, plain, Inner, invocation, Param, format}
use Rattle.definition.specs.Write.{size_of}
use Rattle.definition.specs.Size.{size}
use Rattle.definition.specs.Names.{elem, sorted, fresh}
use Rattle.definition.specs.Collect.{free, leftover}
use Rattle.definition.specs.Lift.{Course, State, binder, bound, typed, take, grow, measured, append, Walk, lift}
use Rattle.laws.specs.Lists.{param_names}
use Rattle.laws.proofs.Tests.{not-true}
use Rattle.laws.proofs.Steps.{Gives, refusal, value, then, ask, of_value}
use Rattle.laws.proofs.FreshName.{fresh_free}

-- "A parameter's type is that of the first binder of that name"
abbrev pub Bound : List Param → List Param → Type 0
Bound binders [] = Unit {0}
Bound binders (p ∷ ps) = (binder binders p.name ≡ just p.type) × Bound binders ps

pub record Typed (binders : List Param) (ns : List Name) (s : State) (ps : List Param) (t : State) : Type 0 where
  pub same : s ≡ t
  pub named : param_names ps ≡ ns
  pub bound : Bound binders ps

pub typed_says : (binders : List Param) (ns : List Name) (s : State) → Gives (Typed binders ns s) (typed binders ns s)
unfolding typed bound
typed_says binders [] s = value (record { same = refl; named = refl; bound = tt })
typed_says binders (n ∷ ns) s = then (bound_says (binder binders n) n s) _ λ p t b. then (typed_says binders ns t) _ λ ps u w.
    value (record { same = b.0 ∙ w.same; named = rw (b.1, w.named); bound = (rw b.1 b.2, w.bound) })
  where
    bound_says : (m : Maybe Inner) (n : Name) (s : State) → Gives (λ p t. (s ≡ t) × (p.name ≡ n) × (m ≡ just p.type)) (bound m n s)
    bound_says absent n s = refusal
    bound_says (just i) n s = value (refl, refl, refl)

measured_says : (course : Course) (s : State) → Gives (λ u t. (s ≡ t) × (course.within s.bytes s.defns ≡ true)) (measured course s)
unfolding measured
measured_says course s = of_test (course.within s.bytes s.defns) _ refl
  where
    of_test : (b : Bool) (k : Rattle.definition.specs.Code.Code) → course.within s.bytes s.defns ≡ b → Gives (λ u t. (s ≡ t) × (course.within s.bytes s.defns ≡ true)) (require b k s)
    of_test true k e = value (refl, e)
    of_test false k e = refusal

pub record Lifted (course : Course) (c : Combinator) (inside : Walk) (base : Name) (binders : List Param) (s : State) (d : Combinator) (t : State) : Type 0 where
  pub name : Name
  pub params : List Param
  pub body : Combinator
  pub first : State
  pub last : State
  pub named : name ≡ fresh base s.taken
  pub unused : elem name s.taken ≡ false
  -- codes 9 and 7 were not given
  pub short : length name ≤ 255
  pub clear : leftover c ≡ false
  pub needed : param_names params ≡ sorted (free c)
  pub types : Bound binders params
  pub there : d ≡ plain (invocation name (sorted (free c)))
  -- the walk of what was moved, from the first state to the last
  pub first_taken : first.taken ≡ name ∷ s.taken
  pub first_made : first.made ≡ s.made
  pub first-bytes : first.bytes ≡ (s.bytes + 6 + size_of (format name params c) + size d) - size c
  pub first-defns : first.defns ≡ s.defns + 1
  pub within : course.within first.bytes first.defns ≡ true
  pub went : inside name binders first ≡ ok body last
  pub last_taken : t.taken ≡ last.taken
  pub last_made : t.made ≡ last.made ++ (format name params body ∷ [])
  pub last-bytes : t.bytes ≡ last.bytes
  pub last-defns : t.defns ≡ last.defns

pub lift_says : (course : Course) (c : Combinator) (inside : Walk) (base : Name) (binders : List Param) (s : State) → Gives (Lifted course c inside base binders s) (lift course c inside base binders s)
unfolding lift take grow append
lift_says course c inside base binders s =
    let n = fresh base s.taken in
    let ns = sorted (free c) in
    let there = plain (invocation n ns) in
    ask (leb (length n) 255) _ s _ λ p. ask (not (leftover c)) _ s _ λ q.
    then (typed_says binders ns s) _ λ ps s₁ w. then (measured_says course (grow (format n ps c) there c s₁)) _ λ u s₂ m.
    then (of_value (inside n binders (take n s₂)) λ d t e. e) _ λ d s₃ e.
    value (record {
      name = n;
      params = ps;
      body = d;
      first = take n s₂;
      last = s₃;
      named = refl;
      unused = fresh_free base s.taken;
      short = leb-true (length n) 255 p;
      clear = not-true (leftover c) q;
      needed = w.named;
      types = w.bound;
      there = refl;
      first_taken = rw (← m.0, ← w.same);
      first_made = rw (← m.0, ← w.same);
      first-bytes = rw (← m.0, ← w.same);
      first-defns = rw (← m.0, ← w.same);
      within = rw (← m.0) m.1;
      went = e;
      last_taken = refl;
      last_made = refl;
      last-bytes = refl;
      last-defns = refl;
    })
