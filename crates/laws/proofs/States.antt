-- An induction over the walk for what relates its states: a relation that holds of a state and itself, that goes on from state to state, and that each lift has if the walk inside it has it, holds of the first and the last state of every walk.
use mathlib.Core.List.{List, [], ◌∷◌}
use mathlib.Core.Bool.{Bool, true, false}
use Prim.Native.Nat.{ℕ, suc}
use Rattle.definition.specs.Tree.{Name, CaseKind, Combinator, plain, chained, Inner, leaf, struct, choice, shell, bytes, invocation, macro_invocation, Fields, no_field, field, const, Cases, no_case, case, Param, Definition, format, constant, byte_order, macro}
use Rattle.definition.specs.Names.{child, segment, case_segment, shell_segment}
use Rattle.definition.specs.Lift.{Course, State, Walk, child_by, bind, walk, walk_i, walk_f, walk_c, walk_all}
use Rattle.laws.proofs.Steps.{Gives, value, then, so, gave}
use Rattle.laws.proofs.Lifted.{Lifted, lift_says}

pub record Carried (course : Course) (R : State → State → Type 0) : Type 0 where
  pub stays : (s : State) → R s s
  pub goes_on : {s t u : State} → R s t → R t u → R s u
  pub lifts : {c : Combinator} {inside : Walk} {n : Name} {b : List Param} {s : State} {d : Combinator} {t : State} (l : Lifted course c inside n b s d t) → R l.first l.last → R s t

module _ (course : Course) (R : State → State → Type 0) (carried : Carried course R) where
  kid_states : (c : Combinator) (inside : Walk) → ((n : Name) (b : List Param) (s : State) → Gives (λ d t. R s t) (inside n b s)) → (a : Bool) (n : Name) (b : List Param) (s : State) → Gives (λ d t. R s t) (child_by course a c inside n b s)
  unfolding child_by
  kid_states c inside ih true n b s = so (lift_says course c inside n b s) λ d t l. carried.lifts l (gave (ih l.name b l.first) l.went)
  kid_states c inside ih false n b s = ih n b s

  mutual
    unfolding walk

    states : (c : Combinator) (n : Name) (b : List Param) (s : State) → Gives (λ d t. R s t) (walk course c n b s)
    states (plain i) n b s = then (states_i i n b s) _ λ j t r. value r
    states (chained i c) n b s = then (kid_states c (λ n b s. walk course c n b s) (λ n b s. states c n b s) (course.lifts c s.defns) n b s) _ λ d u q. then (states_i i n b u) _ λ j t r. value (carried.goes_on q r)

    states_i : (i : Inner) (n : Name) (b : List Param) (s : State) → Gives (λ j t. R s t) (walk_i course i n b s)
    states_i (leaf k x) n b s = value (carried.stays s)
    states_i (struct f) n b s = then (states_f f n b s) _ λ g t r. value r
    states_i (choice x k f) n b s = then (states_c f k 0 n b s) _ λ g t r. value r
    states_i (shell x c) n b s = then (kid_states c (λ n b s. walk course c n b s) (λ n b s. states c n b s) (course.lifts c s.defns) (child n (shell_segment x)) b s) _ λ d t r. value r
    states_i (bytes l) n b s = value (carried.stays s)
    states_i (invocation m a) n b s = value (carried.stays s)
    states_i (macro_invocation m a) n b s = value (carried.stays s)

    states_f : (f : Fields) (n : Name) (b : List Param) (s : State) → Gives (λ g t. R s t) (walk_f course f n b s)
    states_f no_field n b s = value (carried.stays s)
    states_f (field k l c f) n b s = then (kid_states c (λ n b s. walk course c n b s) (λ n b s. states c n b s) (course.lifts c s.defns) (child n (segment l)) b s) _ λ d u q. then (states_f f n (bind k l d b) u) _ λ g t r. value (carried.goes_on q r)
    states_f (const l x f) n b s = then (states_f f n b s) _ λ g t r. value r

    states_c : (f : Cases) (k : CaseKind) (i : ℕ) (n : Name) (b : List Param) (s : State) → Gives (λ g t. R s t) (walk_c course f k i n b s)
    states_c no_case k i n b s = value (carried.stays s)
    states_c (case l c f) k i n b s = then (kid_states c (λ n b s. walk course c n b s) (λ n b s. states c n b s) (course.lifts c s.defns) (child n (case_segment k l i)) b s) _ λ d u q. then (states_c f k (suc i) n b u) _ λ g t r. value (carried.goes_on q r)

  pub states_all : (ds : List Definition) (s : State) → Gives (λ es t. R s t) (walk_all course ds s)
  unfolding walk_all
  states_all [] s = value (carried.stays s)
  states_all (format n ps c ∷ ds) s = then (states c n ps s) _ λ d u q. then (states_all ds u) _ λ es t r. value (carried.goes_on q r)
  states_all (constant n x ∷ ds) s = then (states_all ds s) _ λ es t r. value r
  states_all (byte_order x ∷ ds) s = then (states_all ds s) _ λ es t r. value r
  states_all (macro n ps c ∷ ds) s = then (states_all ds s) _ λ es t r. value r
