-- The walk as a relation: what stands there before and after, and the states between, form by form. One induction over the walk shows it; what follows is proved by induction over it.
use mathlib.Core.Path.{◌≡◌, refl}
use mathlib.Core.List.{List, [], ◌∷◌}
use mathlib.Core.Bool.{Bool, true, false}
use Prim.Native.Nat.{ℕ, suc}
use Rattle.definition.specs.Tree.{Name, CaseKind, Combinator, plain, chained, Inner, leaf, struct, choice, shell, bytes, invocation, macro_invocation, Fields, no_field, field, const, Cases, no_case, case, Param, Definition, format, constant, byte_order, macro}
use Rattle.definition.specs.Names.{child, segment, case_segment, shell_segment}
use Rattle.definition.specs.Collect.{anonymous}
use Rattle.definition.specs.Lift.{full, State, Walk, child_by, bind, walk, walk_i, walk_f, walk_c, walk_all}
use Rattle.laws.proofs.Steps.{Gives, value, then, so, gave}
use Rattle.laws.proofs.Lifted.{Lifted, lift_says}

-- nothing changes
pub record Stays {A : Type 0} (before : A) (s : State) (after : A) (t : State) : Type 0 where
  pub is : after ≡ before
  pub state : t ≡ s

-- one part, and f around it
pub record Under {A B : Type 0} (f : A → B) (R : A → State → Type 0) (after : B) (t : State) : Type 0 where
  pub part : A
  pub is : after ≡ f part
  pub went : R part t

-- two parts, one after the other
pub record Both {A B C : Type 0} (f : A → B → C) (Q : State → A → State → Type 0) (R : State → B → State → Type 0) (s : State) (after : C) (t : State) : Type 0 where
  pub one : A
  pub mid : State
  pub two : B
  pub is : after ≡ f one two
  pub first : Q s one mid
  pub second : R mid two t

-- "An anonymous child is lifted whole .. any other child is walked."
pub data Kid (c : Combinator) (W : State → Combinator → State → Type 0) (s : State) (d : Combinator) (t : State) : Type 0 where
  walked : anonymous c ≡ false → W s d t → Kid c W s d t
  moved : (inside : Walk) (base : Name) (binders : List Param) (l : Lifted full c inside base binders s d t) → W l.first l.body l.last → Kid c W s d t

abbrev mutual
  pub Walks : Combinator → State → Combinator → State → Type 0
  Walks (plain i) s d t = Under plain (λ j t. WalksI i s j t) d t
  Walks (chained i c) s d t = Both (λ x j. chained j x) (λ s x t. Kid c (λ s x t. Walks c s x t) s x t) (λ s j t. WalksI i s j t) s d t

  pub WalksI : Inner → State → Inner → State → Type 0
  WalksI (leaf k x) s j t = Stays (leaf k x) s j t
  WalksI (struct f) s j t = Under struct (λ g t. WalksF f s g t) j t
  WalksI (choice x k f) s j t = Under (choice x k) (λ g t. WalksC f s g t) j t
  WalksI (shell x c) s j t = Under (shell x) (λ d t. Kid c (λ s d t. Walks c s d t) s d t) j t
  WalksI (bytes l) s j t = Stays (bytes l) s j t
  WalksI (invocation n a) s j t = Stays (invocation n a) s j t
  WalksI (macro_invocation n a) s j t = Stays (macro_invocation n a) s j t

  pub WalksF : Fields → State → Fields → State → Type 0
  WalksF no_field s g t = Stays no_field s g t
  WalksF (field k l c f) s g t = Both (field k l) (λ s d t. Kid c (λ s d t. Walks c s d t) s d t) (λ s g t. WalksF f s g t) s g t
  WalksF (const l x f) s g t = Under (const l x) (λ g t. WalksF f s g t) g t

  pub WalksC : Cases → State → Cases → State → Type 0
  WalksC no_case s g t = Stays no_case s g t
  WalksC (case l c f) s g t = Both (case l) (λ s d t. Kid c (λ s d t. Walks c s d t) s d t) (λ s g t. WalksC f s g t) s g t

abbrev pub KidOf : Combinator → State → Combinator → State → Type 0
KidOf c s d t = Kid c (λ s d t. Walks c s d t) s d t

abbrev pub WalksAll : List Definition → State → List Definition → State → Type 0
WalksAll [] s es t = Stays [] s es t
WalksAll (format n ps c ∷ ds) s es t = Both (λ d es. format n ps d ∷ es) (λ s d t. Walks c s d t) (λ s es t. WalksAll ds s es t) s es t
WalksAll (constant n x ∷ ds) s es t = Under (◌∷◌ (constant n x)) (λ es t. WalksAll ds s es t) es t
WalksAll (byte_order x ∷ ds) s es t = Under (◌∷◌ (byte_order x)) (λ es t. WalksAll ds s es t) es t
WalksAll (macro n ps c ∷ ds) s es t = Under (◌∷◌ (macro n ps c)) (λ es t. WalksAll ds s es t) es t

-- the walk goes so
module _ (c : Combinator) (inside : Walk) (W : State → Combinator → State → Type 0) (ih : (n : Name) (b : List Param) (s : State) → Gives (λ d t. W s d t) (inside n b s)) where
  kid_by : (a : Bool) → anonymous c ≡ a → (n : Name) (b : List Param) (s : State) → Gives (λ d t. Kid c W s d t) (child_by full a c inside n b s)
  unfolding child_by
  kid_by true q n b s = so (lift_says full c inside n b s) λ d t l. moved inside n b l (gave (ih l.name b l.first) l.went)
  kid_by false q n b s = so (ih n b s) λ d t w. walked q w

stays : {A : Type 0} (a : A) (s : State) → Stays a s a s
stays a s = record { is = refl; state = refl }

under : {A B : Type 0} (f : A → B) {R : A → State → Type 0} (a : A) (t : State) → R a t → Under f R (f a) t
under f a t w = record { part = a; is = refl; went = w }

mutual
  unfolding walk

  walk_traced : (c : Combinator) (n : Name) (b : List Param) (s : State) → Gives (λ d t. Walks c s d t) (walk full c n b s)
  walk_traced (plain i) n b s = then (walk_traced_i i n b s) _ λ j t w. value (under plain j t w)
  walk_traced (chained i c) n b s = then (kid_by c (λ n b s. walk full c n b s) (λ s d t. Walks c s d t) (λ n b s. walk_traced c n b s) (anonymous c) refl n b s) _ λ d u k.
      then (walk_traced_i i n b u) _ λ j t w. value (record { one = d; mid = u; two = j; is = refl; first = k; second = w })

  walk_traced_i : (i : Inner) (n : Name) (b : List Param) (s : State) → Gives (λ j t. WalksI i s j t) (walk_i full i n b s)
  walk_traced_i (leaf k x) n b s = value (stays (leaf k x) s)
  walk_traced_i (struct f) n b s = then (walk_traced_f f n b s) _ λ g t w. value (under struct g t w)
  walk_traced_i (choice x k f) n b s = then (walk_traced_c f k 0 n b s) _ λ g t w. value (under (choice x k) g t w)
  walk_traced_i (shell x c) n b s = then (kid_by c (λ n b s. walk full c n b s) (λ s d t. Walks c s d t) (λ n b s. walk_traced c n b s) (anonymous c) refl (child n (shell_segment x)) b s) _ λ d t k. value (under (shell x) d t k)
  walk_traced_i (bytes l) n b s = value (stays (bytes l) s)
  walk_traced_i (invocation m a) n b s = value (stays (invocation m a) s)
  walk_traced_i (macro_invocation m a) n b s = value (stays (macro_invocation m a) s)

  walk_traced_f : (f : Fields) (n : Name) (b : List Param) (s : State) → Gives (λ g t. WalksF f s g t) (walk_f full f n b s)
  walk_traced_f no_field n b s = value (stays no_field s)
  walk_traced_f (field k l c f) n b s = then (kid_by c (λ n b s. walk full c n b s) (λ s d t. Walks c s d t) (λ n b s. walk_traced c n b s) (anonymous c) refl (child n (segment l)) b s) _ λ d u q.
      then (walk_traced_f f n (bind k l d b) u) _ λ g t w. value (record { one = d; mid = u; two = g; is = refl; first = q; second = w })
  walk_traced_f (const l x f) n b s = then (walk_traced_f f n b s) _ λ g t w. value (under (const l x) g t w)

  walk_traced_c : (f : Cases) (k : CaseKind) (i : ℕ) (n : Name) (b : List Param) (s : State) → Gives (λ g t. WalksC f s g t) (walk_c full f k i n b s)
  walk_traced_c no_case k i n b s = value (stays no_case s)
  walk_traced_c (case l c f) k i n b s = then (kid_by c (λ n b s. walk full c n b s) (λ s d t. Walks c s d t) (λ n b s. walk_traced c n b s) (anonymous c) refl (child n (case_segment k l i)) b s) _ λ d u q.
      then (walk_traced_c f k (suc i) n b u) _ λ g t w. value (record { one = d; mid = u; two = g; is = refl; first = q; second = w })

pub all_traced : (ds : List Definition) (s : State) → Gives (λ es t. WalksAll ds s es t) (walk_all full ds s)
unfolding walk_all
all_traced [] s = value (stays [] s)
all_traced (format n ps c ∷ ds) s = then (walk_traced c n ps s) _ λ d u q. then (all_traced ds u) _ λ es t w. value (record { one = d; mid = u; two = es; is = refl; first = q; second = w })
all_traced (constant n x ∷ ds) s = then (all_traced ds s) _ λ es t w. value (under (◌∷◌ (constant n x)) es t w)
all_traced (byte_order x ∷ ds) s = then (all_traced ds s) _ λ es t w. value (under (◌∷◌ (byte_order x)) es t w)
all_traced (macro n ps c ∷ ds) s = then (all_traced ds s) _ λ es t w. value (under (◌∷◌ (macro n ps c)) es t w)
