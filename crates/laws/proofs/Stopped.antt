-- Code 10 at a lift: the numbers that it tests are those of the walk stopped there. The walk and the stopped one go together up to that lift, and then the stopped one changes nothing more.
use mathlib.Core.Path.{◌≡◌, refl, sym, ◌∙◌}
use mathlib.Core.Logic.{◌⊎◌, inl, inr}
use mathlib.Core.List.{List, [], ◌∷◌, ◌++◌}
use mathlib.Core.Bool.{Bool, true, false, not, ◌&&◌}
use Prim.Native.Nat.{ℕ, suc, ◌≤◌, ◌<◌}
use native.Mathlib.Omega.{arith}
use lib.Dec.{leb, ltb}
use lib.ListN.{length}
use borrow.Author.Tests.{le-leb, ltb-false, le-ltb, leb-false, ltb-true, leb-true}
use Rattle.definition.specs.Code.{Code, result_long, name_long, leftover_macro}
use Rattle.definition.specs.Res.{Maybe, absent, just, Res, bad, ok, ◌>>=◌, require}
use Rattle.definition.specs.Tree.{Name, CaseKind, Combinator, plain, chained, Inner, leaf, struct, choice, shell, bytes, invocation, macro_invocation, Fields, no_field, field, const, Cases, no_case, case, Param, Definition, format, constant, byte_order, macro}
use Rattle.definition.specs.Size.{size_book}
use Rattle.definition.specs.Names.{sorted, fresh, child, segment, case_segment, shell_segment}
use Rattle.definition.specs.Collect.{anonymous, free, leftover}
use Rattle.definition.specs.Lift.{Course, State, Walk, binder, bound, typed, take, grow, measured, append, lift, child_by, bind, walk, walk_i, walk_f, walk_c, walk_all, start, full}
use Rattle.laws.specs.Laws.{stopped, limited, SumAtEachLift, MeasureIsSize, Left, Within, Over, Code10IsFirstOver}
use Rattle.laws.proofs.Tests.{by_test, not_both, both_true}
use Rattle.laws.proofs.Steps.{no_ok, gave}
use Rattle.laws.proofs.Lifted.{typed_says}
use Rattle.laws.proofs.Measure.{measures}

long_other : name_long ≡ result_long → ⊥
long_other e = let z : ◌≡◌ {A = ℕ} 0 1 = cc in omega arith

left_other : leftover_macro ≡ result_long → ⊥
left_other e = let z : ◌≡◌ {A = ℕ} 0 1 = cc in omega arith

-- a walk that lifts nothing changes nothing
module _ (course : Course) (s : State) (rests : (c : Combinator) → course.lifts c s.defns ≡ false) where
  kid_still : (c : Combinator) (inside : Walk) (n : Name) (b : List Param) → inside n b s ≡ ok c s → child_by course (course.lifts c s.defns) c inside n b s ≡ ok c s
  unfolding child_by
  kid_still c inside n b e = rw (rests c) e

  mutual
    unfolding walk

    still : (c : Combinator) (n : Name) (b : List Param) → walk course c n b s ≡ ok c s
    still (plain i) n b = rw (still_i i n b)
    still (chained i c) n b = rw (kid_still c (λ n b s. walk course c n b s) n b (still c n b), still_i i n b)

    still_i : (i : Inner) (n : Name) (b : List Param) → walk_i course i n b s ≡ ok i s
    still_i (leaf k x) n b = refl
    still_i (struct f) n b = rw (still_f f n b)
    still_i (choice x k f) n b = rw (still_c f k 0 n b)
    still_i (shell x c) n b = rw (kid_still c (λ n b s. walk course c n b s) (child n (shell_segment x)) b (still c (child n (shell_segment x)) b))
    still_i (bytes l) n b = refl
    still_i (invocation m a) n b = refl
    still_i (macro_invocation m a) n b = refl

    still_f : (f : Fields) (n : Name) (b : List Param) → walk_f course f n b s ≡ ok f s
    still_f no_field n b = refl
    still_f (field k l c f) n b = rw (kid_still c (λ n b s. walk course c n b s) (child n (segment l)) b (still c (child n (segment l)) b), still_f f n (bind k l c b))
    still_f (const l x f) n b = rw (still_f f n b)

    still_c : (f : Cases) (k : CaseKind) (i : ℕ) (n : Name) (b : List Param) → walk_c course f k i n b s ≡ ok f s
    still_c no_case k i n b = refl
    still_c (case l c f) k i n b = rw (kid_still c (λ n b s. walk course c n b s) (child n (case_segment k l i)) b (still c (child n (case_segment k l i)) b), still_c f k (suc i) n b)

  still_all : (ds : List Definition) → walk_all course ds s ≡ ok ds s
  unfolding walk_all
  still_all [] = refl
  still_all (format n ps c ∷ ds) = rw (still c n ps, still_all ds)
  still_all (constant n x ∷ ds) = rw (still_all ds)
  still_all (byte_order x ∷ ds) = rw (still_all ds)
  still_all (macro n ps c ∷ ds) = rw (still_all ds)

module _ (within : ℕ → ℕ → Bool) (k : ℕ) where
  rests : (s : State) → k ≤ s.defns → (c : Combinator) → (stopped k).lifts c s.defns ≡ false
  rests s h c = rw (le-ltb s.defns k h) (and-false (anonymous c))
    where
      and-false : (a : Bool) → a && false ≡ false
      and-false true = refl
      and-false false = refl

  -- the stopped walk ended with the numbers of u
  record Ended {A : Type 0} (u : State) (m : Res State A) : Type 0 where
    value : A
    state : State
    gives : m ≡ ok value state
    bytes : state.bytes ≡ u.bytes
    defns : state.defns ≡ k

  ended : {A : Type 0} (a : A) (t : State) {m : Res State A} → m ≡ ok a t → t.defns ≡ k → Ended t m
  ended a t e h = record { value = a; state = t; gives = e; bytes = refl; defns = h }

  -- it ended with numbers that are within the limits
  record Passed {A : Type 0} (m : Res State A) : Type 0 where
    at : State
    inside : within at.bytes at.defns ≡ true
    there : at.defns ≡ k
    ends : Ended at m

  abbrev Inside : State → Type 0
  Inside s = within s.bytes s.defns ≡ true

  -- A walk from n definitions on, and the stopped one. Begins: the walk starts within the limits.
  -- The walk gave a value: the stopped one gives the same, if no more than k definitions were made, and else it ended within the limits
  record Went {A : Type 0} (Begins : Type 0) (n : ℕ) (stop : Res State A) (a : A) (t : State) : Type 0 where
    grown : n ≤ t.defns
    inside : Begins → Inside t
    same : t.defns ≤ k → stop ≡ ok a t
    passed : Begins → n ≤ k → k ≤ t.defns → Passed stop

  -- the walk gave 10 in u: at the k-th definition the stopped one ended there, before it within the limits
  record Gave10 {A : Type 0} (Begins : Type 0) (n : ℕ) (stop : Res State A) (u : State) : Type 0 where
    grown : n ≤ u.defns
    over : within u.bytes u.defns ≡ false
    ended : u.defns ≡ k → Ended u stop
    passed : Begins → n ≤ k → k < u.defns → Passed stop

  record Follows {A : Type 0} (Begins : Type 0) (n : ℕ) (m stop : Res State A) : Type 0 where
    went : (a : A) (t : State) → m ≡ ok a t → Went Begins n stop a t
    gave10 : (u : State) → m ≡ bad result_long u → Gave10 Begins n stop u

  earlier : {A Begins Starts : Type 0} {n l : ℕ} {m stop : Res State A} → Follows Begins n m stop → (Starts → Begins) → l ≤ n → (l ≤ k → n ≤ k) → Follows Starts l m stop
  earlier w v h i = record {
    went = λ a t e. let x = w.went a t e in record { grown = omega (arith, x.grown); inside = λ u. x.inside (v u); same = x.same; passed = λ u p q. x.passed (v u) (i p) q };
    gave10 = λ r e. let x = w.gave10 r e in record { grown = omega (arith, x.grown); over = x.over; ended = x.ended; passed = λ u p q. x.passed (v u) (i p) q };
  }

  -- a value that both give
  now : {A : Type 0} (a : A) (s : State) → Follows (Inside s) s.defns (ok a s) (ok a s)
  now a s = record { went = λ b t e. let q : s ≡ t = cc in rw q (at_once b t (rw q at e)); gave10 = λ u e. let z : ◌≡◌ {A = ℕ} 0 1 = cc in absurd (omega arith) }
    where
      at_once : {A : Type 0} {a : A} (b : A) (t : State) → ok a t ≡ ok b t → Went (Inside t) t.defns (ok a t) b t
      at_once b t e = record { grown = omega arith; inside = λ v. v; same = λ h. e; passed = λ v p q. record { at = t; inside = v; there = omega arith; ends = ended _ t refl (omega arith) } }

  -- one step after the other
  module _ {A B : Type 0} {stop : Res State A} (g : A × State → Res State B) (z : (a : A) (t : State) → t.defns ≡ k → Ended t (g (a, t))) where
    on : {u : State} → Ended u stop → Ended u (stop >>= g)
    on r =
        let w = z r.value r.state r.defns in
        record { value = w.value; state = w.state; gives = rw r.gives w.gives; bytes = w.bytes ∙ r.bytes; defns = w.defns }

    on_passed : Passed stop → Passed (stop >>= g)
    on_passed r = record { at = r.at; inside = r.inside; there = r.there; ends = on r.ends }

    -- the first step made no more than k definitions, or more
    passed_by : {Begins : Type 0} {n : ℕ} {a : A} {t : State} → Went Begins n stop a t → Begins → n ≤ k → (Inside t → t.defns ≤ k → Passed (g (a, t))) → Passed (stop >>= g)
    passed_by {t = t} w v p later = by_test (leb k t.defns)
        (λ h. on_passed (w.passed v p (leb-true k t.defns h)))
        (λ h. let l = leb-false k t.defns h in rw (w.same (omega arith)) (later (w.inside v) (omega arith)))

  both : {A B Begins : Type 0} {n : ℕ} {m stop : Res State A} → Follows Begins n m stop → (f g : A × State → Res State B) → ((a : A) (t : State) → Follows (Inside t) t.defns (f (a, t)) (g (a, t)))
      → ((a : A) (t : State) → t.defns ≡ k → Ended t (g (a, t))) → Follows Begins n (m >>= f) (stop >>= g)
  both {A} {B} {Begins} {n} {m} {stop} p f g q z = by_first m refl
    where
      by_first : (x : Res State A) → m ≡ x → Follows Begins n (x >>= f) (stop >>= g)
      by_first (ok a t) e =
          let w = p.went a t e in
          record {
            went = λ b u d.
                let x = (q a t).went b u d in
                record { grown = omega (arith, w.grown, x.grown); inside = λ v. x.inside (w.inside v); same = λ h. rw (w.same (omega (arith, x.grown))) (x.same h); passed = λ v i j. passed_by g z w v i λ v₂ i₂. x.passed v₂ i₂ j };
            gave10 = λ u d.
                let x = (q a t).gave10 u d in
                record { grown = omega (arith, w.grown, x.grown); over = x.over; ended = λ h. rw (w.same (omega (arith, x.grown))) (x.ended h); passed = λ v i j. passed_by g z w v i λ v₂ i₂. x.passed v₂ i₂ j };
          }
      by_first (bad c v) e = record {
        went = λ b u d. no_ok d;
        gave10 = λ u d.
            let d₂ : ◌≡◌ {A = Res State A} (bad c v) (bad result_long u) = cc in
            let x = p.gave10 u (e ∙ d₂) in
            record { grown = x.grown; over = x.over; ended = λ h. on g z (x.ended h); passed = λ v i j. on_passed g z (x.passed v i j) };
      }

  -- a first step that both make and that does not give 10
  Other : {A : Type 0} → Res State A → Type 0
  Other m = (u : State) → m ≡ bad result_long u → ⊥

  first_both : {A B Begins : Type 0} {n : ℕ} (m : Res State A) → Other m → (f g : A × State → Res State B) → ((a : A) (t : State) → m ≡ ok a t → Follows Begins n (f (a, t)) (g (a, t))) → Follows Begins n (m >>= f) (m >>= g)
  unfolding Other
  first_both (ok a t) o f g w = w a t refl
  first_both {A} (bad c v) o f g w = record { went = λ b u d. no_ok d; gave10 = λ u d. let d₂ : ◌≡◌ {A = Res State A} (bad c v) (bad result_long u) = cc in absurd (o u d₂) }

  ask_both : {A Begins : Type 0} {n : ℕ} (b : Bool) (c : Code) (s : State) (f g : Unit × State → Res State A) → (c ≡ result_long → ⊥) → Follows Begins n (f (tt, s)) (g (tt, s)) → Follows Begins n (require b c s >>= f) (require b c s >>= g)
  ask_both true c s f g o w = w
  ask_both false c s f g o w = record { went = λ a t e. no_ok e; gave10 = λ u e. let q : c ≡ result_long = cc in absurd (o q) }

  other_ok : {A : Type 0} (a : A) (s : State) → Other (ok a s)
  unfolding Other
  other_ok a s u e = let z : ◌≡◌ {A = ℕ} 0 1 = cc in omega arith

  other_then : {A B : Type 0} (m : Res State A) → Other m → (f : A × State → Res State B) → ((a : A) (t : State) → Other (f (a, t))) → Other (m >>= f)
  unfolding Other
  other_then (ok a t) o f w u e = w a t u e
  other_then {A} (bad c v) o f w u e = let d₂ : ◌≡◌ {A = Res State A} (bad c v) (bad result_long u) = cc in o u d₂

  other_bound : (m : Maybe Inner) (n : Name) (s : State) → Other (bound m n s)
  unfolding Other bound
  other_bound absent n s u e = let z : ◌≡◌ {A = ℕ} 0 1 = cc in omega arith
  other_bound (just i) n s u e = let z : ◌≡◌ {A = ℕ} 0 1 = cc in omega arith

  other_typed : (binders : List Param) (ns : List Name) (s : State) → Other (typed binders ns s)
  unfolding typed
  other_typed binders [] s = other_ok [] s
  other_typed binders (n ∷ ns) s = other_then (bound (binder binders n) n s) (other_bound (binder binders n) n s) _ λ p t. other_then (typed binders ns t) (other_typed binders ns t) _ λ ps u. other_ok (p ∷ ps) u

  -- a child, with what is known of the walk inside it
  module _ (c : Combinator) (inside stop : Walk) (ih : (n : Name) (b : List Param) (s : State) → Follows (Inside s) s.defns (inside n b s) (stop n b s)) (rest : (n : Name) (b : List Param) (s : State) → k ≤ s.defns → stop n b s ≡ ok c s) where
    abbrev whole : Course
    whole = limited within

    -- what follows once code 10 was tested, in the state `first`
    lift_rest : (n : Name) (ns : List Name) (ps : List Param) (b : List Param) (first : State)
        → Follows (Inside first) first.defns (inside n b first >>= λ (d, s). ok (plain (invocation n ns)) (append (format n ps d) s)) (stop n b first >>= λ (d, s). ok (plain (invocation n ns)) (append (format n ps d) s))
    unfolding append
    lift_rest n ns ps b first = both (ih n b first) _ _ (λ d t. now (plain (invocation n ns)) (append (format n ps d) t)) (λ d t h. record { value = plain (invocation n ns); state = append (format n ps d) t; gives = refl; bytes = refl; defns = h })

    -- code 10 is tested in the state `tried`
    lift_tested : (n : Name) (ns : List Name) (ps : List Param) (b : List Param) (tried : State) (x : Bool) → within tried.bytes tried.defns ≡ x
        → Follows (Unit {0}) tried.defns (require x result_long tried >>= λ (u, s). inside n b (take n s) >>= λ (d, s). ok (plain (invocation n ns)) (append (format n ps d) s))
        (stop n b (take n tried) >>= λ (d, s). ok (plain (invocation n ns)) (append (format n ps d) s))
    unfolding take append
    lift_tested n ns ps b tried true p = earlier (lift_rest n ns ps b (take n tried)) (λ u. p) (omega arith) (λ h. h)
    lift_tested n ns ps b tried false p = record {
      went = λ a t e. no_ok e;
      gave10 = λ u e.
          let q : tried ≡ u = cc in
          rw (← q)
          (record {
            grown = omega arith;
            over = p;
            ended = λ h. record { value = plain (invocation n ns); state = append (format n ps c) (take n tried); gives = rw (rest n b (take n tried) (omega (arith, h))); bytes = refl; defns = h };
            passed = λ v i j. absurd (omega arith);
          });
    }

    -- both lift
    lift_both : (n : Name) (b : List Param) (s : State) → Follows (Unit {0}) (suc s.defns) (lift whole c inside n b s) (lift (stopped k) c stop n b s)
    unfolding lift measured grow
    lift_both base b s =
        let n = fresh base s.taken in
        let ns = sorted (free c) in
        ask_both (leb (length n) 255) name_long s _ _ long_other (ask_both (not (leftover c)) leftover_macro s _ _ left_other
        (first_both (typed b ns s) (other_typed b ns s) _ _ λ ps t e.
        let q = (gave (typed_says b ns s) e).same in
        rw (← q) (earlier (lift_tested n ns ps b (grow (format n ps c) (plain (invocation n ns)) c s) _ refl) (λ u. u) (omega arith) (λ h. omega arith))))

    -- the stopped walk lifts no more
    lift_past : (n : Name) (b : List Param) (s : State) → k ≤ s.defns → Follows (Inside s) s.defns (lift whole c inside n b s) (stop n b s)
    lift_past n b s h =
        let w = lift_both n b s in
        record {
          went = λ a t e.
              let x = w.went a t e in
              record { grown = omega (arith, x.grown); inside = λ v. x.inside tt; same = λ i. absurd (omega (arith, x.grown)); passed = λ v i j. record { at = s; inside = v; there = omega arith; ends = ended c s (rest n b s h) (omega arith) } };
          gave10 = λ u e.
              let x = w.gave10 u e in
              record { grown = omega (arith, x.grown); over = x.over; ended = λ i. absurd (omega (arith, x.grown, i)); passed = λ v i j. record { at = s; inside = v; there = omega arith; ends = ended c s (rest n b s h) (omega arith) } };
        }

    kid_follows : (n : Name) (b : List Param) (s : State) → Follows (Inside s) s.defns (child_by whole (anonymous c) c inside n b s) (child_by (stopped k) (anonymous c && ltb s.defns k) c stop n b s)
    unfolding child_by
    kid_follows n b s = by_tests (anonymous c) (ltb s.defns k) refl
      where
        by_tests : (x y : Bool) → ltb s.defns k ≡ y → Follows (Inside s) s.defns (child_by whole x c inside n b s) (child_by (stopped k) (x && y) c stop n b s)
        by_tests false y e = ih n b s
        by_tests true true e = earlier (lift_both n b s) (λ v. tt) (omega arith) (λ h. ltb-true s.defns k e)
        by_tests true false e = lift_past n b s (ltb-false s.defns k e)

  kid : (c : Combinator) → ((n : Name) (b : List Param) (s : State) → Follows (Inside s) s.defns (walk (limited within) c n b s) (walk (stopped k) c n b s)) → (n : Name) (b : List Param) (s : State)
      → Follows (Inside s) s.defns (child_by (limited within) (anonymous c) c (λ n b s. walk (limited within) c n b s) n b s) (child_by (stopped k) (anonymous c && ltb s.defns k) c (λ n b s. walk (stopped k) c n b s) n b s)
  kid c ih n b s = kid_follows c (λ n b s. walk (limited within) c n b s) (λ n b s. walk (stopped k) c n b s) ih (λ n b s h. still (stopped k) s (rests s h) c n b) n b s

  at_end_of : (t : State) → t.defns ≡ k → (c : Combinator) → (stopped k).lifts c t.defns ≡ false
  at_end_of t h c = rests t (omega (arith, h)) c

  mutual
    unfolding walk

    follows : (c : Combinator) (n : Name) (b : List Param) (s : State) → Follows (Inside s) s.defns (walk (limited within) c n b s) (walk (stopped k) c n b s)
    follows (plain i) n b s = both (follows_i i n b s) _ _ (λ j t. now (plain j) t) (λ j t h. ended (plain j) t refl h)
    follows (chained i c) n b s = both (kid c (λ n b s. follows c n b s) n b s) _ _
        (λ d t. both (follows_i i n b t) _ _ (λ j u. now (chained j d) u) (λ j u h. ended (chained j d) u refl h))
        (λ d t h. ended (chained i d) t (rw (still_i (stopped k) t (at_end_of t h) i n b)) h)

    follows_i : (i : Inner) (n : Name) (b : List Param) (s : State) → Follows (Inside s) s.defns (walk_i (limited within) i n b s) (walk_i (stopped k) i n b s)
    follows_i (leaf m x) n b s = now (leaf m x) s
    follows_i (struct f) n b s = both (follows_f f n b s) _ _ (λ g t. now (struct g) t) (λ g t h. ended (struct g) t refl h)
    follows_i (choice x m f) n b s = both (follows_c f m 0 n b s) _ _ (λ g t. now (choice x m g) t) (λ g t h. ended (choice x m g) t refl h)
    follows_i (shell x c) n b s = both (kid c (λ n b s. follows c n b s) (child n (shell_segment x)) b s) _ _ (λ d t. now (shell x d) t) (λ d t h. ended (shell x d) t refl h)
    follows_i (bytes l) n b s = now (bytes l) s
    follows_i (invocation m a) n b s = now (invocation m a) s
    follows_i (macro_invocation m a) n b s = now (macro_invocation m a) s

    follows_f : (f : Fields) (n : Name) (b : List Param) (s : State) → Follows (Inside s) s.defns (walk_f (limited within) f n b s) (walk_f (stopped k) f n b s)
    follows_f no_field n b s = now no_field s
    follows_f (field m l c f) n b s = both (kid c (λ n b s. follows c n b s) (child n (segment l)) b s) _ _
        (λ d t. both (follows_f f n (bind m l d b) t) _ _ (λ g u. now (field m l d g) u) (λ g u h. ended (field m l d g) u refl h))
        (λ d t h. ended (field m l d f) t (rw (still_f (stopped k) t (at_end_of t h) f n (bind m l d b))) h)
    follows_f (const l x f) n b s = both (follows_f f n b s) _ _ (λ g t. now (const l x g) t) (λ g t h. ended (const l x g) t refl h)

    follows_c : (f : Cases) (m : CaseKind) (i : ℕ) (n : Name) (b : List Param) (s : State) → Follows (Inside s) s.defns (walk_c (limited within) f m i n b s) (walk_c (stopped k) f m i n b s)
    follows_c no_case m i n b s = now no_case s
    follows_c (case l c f) m i n b s = both (kid c (λ n b s. follows c n b s) (child n (case_segment m l i)) b s) _ _
        (λ d t. both (follows_c f m (suc i) n b t) _ _ (λ g u. now (case l d g) u) (λ g u h. ended (case l d g) u refl h))
        (λ d t h. ended (case l d f) t (rw (still_c (stopped k) t (at_end_of t h) f m (suc i) n b)) h)

  follows_all : (ds : List Definition) (s : State) → Follows (Inside s) s.defns (walk_all (limited within) ds s) (walk_all (stopped k) ds s)
  unfolding walk_all
  follows_all [] s = now [] s
  follows_all (format n ps c ∷ ds) s = both (follows c n ps s) _ _
      (λ d t. both (follows_all ds t) _ _ (λ es u. now (format n ps d ∷ es) u) (λ es u h. ended (format n ps d ∷ es) u refl h))
      (λ d t h. ended (format n ps d ∷ ds) t (rw (still_all (stopped k) t (at_end_of t h) ds)) h)
  follows_all (constant n x ∷ ds) s = both (follows_all ds s) _ _ (λ es t. now (constant n x ∷ es) t) (λ es t h. ended (constant n x ∷ es) t refl h)
  follows_all (byte_order x ∷ ds) s = both (follows_all ds s) _ _ (λ es t. now (byte_order x ∷ es) t) (λ es t h. ended (byte_order x ∷ es) t refl h)
  follows_all (macro n ps c ∷ ds) s = both (follows_all ds s) _ _ (λ es t. now (macro n ps c ∷ es) t) (λ es t h. ended (macro n ps c ∷ es) t refl h)

-- the book that a stopped walk leaves
module _ (ds : List Definition) where
  leaves : (within : ℕ → ℕ → Bool) (k : ℕ) (u : State) (e : Ended within k u (walk_all (stopped k) ds (start ds))) → (l : Left k ds) × (size_book l.book ≡ u.bytes)
  leaves within k u e =
      let m = measures (stopped k) ds e.value e.state e.gives in
      (record { book = e.value ++ e.state.made; kept = e.value; state = e.state; walked = e.gives; whole = refl; count = sym m.1 ∙ e.defns }, sym m.0 ∙ e.bytes)

  passed_within : (k : ℕ) → Passed full.within k (walk_all (stopped k) ds (start ds)) → (l : Left k ds) × Within l.book
  passed_within k p =
      let w = leaves full.within k p.at p.ends in
      let b = both_true (leb p.at.bytes 16384) (leb p.at.defns 512) p.inside in
      (w.0, (rw w.1 (leb-true p.at.bytes 16384 b.0), omega (arith, w.0.count, p.there, leb-true p.at.defns 512 b.1)))

  ended_over : (u : State) → full.within u.bytes u.defns ≡ false → Ended full.within u.defns u (walk_all (stopped u.defns) ds (start ds)) → (l : Left u.defns ds) × Over l.book
  ended_over u o e =
      let w = leaves full.within u.defns u e in
      (w.0, rw (w.1, w.0.count) (one_over (leb u.bytes 16384) (leb u.defns 512) refl refl o))
    where
      one_over : (a b : Bool) → leb u.bytes 16384 ≡ a → leb u.defns 512 ≡ b → a && b ≡ false → (16384 < u.bytes) ⊎ (512 < u.defns)
      one_over false b p q e = inl (leb-false u.bytes 16384 p)
      one_over true false p q e = inr (leb-false u.defns 512 q)
      one_over true true p q e = not_both true refl e

pub sum_at_each_lift : SumAtEachLift
sum_at_each_lift within ds s e = leaves ds within s.defns s (((follows_all within s.defns ds (start ds)).gave10 s e).ended refl)

pub code10_is_first_over : Code10IsFirstOver
unfolding start
code10_is_first_over ds w =
    let v : full.within (size_book ds) (length ds) ≡ true = rw (le-leb (size_book ds) 16384 w.0, le-leb (length ds) 512 w.1) in
    record {
      accepted = λ es t e k p q. passed_within ds k (((follows_all full.within k ds (start ds)).went es t e).passed v p (omega (arith, (measures full ds es t e).1)));
      refused = λ s e. let g = (follows_all full.within s.defns ds (start ds)).gave10 s e in ended_over ds s g.over (g.ended refl);
      first = λ s e k p q. passed_within ds k (((follows_all full.within k ds (start ds)).gave10 s e).passed v p q);
    }

pub measure_is_size : MeasureIsSize
measure_is_size k ds es t e = measures (stopped k) ds es t e
