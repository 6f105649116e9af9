-- What the walk leaves a book can hold: names are plain and short, and levels are few.
use mathlib.Core.Path.{◌≡◌}
use mathlib.Core.List.{List, [], ◌∷◌, ◌++◌}
use mathlib.Core.Bool.{Bool, true, false}
use Prim.Native.Nat.{ℕ, suc, ◌≤◌}
use native.Mathlib.Omega.{arith}
use Rattle.definition.specs.Res.{just}
use Rattle.definition.specs.Tree.{Name, CaseKind, FieldKind, ordinary, dependent, Combinator, plain, chained, Inner, leaf, struct, choice, shell, bytes, invocation, macro_invocation, Fields, no_field, field, const, Cases, no_case, case, Param, Definition, format, constant, byte_order, macro}
use Rattle.definition.specs.Read.{no_dot_of, dot_allowed, undotted}
use Rattle.definition.specs.Size.{levels, levels_i, levels_f, levels_c, levels_p, levels_book}
use Rattle.definition.specs.Names.{eq_name, child, segment, case_segment, shell_segment}
use Rattle.definition.specs.Macros.{inner_of}
use Rattle.definition.specs.Lift.{Course, State, Walk, binder, child_by, bind, walk, walk_i, walk_f, walk_c, walk_all, start}
use Rattle.laws.specs.Book.{Named, AllNamed, Good, GoodI, GoodF, GoodC, GoodP, GoodAll}
use Rattle.laws.specs.Lists.{param_names}
use Rattle.laws.proofs.Tests.{by_test, both_true}
use Rattle.laws.proofs.Steps.{Gives, value, then, so, gave}
use Rattle.laws.proofs.Members.{eq_name-true}
use Rattle.laws.proofs.Levels.{levels_append, good_append}
use Rattle.laws.proofs.PlainNames.{Base, child_field, child_shell, child_case, fresh_plain}
use Rattle.laws.proofs.Lifted.{Bound, Lifted, lift_says}

-- a parameter that a book can hold, and parameters
pub record FineType (n : Name) (i : Inner) : Type 0 where
  pub named : Named undotted n
  pub good : GoodI i
  pub deep : suc (levels_i i) ≤ 64

abbrev pub Fine : List Param → Type 0
Fine [] = Unit {0}
Fine (p ∷ ps) = FineType p.name p.type × Fine ps

fine_append : (ps qs : List Param) → Fine ps → Fine qs → Fine (ps ++ qs)
fine_append [] qs f g = g
fine_append (p ∷ ps) qs f g = (f.0, fine_append ps qs f.1 g)

fine_good : (ps : List Param) → Fine ps → GoodP ps × (levels_p ps ≤ 64)
unfolding levels_p
fine_good [] f = (tt, omega arith)
fine_good (p ∷ ps) f = let w = fine_good ps f.1 in ((f.0.named, (f.0.good, w.0)), omega (arith, f.0.deep, w.1))

good_fine : (ps : List Param) → GoodP ps → levels_p ps ≤ 64 → Fine ps
unfolding levels_p
good_fine [] g h = tt
good_fine (p ∷ ps) g h = (record { named = g.0; good = g.1.0; deep = omega arith }, good_fine ps g.1.1 (omega arith))

-- what is bound by such parameters is such
binder_fine : (bs : List Param) (n : Name) (i : Inner) → Fine bs → binder bs n ≡ just i → FineType n i
unfolding binder
binder_fine [] n i f e = let z : ◌≡◌ {A = ℕ} 0 1 = cc in absurd (omega arith)
binder_fine (p ∷ ps) n i f e = by_test (eq_name p.name n)
    (λ q.
    let a : just p.type ≡ just i = rw q at e in
    let b : p.type ≡ i = cc in
    let c : p.name ≡ n = eq_name-true p.name n q in
    rw (← b, ← c) f.0)
    (λ q. binder_fine ps n i f.1 (rw q at e))

bound_fine : (bs ps : List Param) → Fine bs → Bound bs ps → Fine ps
bound_fine bs [] f b = tt
bound_fine bs (p ∷ ps) f b = (binder_fine bs p.name p.type f b.0, bound_fine bs ps f b.1)

-- a plain name may stand where one with a '.' may
plain_allowed : {n : Name} → Named undotted n → Named dot_allowed n
unfolding undotted
plain_allowed {n} h = record { passes = (both_true (dot_allowed n) (no_dot_of n) h.passes).0; short = h.short; small = h.small }

fine_names : (ps : List Param) → Fine ps → AllNamed dot_allowed (param_names ps)
fine_names [] f = tt
fine_names (p ∷ ps) f = (plain_allowed f.0.named, fine_names ps f.1)

levels_least : (c : Combinator) → 1 ≤ levels c
unfolding levels
levels_least (plain i) = omega arith
levels_least (chained i c) = omega arith

-- the definitions made so far
pub record FineAll (ds : List Definition) : Type 0 where
  pub good : GoodAll ds
  pub deep : levels_book ds ≤ 64

fine_all : (a b : List Definition) → FineAll a → FineAll b → FineAll (a ++ b)
fine_all a b f g = record { good = good_append a b f.good g.good; deep = omega (arith, levels_append a b, f.deep, g.deep) }

fine_format : (n : Name) (ps : List Param) (c : Combinator) → Named undotted n → Fine ps → Good c → levels c ≤ 64 → FineAll (format n ps c ∷ [])
unfolding levels_book
fine_format n ps c p f g h = let w = fine_good ps f in record { good = ((p, (w.0, g)), tt); deep = omega (arith, w.1) }

-- what stands there now is good, has no more levels than what stood there, and what was made is good
record Kept (G : Type 0) (new old : ℕ) (t : State) : Type 0 where
  good : G
  deep : new ≤ old
  state : FineAll t.made

bind_fine : (k : FieldKind) (l : Name) (d : Combinator) (b : List Param) → Named undotted l → Good d → levels d ≤ 64 → Fine b → Fine (bind k l d b)
unfolding bind inner_of levels
bind_fine ordinary l d b p g h f = f
bind_fine dependent l (plain i) b p g h f = fine_append b _ f (record { named = p; good = g; deep = h }, tt)
bind_fine dependent l (chained i c) b p g h f = fine_append b _ f (record { named = p; good = g.0; deep = omega arith }, tt)

module _ (course : Course) where
  module _ (c : Combinator) (inside : Walk) (g : Good c) (h : levels c ≤ 64)
      (ih : (n : Name) (b : List Param) (s : State) → Base n → Fine b → FineAll s.made → Gives (λ d t. Kept (Good d) (levels d) (levels c) t) (inside n b s)) where
    lift_good : (n : Name) (b : List Param) (s : State) → Base n → Fine b → FineAll s.made → (d : Combinator) (t : State) → Lifted course c inside n b s d t → Kept (Good d) (levels d) (levels c) t
    unfolding levels
    lift_good n b s p f a d t l =
        let q : Base l.name = rw l.named (fresh_plain n s.taken p) in
        let k = gave (ih l.name b l.first q f (rw l.first_made a)) l.went in
        let m : Named undotted l.name = record { passes = q.passes; short = l.short; small = q.small } in
        let fp = bound_fine b l.params f l.types in
        record {
          good = rw l.there (m, rw l.needed at (fine_names l.params fp));
          deep = rw l.there (levels_least c);
          state = rw l.last_made (fine_all l.last.made _ k.state (fine_format l.name l.params l.body m fp k.good (omega (arith, k.deep))));
        }

    kid_good : (a : Bool) (n : Name) (b : List Param) (s : State) → Base n → Fine b → FineAll s.made → Gives (λ d t. Kept (Good d) (levels d) (levels c) t) (child_by course a c inside n b s)
    unfolding child_by
    kid_good true n b s p f a = so (lift_says course c inside n b s) λ d t l. lift_good n b s p f a d t l
    kid_good false n b s p f a = ih n b s p f a

  mutual
    unfolding walk levels

    walk_good : (c : Combinator) (n : Name) (b : List Param) (s : State) → Good c → levels c ≤ 64 → Base n → Fine b → FineAll s.made → Gives (λ d t. Kept (Good d) (levels d) (levels c) t) (walk course c n b s)
    walk_good (plain i) n b s g h p f a = then (walk_i_good i n b s g (omega arith) p f a) _ λ j t w. value (record { good = w.good; deep = omega (arith, w.deep); state = w.state })
    walk_good (chained i c) n b s g h p f a = then (kid_good c (λ n b s. walk course c n b s) g.1 (omega arith) (λ n b s p f a. walk_good c n b s g.1 (omega arith) p f a) (course.lifts c s.defns) n b s p f a) _ λ d u k.
        then (walk_i_good i n b u g.0 (omega arith) p f k.state) _ λ j t w. value (record { good = (w.good, k.good); deep = omega (arith, w.deep, k.deep); state = w.state })

    walk_i_good : (i : Inner) (n : Name) (b : List Param) (s : State) → GoodI i → levels_i i ≤ 64 → Base n → Fine b → FineAll s.made → Gives (λ j t. Kept (GoodI j) (levels_i j) (levels_i i) t) (walk_i course i n b s)
    walk_i_good (leaf k x) n b s g h p f a = value {a = leaf k x} (record { good = g; deep = omega arith; state = a })
    walk_i_good (struct fs) n b s g h p f a = then (walk_f_good fs n b s g h p f a) _ λ gs t w. value (record { good = w.good; deep = w.deep; state = w.state })
    walk_i_good (choice x k cs) n b s g h p f a = then (walk_c_good cs k 0 n b s g.1 h p f a) _ λ gs t w. value (record { good = (g.0, w.good); deep = w.deep; state = w.state })
    walk_i_good (shell x c) n b s g h p f a = then (kid_good c (λ n b s. walk course c n b s) g.1 h (λ n b s p f a. walk_good c n b s g.1 h p f a) (course.lifts c s.defns) (child n (shell_segment x)) b s (child_shell n x p) f a) _ λ d t k.
        value (record { good = (g.0, k.good); deep = k.deep; state = k.state })
    walk_i_good (bytes l) n b s g h p f a = value {a = bytes l} (record { good = g; deep = omega arith; state = a })
    walk_i_good (invocation m xs) n b s g h p f a = value {a = invocation m xs} (record { good = g; deep = omega arith; state = a })
    walk_i_good (macro_invocation m xs) n b s g h p f a = value {a = macro_invocation m xs} (record { good = g; deep = omega arith; state = a })

    walk_f_good : (fs : Fields) (n : Name) (b : List Param) (s : State) → GoodF fs → levels_f fs ≤ 64 → Base n → Fine b → FineAll s.made → Gives (λ gs t. Kept (GoodF gs) (levels_f gs) (levels_f fs) t) (walk_f course fs n b s)
    walk_f_good no_field n b s g h p f a = value {a = no_field} (record { good = tt; deep = omega arith; state = a })
    walk_f_good (field m l c fs) n b s g h p f a = then (kid_good c (λ n b s. walk course c n b s) g.1.0 (omega arith) (λ n b s p f a. walk_good c n b s g.1.0 (omega arith) p f a) (course.lifts c s.defns) (child n (segment l)) b s (child_field n l p) f a) _ λ d u k.
        then (walk_f_good fs n (bind m l d b) u g.1.1 (omega arith) p (bind_fine m l d b g.0 k.good (omega (arith, k.deep)) f) k.state) _ λ gs t w.
        value (record { good = (g.0, (k.good, w.good)); deep = omega (arith, k.deep, w.deep); state = w.state })
    walk_f_good (const l x fs) n b s g h p f a = then (walk_f_good fs n b s g.1.1 h p f a) _ λ gs t w. value (record { good = (g.0, (g.1.0, w.good)); deep = w.deep; state = w.state })

    walk_c_good : (cs : Cases) (m : CaseKind) (i : ℕ) (n : Name) (b : List Param) (s : State) → GoodC cs m → levels_c cs ≤ 64 → Base n → Fine b → FineAll s.made → Gives (λ gs t. Kept (GoodC gs m) (levels_c gs) (levels_c cs) t) (walk_c course cs m i n b s)
    walk_c_good no_case m i n b s g h p f a = value {a = no_case} (record { good = tt; deep = omega arith; state = a })
    walk_c_good (case l c cs) m i n b s g h p f a = then (kid_good c (λ n b s. walk course c n b s) g.1.0 (omega arith) (λ n b s p f a. walk_good c n b s g.1.0 (omega arith) p f a) (course.lifts c s.defns) (child n (case_segment m l i)) b s (child_case n m l i p) f a) _ λ d u k.
        then (walk_c_good cs m (suc i) n b u g.1.1 (omega arith) p f k.state) _ λ gs t w.
        value (record { good = (g.0, (k.good, w.good)); deep = omega (arith, k.deep, w.deep); state = w.state })

  walk_all_good : (ds : List Definition) (s : State) → FineAll ds → FineAll s.made → Gives (λ es t. FineAll es × FineAll t.made) (walk_all course ds s)
  unfolding walk_all levels_book
  walk_all_good [] s f a = value (f, a)
  walk_all_good (format n ps c ∷ ds) s f a =
      let g = f.good.0 in
      let fp = good_fine ps g.1.0 (omega (arith, f.deep)) in
      then (walk_good c n ps s g.1.1 (omega (arith, f.deep)) (record { passes = g.0.passes; small = g.0.small }) fp a) _ λ d u k.
      then (walk_all_good ds u (record { good = f.good.1; deep = omega (arith, f.deep) }) k.state) _ λ es t w.
      value (fine_all (format n ps d ∷ []) es (fine_format n ps d g.0 fp k.good (omega (arith, k.deep, f.deep))) w.0, w.1)
  walk_all_good (constant n x ∷ ds) s f a = then (walk_all_good ds s (record { good = f.good.1; deep = f.deep }) a) _ λ es t w. value (record { good = (f.good.0, w.0.good); deep = w.0.deep }, w.1)
  walk_all_good (byte_order x ∷ ds) s f a = then (walk_all_good ds s (record { good = f.good.1; deep = f.deep }) a) _ λ es t w. value (record { good = (f.good.0, w.0.good); deep = w.0.deep }, w.1)
  walk_all_good (macro n ps c ∷ ds) s f a = then (walk_all_good ds s (record { good = f.good.1; deep = omega (arith, f.deep) }) a) _ λ es t w.
      value {a = macro n ps c ∷ es} (record { good = (f.good.0, w.0.good); deep = omega (arith, f.deep, w.0.deep) }, w.1)

  -- of a list that a book can hold, the result is such a list
  pub result_fine : (ds : List Definition) → FineAll ds → Gives (λ es t. FineAll (es ++ t.made)) (walk_all course ds (start ds))
  unfolding start levels_book
  result_fine ds f = so (walk_all_good ds (start ds) f (record { good = tt; deep = omega arith })) λ es t w. fine_all es t.made w.0 w.1
