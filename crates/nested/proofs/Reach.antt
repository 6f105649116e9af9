-- The test that ends the passes says exactly whether a known macro call stands where the pass reaches.
-- Assumes nothing.
use mathlib.Core.Path.{◌≡◌, refl, sym}
use mathlib.Core.Logic.{◌⊎◌, inl, inr, ⊎_elim}
use mathlib.Core.List.{List, [], ◌∷◌}
use mathlib.Core.Bool.{Bool, true, false, not, ◌&&◌}
use Rattle.definition.specs.Tree.{Name, Combinator, plain, chained, Inner, leaf, struct, choice, shell, bytes, invocation, macro_invocation, Fields, no_field, field, const, Cases, no_case, case, Definition, format, constant, byte_order, macro}
use Rattle.definition.specs.Names.{eq_name}
use Rattle.definition.specs.Macros.{Macro}
use Rattle.definition.specs.Bodies.{every_body}
use Rattle.laws.proofs.Tests.{by_test, not_both, both_true, either}
use Rattle.laws.proofs.Members.{eq_name-true, eq_name_refl}
use Rattle.nested.specs.Nested.{every_macro_call, every_macro_call_i, every_macro_call_f, every_macro_call_c, is_macro, settled}
use Rattle.nested.specs.Reach.{Stands, StandsI, StandsF, StandsC, StandsIn, IsKnown, KnownCall}
use Rattle.nested.specs.Laws.{SettledExactly}

one_false : (a b : Bool) → a && b ≡ false → (a ≡ false) ⊎ (b ≡ false)
one_false true b e = inr e
one_false false b e = inl refl

not-false : (b : Bool) → not b ≡ false → b ≡ true
not-false true e = refl
not-false false e = not_both true refl e

module _ (test : Name → Bool) where
  -- one that stands there and does not pass
  record Failing (S : Name → Type 0) : Type 0 where
    name : Name
    stands : S name
    fails : test name ≡ false

  wider : {S T : Name → Type 0} → ((n : Name) → S n → T n) → Failing S → Failing T
  wider f r = record { name = r.name; stands = f r.name r.stands; fails = r.fails }

  mutual
    unfolding every_macro_call

    failing : (c : Combinator) → every_macro_call c test ≡ false → Failing (λ n. Stands c n)
    failing (plain i) e = failing_i i e
    failing (chained i c) e = ⊎_elim (λ x. wider (λ n w. inl w) (failing_i i x)) (λ x. wider (λ n w. inr w) (failing c x)) (one_false (every_macro_call_i i test) (every_macro_call c test) e)

    failing_i : (i : Inner) → every_macro_call_i i test ≡ false → Failing (λ n. StandsI i n)
    failing_i (leaf k x) e = not_both true refl e
    failing_i (struct f) e = failing_f f e
    failing_i (choice s k f) e = failing_c f e
    failing_i (shell x c) e = failing c e
    failing_i (bytes l) e = not_both true refl e
    failing_i (invocation m a) e = not_both true refl e
    failing_i (macro_invocation m a) e = record { name = m; stands = refl; fails = e }

    failing_f : (f : Fields) → every_macro_call_f f test ≡ false → Failing (λ n. StandsF f n)
    failing_f no_field e = not_both true refl e
    failing_f (field k l c f) e = ⊎_elim (λ x. wider (λ n w. inl w) (failing c x)) (λ x. wider (λ n w. inr w) (failing_f f x)) (one_false (every_macro_call c test) (every_macro_call_f f test) e)
    failing_f (const l x f) e = failing_f f e

    failing_c : (f : Cases) → every_macro_call_c f test ≡ false → Failing (λ n. StandsC f n)
    failing_c no_case e = not_both true refl e
    failing_c (case l c f) e = ⊎_elim (λ x. wider (λ n w. inl w) (failing c x)) (λ x. wider (λ n w. inr w) (failing_c f x)) (one_false (every_macro_call c test) (every_macro_call_c f test) e)

  failing_body : (ds : List Definition) → every_body (λ c. every_macro_call c test) ds ≡ false → Failing (λ n. StandsIn ds n)
  unfolding every_body
  failing_body [] e = not_both true refl e
  failing_body (format m ps c ∷ ds) e = ⊎_elim (λ x. wider (λ n w. inl w) (failing c x)) (λ x. wider (λ n w. inr w) (failing_body ds x)) (one_false (every_macro_call c test) (every_body (λ d. every_macro_call d test) ds) e)
  failing_body (constant m x ∷ ds) e = failing_body ds e
  failing_body (byte_order x ∷ ds) e = failing_body ds e
  failing_body (macro m ps c ∷ ds) e = failing_body ds e

  -- where the test says so, each that stands there passes
  mutual
    unfolding every_macro_call

    passing : (c : Combinator) (n : Name) → every_macro_call c test ≡ true → Stands c n → test n ≡ true
    passing (plain i) n e w = passing_i i n e w
    passing (chained i c) n e w = let b = both_true (every_macro_call_i i test) (every_macro_call c test) e in ⊎_elim (λ x. passing_i i n b.0 x) (λ x. passing c n b.1 x) w

    passing_i : (i : Inner) (n : Name) → every_macro_call_i i test ≡ true → StandsI i n → test n ≡ true
    passing_i (leaf k x) n e w = absurd w
    passing_i (struct f) n e w = passing_f f n e w
    passing_i (choice s k f) n e w = passing_c f n e w
    passing_i (shell x c) n e w = passing c n e w
    passing_i (bytes l) n e w = absurd w
    passing_i (invocation m a) n e w = absurd w
    passing_i (macro_invocation m a) n e w = rw w e

    passing_f : (f : Fields) (n : Name) → every_macro_call_f f test ≡ true → StandsF f n → test n ≡ true
    passing_f no_field n e w = absurd w
    passing_f (field k l c f) n e w = let b = both_true (every_macro_call c test) (every_macro_call_f f test) e in ⊎_elim (λ x. passing c n b.0 x) (λ x. passing_f f n b.1 x) w
    passing_f (const l x f) n e w = passing_f f n e w

    passing_c : (f : Cases) (n : Name) → every_macro_call_c f test ≡ true → StandsC f n → test n ≡ true
    passing_c no_case n e w = absurd w
    passing_c (case l c f) n e w = let b = both_true (every_macro_call c test) (every_macro_call_c f test) e in ⊎_elim (λ x. passing c n b.0 x) (λ x. passing_c f n b.1 x) w

  passing_body : (ds : List Definition) (n : Name) → every_body (λ c. every_macro_call c test) ds ≡ true → StandsIn ds n → test n ≡ true
  unfolding every_body
  passing_body [] n e w = absurd w
  passing_body (format m ps c ∷ ds) n e w = let b = both_true (every_macro_call c test) (every_body (λ d. every_macro_call d test) ds) e in ⊎_elim (λ x. passing c n b.0 x) (λ x. passing_body ds n b.1 x) w
  passing_body (constant m x ∷ ds) n e w = passing_body ds n e w
  passing_body (byte_order x ∷ ds) n e w = passing_body ds n e w
  passing_body (macro m ps c ∷ ds) n e w = passing_body ds n e w

-- known names
is_known : (ms : List Macro) (n : Name) → is_macro ms n ≡ true → IsKnown ms n
unfolding is_macro
is_known [] n e = not_both false e refl
is_known (m ∷ ms) n e = ⊎_elim (λ q. inl (sym (eq_name-true m.name n q))) (λ q. inr (is_known ms n q)) (either (eq_name m.name n) (is_macro ms n) e)

known_is : (ms : List Macro) (n : Name) → IsKnown ms n → is_macro ms n ≡ true
unfolding is_macro
known_is [] n w = absurd w
known_is (m ∷ ms) n (inl e) = rw (e, eq_name_refl m.name)
known_is (m ∷ ms) n (inr w) = by_test (eq_name m.name n) (λ q. rw q) (λ q. rw (q, known_is ms n w))

module _ (ms : List Macro) (ds : List Definition) where
  abbrev unknown : Name → Bool
  unknown n = not (is_macro ms n)

  some : settled ms ds ≡ false → KnownCall ms ds
  unfolding settled
  some e = let r = failing_body unknown ds e in record { name = r.name; known = is_known ms r.name (not-false (is_macro ms r.name) r.fails); stands = r.stands }

  none : settled ms ds ≡ true → KnownCall ms ds → ⊥
  unfolding settled
  none e w = not_both (unknown w.name) (passing_body unknown ds w.name e w.stands) (rw (known_is ms w.name w.known))

pub settled_exactly : SettledExactly
settled_exactly ms ds = (
  ((λ e. none ms ds e), (λ h. by_test (settled ms ds) (λ q. q) (λ q. absurd (h (some ms ds q))))),
  ((λ e. some ms ds e), (λ w. by_test (settled ms ds) (λ q. absurd (none ms ds q w)) (λ q. q))),
)
