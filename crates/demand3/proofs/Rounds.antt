-- Putting back round by round: once no lifted call is left, more rounds change nothing.
use mathlib.Core.Path.{◌≡◌, refl, sym, ap, ◌∙◌}
use mathlib.Core.List.{List, [], ◌∷◌}
use Prim.Native.Nat.{ℕ, zero, suc, ◌+◌, ◌-◌}
use native.Mathlib.Omega.{arith}
use lib.ListN.{length}
use Rattle.definition.specs.Res.{absent}
use Rattle.definition.specs.Tree.{Name, Combinator, plain, chained, Inner, leaf, struct, choice, shell, bytes, invocation, macro_invocation, Fields, no_field, field, const, Cases, no_case, case, Definition, format, constant, byte_order, macro}
use Rattle.definition.specs.Names.{elem}
use Rattle.definition.specs.Lift.{names}
use Rattle.laws.proofs.Tests.{by_test}
use Rattle.demand3.specs.Words.{Named, EachBody, EachCallI, EachCallF, EachCallC}
use Rattle.demand3.specs.PutBack.{whole_of, put_at, put, put_i, put_f, put_c, put_all, times, Ends, rounds, rounds_all, NoneLeft, PutsBack, PutsAllBack, GoingOn, OneOutcome}
use Rattle.demand3.proofs.Agree.{elem_named}
use Rattle.demand3.proofs.Elem.{whole_of_none}

module _ (M : List Definition) where
  pub no_whole : (n : Name) → (Named n M → ⊥) → whole_of M n ≡ absent
  no_whole n h = by_test (elem n (names M)) (λ q. absurd (h (elem_named n M q))) (λ q. whole_of_none M n q)

  plain_still : (i : Inner) → EachCallI i (λ n. Named n M → ⊥) → put_i i M ≡ i → put (plain i) M ≡ plain i
  unfolding put put_at
  plain_still (leaf a x) h e = ap plain e
  plain_still (struct f) h e = ap plain e
  plain_still (choice s a f) h e = ap plain e
  plain_still (shell x c) h e = ap plain e
  plain_still (bytes l) h e = ap plain e
  plain_still (invocation n a) h e = rw (no_whole n h)
  plain_still (macro_invocation n a) h e = ap plain e

  mutual
    unfolding put

    still : (c : Combinator) → NoneLeft M c → put c M ≡ c
    still (plain i) h = plain_still i h (still_i i h)
    still (chained i c) h = rw (still_i i h.0, still c h.1)

    still_i : (i : Inner) → EachCallI i (λ n. Named n M → ⊥) → put_i i M ≡ i
    still_i (leaf a x) h = refl
    still_i (struct f) h = rw (still_f f h)
    still_i (choice s a f) h = rw (still_c f h)
    still_i (shell x c) h = rw (still c h)
    still_i (bytes l) h = refl
    still_i (invocation n a) h = refl
    still_i (macro_invocation n a) h = refl

    still_f : (f : Fields) → EachCallF f (λ n. Named n M → ⊥) → put_f f M ≡ f
    still_f no_field h = refl
    still_f (field m l c f) h = rw (still c h.0, still_f f h.1)
    still_f (const l x f) h = rw (still_f f h)

    still_c : (f : Cases) → EachCallC f (λ n. Named n M → ⊥) → put_c f M ≡ f
    still_c no_case h = refl
    still_c (case l c f) h = rw (still c h.0, still_c f h.1)

  still_all : (ds : List Definition) → EachBody (NoneLeft M) ds → put_all ds M ≡ ds
  unfolding put_all
  still_all [] h = refl
  still_all (format n ps c ∷ ds) h = rw (still c h.0, still_all ds h.1)
  still_all (constant n x ∷ ds) h = rw (still_all ds h)
  still_all (byte_order x ∷ ds) h = rw (still_all ds h)
  still_all (macro n ps c ∷ ds) h = rw (still_all ds h)

pub going_on : GoingOn
going_on M ds h = still_all M ds h

-- a step that is taken again and again
module _ {A : Type 0} (step : A → A) where
  times_more : (j k n : ℕ) → n ≡ j + k → (a : A) → times n step a ≡ times k step (times j step a)
  unfolding times
  times_more zero k n e a = let p : n ≡ k = omega arith in rw p
  times_more (suc j) k zero e a = absurd (omega arith)
  times_more (suc j) k (suc n) e a = times_more j k n (omega arith) (step a)

  pub times_still : (k : ℕ) (a : A) → step a ≡ a → times k step a ≡ a
  unfolding times
  times_still zero a e = refl
  times_still (suc k) a e = rw e (times_still k a e)

  -- where none is left the step changes nothing: it has ended there, and whoever stops where none is left has the same
  module _ (None : A → Type 0) (still : (a : A) → None a → step a ≡ a) where
    pub ended : (n : ℕ) (before after : A) → times n step before ≡ after → None after → Ends step None n before after
    ended n before after e h = record { ends = λ k q. times_more n (k - n) k (omega arith) before ∙ rw e (times_still (k - n) after (still after h)); none_left = h }

    pub same_outcome : (n : ℕ) (before after : A) → Ends step None n before after → (k : ℕ) → None (times k step before) → times k step before ≡ after
    same_outcome n before after e k h = sym (times_still n (times k step before) (still (times k step before) h)) ∙ (sym (times_more k n (k + n) refl before) ∙ e.ends (k + n) (omega arith))

-- a step on the whole that is a step on its parts
module _ {A B : Type 0} (f : A → B) (stepA : A → A) (stepB : B → B) (e : (a : A) → stepB (f a) ≡ f (stepA a)) where
  pub times_under : (k : ℕ) (a b : A) → times k stepA a ≡ b → times k stepB (f a) ≡ f b
  unfolding times
  times_under zero a b h = ap f h
  times_under (suc k) a b h = rw (e a) (times_under k (stepA a) b h)

module _ {A B C : Type 0} (f : A → B → C) (stepA : A → A) (stepB : B → B) (stepC : C → C) (e : (a : A) (b : B) → stepC (f a b) ≡ f (stepA a) (stepB b)) where
  pub times_both : (k : ℕ) (a : A) (b : B) (x : A) (y : B) → times k stepA a ≡ x → times k stepB b ≡ y → times k stepC (f a b) ≡ f x y
  unfolding times
  times_both zero a b x y p q = rw (p, q)
  times_both (suc k) a b x y p q = rw (e a b) (times_both k (stepA a) (stepB b) x y p q)

pub one_outcome : OneOutcome
one_outcome M before after e k h = same_outcome (λ es. put_all es M) (EachBody (NoneLeft M)) (λ es w. still_all M es w) (length M) before after e k h

-- putting back that has ended
module _ (M : List Definition) where
  pub back_ended : (before after : Combinator) → rounds (length M) before M ≡ after → NoneLeft M after → PutsBack M before after
  back_ended before after e h = ended (λ d. put d M) (NoneLeft M) (λ d w. still M d w) (length M) before after e h

  pub all_back_ended : (before after : List Definition) → rounds_all (length M) before M ≡ after → EachBody (NoneLeft M) after → PutsAllBack M before after
  all_back_ended before after e h = ended (λ es. put_all es M) (EachBody (NoneLeft M)) (λ es w. still_all M es w) (length M) before after e h

  -- a body in which none stands is its own
  pub standing : (c : Combinator) → NoneLeft M c → PutsBack M c c
  standing c h = record { ends = λ k q. times_still (λ d. put d M) k c (still M c h); none_left = h }
