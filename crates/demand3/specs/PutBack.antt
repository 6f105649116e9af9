-- "Putting back replaces each call of a lifted name in a body, macro arguments aside, by that definition's whole combinator until none is left, then drops the lifted definitions. Parameter types are not touched."
use Rattle.std.specs.Prelude.{◌≡◌, List, [], ◌∷◌, cond, ℕ, zero, suc, ◌≤◌, length}
use Rattle.definition.specs.Res.{Maybe, absent, just}
use Rattle.definition.specs.Tree.{Name, Combinator, plain, chained, Inner, leaf, struct, choice, shell, bytes, invocation, macro_invocation, Fields, no_field, field, const, Cases, no_case, case, Definition, format, constant, byte_order, macro}
use Rattle.definition.specs.Names.{eq_name}
use Rattle.demand3.specs.Words.{Named, EachBody, EachCall}

-- "that definition's whole combinator". Of names `eq_name` says that they are equal (crate `laws`, `eq_name-true` and `eq_name_refl`)
unfoldable pub whole_of : List Definition → Name → Maybe Combinator
whole_of [] n = absent
whole_of (format m ps c ∷ ds) n = let r = whole_of ds n in cond (eq_name m n) (just c) r
whole_of (constant m x ∷ ds) n = whole_of ds n
whole_of (byte_order x ∷ ds) n = whole_of ds n
whole_of (macro m ps c ∷ ds) n = whole_of ds n

abbrev pub or_else : Maybe Combinator → Combinator → Combinator
or_else (just d) c = d
or_else absent c = c

unfoldable pub put_at : Inner → List Definition → Combinator → Combinator
put_at (leaf k x) lifted c = c
put_at (struct f) lifted c = c
put_at (choice s k f) lifted c = c
put_at (shell x d) lifted c = c
put_at (bytes l) lifted c = c
put_at (invocation n a) lifted c = or_else (whole_of lifted n) c
put_at (macro_invocation n a) lifted c = c

-- one round: each call that stands there is replaced. A lifted name is called without a chain; a call of it with one could not be replaced by a whole combinator, and would be left
unfoldable mutual
  pub put : Combinator → List Definition → Combinator
  put (plain i) lifted = put_at i lifted (plain (put_i i lifted))
  put (chained i c) lifted = chained (put_i i lifted) (put c lifted)

  pub put_i : Inner → List Definition → Inner
  put_i (leaf k x) lifted = leaf k x
  put_i (struct f) lifted = struct (put_f f lifted)
  put_i (choice s k f) lifted = choice s k (put_c f lifted)
  put_i (shell x c) lifted = shell x (put c lifted)
  put_i (bytes l) lifted = bytes l
  put_i (invocation n a) lifted = invocation n a
  put_i (macro_invocation n a) lifted = macro_invocation n a

  pub put_f : Fields → List Definition → Fields
  put_f no_field lifted = no_field
  put_f (field k l c f) lifted = field k l (put c lifted) (put_f f lifted)
  put_f (const l x f) lifted = const l x (put_f f lifted)

  pub put_c : Cases → List Definition → Cases
  put_c no_case lifted = no_case
  put_c (case l c f) lifted = case l (put c lifted) (put_c f lifted)

unfoldable pub put_all : List Definition → List Definition → List Definition
put_all [] lifted = []
put_all (format n ps c ∷ ds) lifted = format n ps (put c lifted) ∷ put_all ds lifted
put_all (constant n x ∷ ds) lifted = constant n x ∷ put_all ds lifted
put_all (byte_order x ∷ ds) lifted = byte_order x ∷ put_all ds lifted
put_all (macro n ps c ∷ ds) lifted = macro n ps c ∷ put_all ds lifted

module _ {A : Type 0} where
  -- k times
  unfoldable pub times : ℕ → (A → A) → A → A
  times zero step a = a
  times (suc k) step a = times k step (step a)

  -- it ends: after n rounds none is left, and more rounds change nothing
  pub record Ends (step : A → A) (None : A → Type 0) (n : ℕ) (before after : A) : Type 0 where
    pub ends : (k : ℕ) → n ≤ k → times k step before ≡ after
    pub none_left : None after

-- k rounds, in one body and in all
abbrev pub rounds : ℕ → Combinator → List Definition → Combinator
rounds k c lifted = times k (λ d. put d lifted) c

abbrev pub rounds_all : ℕ → List Definition → List Definition → List Definition
rounds_all k ds lifted = times k (λ es. put_all es lifted) ds

-- "none is left"
abbrev pub NoneLeft : List Definition → Combinator → Type 0
NoneLeft lifted c = EachCall c (λ n. Named n lifted → ⊥)

-- "until none is left": it ends, after as many rounds as there are lifted definitions
abbrev pub PutsBack : List Definition → Combinator → Combinator → Type 0
PutsBack lifted before after = Ends (λ d. put d lifted) (NoneLeft lifted) (length lifted) before after

abbrev pub PutsAllBack : List Definition → List Definition → List Definition → Type 0
PutsAllBack lifted before after = Ends (λ es. put_all es lifted) (EachBody (NoneLeft lifted)) (length lifted) before after

-- "its put-back body"
abbrev pub put_back : List Definition → Combinator → Combinator
put_back lifted c = rounds (length lifted) c lifted

-- once none is left, going on changes nothing, whatever the definitions are
abbrev pub GoingOn : Type 0
GoingOn = (lifted ds : List Definition) → EachBody (NoneLeft lifted) ds → put_all ds lifted ≡ ds

-- so it does not matter when one stops: where none is left after some number of rounds, they have given what it ends with
abbrev pub OneOutcome : Type 0
OneOutcome = (lifted before after : List Definition) → PutsAllBack lifted before after → (k : ℕ) → EachBody (NoneLeft lifted) (rounds_all k before lifted) → rounds_all k before lifted ≡ after
