-- How deep a combinator gets: by a substitution no more levels than the argument has, by an expansion no more than the inners put in.
-- So a walk with twice as many levels as code 6 allows measures every result.
-- Assumes nothing.
use mathlib.Core.List.{List}
use mathlib.Core.Bool.{Bool, true, false}
use Prim.Native.Nat.{ℕ, ◌+◌, ◌≤◌}
use native.Mathlib.Omega.{arith}
use Rattle.definition.specs.Tree.{Name, Combinator, plain, chained, Inner, leaf, struct, choice, shell, bytes, invocation, macro_invocation, Fields, no_field, field, const, Cases, no_case, case, Inners}
use Rattle.definition.specs.Size.{levels, levels_i, levels_f, levels_c, levels_a}
use Rattle.definition.specs.Names.{eq_name}
use Rattle.definition.specs.Out.{done, ◌>>=◌}
use Rattle.definition.specs.Macros.{Macro, same, subst, subst_i, subst_f, subst_c, expand_macro, expand, expand_i, expand_f, expand_c}
use Rattle.walker.proofs.pieces.Expanded.{All, then}

module _ (p : Name) (a : Inner) where
  deeper_same : (n : Name) (xs : List Name) (b : Bool) → levels_i (same a (invocation n xs) b) ≤ levels_i a
  unfolding levels
  deeper_same n xs true = omega arith
  deeper_same n xs false = omega arith

  mutual
    unfolding levels subst

    pub deeper : (c : Combinator) → levels (subst c p a) ≤ levels c + levels_i a
    deeper (plain i) = omega (arith, deeper_i i)
    deeper (chained i c) = omega (arith, deeper_i i, deeper c)

    pub deeper_i : (i : Inner) → levels_i (subst_i i p a) ≤ levels_i i + levels_i a
    deeper_i (leaf k x) = omega arith
    deeper_i (struct f) = deeper_f f
    deeper_i (choice s k f) = deeper_c f
    deeper_i (shell x c) = deeper c
    deeper_i (bytes l) = omega arith
    deeper_i (invocation n xs) = omega (arith, deeper_same n xs (eq_name n p))
    deeper_i (macro_invocation n xs) = omega arith

    deeper_f : (f : Fields) → levels_f (subst_f f p a) ≤ levels_f f + levels_i a
    deeper_f no_field = omega arith
    deeper_f (field k l c f) = omega (arith, deeper c, deeper_f f)
    deeper_f (const l x f) = deeper_f f

    deeper_c : (f : Cases) → levels_c (subst_c f p a) ≤ levels_c f + levels_i a
    deeper_c no_case = omega arith
    deeper_c (case l c f) = omega (arith, deeper c, deeper_c f)

module _ (ms : List Macro) (b : ℕ) (put_in : (n : Name) (xs : Inners) → All (λ i. levels_i i ≤ levels_a xs + b) (expand_macro ms n xs)) where
  mutual
    unfolding levels expand

    pub grown : (c : Combinator) → All (λ d. levels d ≤ levels c + b) (expand c ms)
    grown (plain i) = then (λ j. levels_i j ≤ levels_i i + b) (λ d. levels d ≤ levels (plain i) + b) (expand_i i ms) (λ j. done (plain j)) (grown_i i) (λ j h. omega arith)
    grown (chained i c) =
        then (λ d. levels d ≤ levels c + b) (λ d. levels d ≤ levels (chained i c) + b) (expand c ms) (λ d. expand_i i ms >>= λ j. done (chained j d)) (grown c)
        (λ d h. then (λ j. levels_i j ≤ levels_i i + b) (λ e. levels e ≤ levels (chained i c) + b) (expand_i i ms) (λ j. done (chained j d)) (grown_i i) (λ j g. omega arith))

    pub grown_i : (i : Inner) → All (λ j. levels_i j ≤ levels_i i + b) (expand_i i ms)
    grown_i (leaf k x) = omega arith
    grown_i (struct f) = then (λ g. levels_f g ≤ levels_f f + b) (λ j. levels_i j ≤ levels_f f + b) (expand_f f ms) (λ g. done (struct g)) (grown_f f) (λ g h. h)
    grown_i (choice s k f) = then (λ g. levels_c g ≤ levels_c f + b) (λ j. levels_i j ≤ levels_c f + b) (expand_c f ms) (λ g. done (choice s k g)) (grown_c f) (λ g h. h)
    grown_i (shell x c) = then (λ d. levels d ≤ levels c + b) (λ j. levels_i j ≤ levels c + b) (expand c ms) (λ d. done (shell x d)) (grown c) (λ d h. h)
    grown_i (bytes l) = omega arith
    grown_i (invocation n xs) = omega arith
    grown_i (macro_invocation n xs) = put_in n xs

    grown_f : (f : Fields) → All (λ g. levels_f g ≤ levels_f f + b) (expand_f f ms)
    grown_f no_field = omega arith
    grown_f (field k l c f) =
        then (λ d. levels d ≤ levels c + b) (λ g. levels_f g ≤ levels_f (field k l c f) + b) (expand c ms) (λ d. expand_f f ms >>= λ g. done (field k l d g)) (grown c)
        (λ d h. then (λ g. levels_f g ≤ levels_f f + b) (λ g. levels_f g ≤ levels_f (field k l c f) + b) (expand_f f ms) (λ g. done (field k l d g)) (grown_f f) (λ g e. omega arith))
    grown_f (const l x f) = then (λ g. levels_f g ≤ levels_f f + b) (λ g. levels_f g ≤ levels_f f + b) (expand_f f ms) (λ g. done (const l x g)) (grown_f f) (λ g h. h)

    grown_c : (f : Cases) → All (λ g. levels_c g ≤ levels_c f + b) (expand_c f ms)
    grown_c no_case = omega arith
    grown_c (case l c f) =
        then (λ d. levels d ≤ levels c + b) (λ g. levels_c g ≤ levels_c (case l c f) + b) (expand c ms) (λ d. expand_c f ms >>= λ g. done (case l d g)) (grown c)
        (λ d h. then (λ g. levels_c g ≤ levels_c f + b) (λ g. levels_c g ≤ levels_c (case l c f) + b) (expand_c f ms) (λ g. done (case l d g)) (grown_c f) (λ g e. omega arith))
