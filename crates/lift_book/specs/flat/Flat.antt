-- Demand 3's "no struct, choice, enum or bits stands below the root of a definition's body, macro arguments aside" as a test. That it is demand 3's `Flat` is shown in proofs/Still.antt.
use Rattle.std.specs.Prelude.{Bool, true, false, not, ◌&&◌}
use Rattle.definition.specs.Tree.{Combinator, plain, chained, Inner, leaf, struct, choice, shell, bytes, invocation, macro_invocation, Fields, no_field, field, const, Cases, no_case, case}
use Rattle.definition.specs.Collect.{anonymous_leaf}

-- none of these stands in a combinator, at its root or below
unfoldable mutual
  pub calm : Combinator → Bool
  calm (plain i) = calm_i i
  calm (chained i c) = calm_i i && calm c

  pub calm_i : Inner → Bool
  calm_i (leaf k x) = not (anonymous_leaf k)
  calm_i (struct f) = false
  calm_i (choice s k f) = false
  calm_i (shell x c) = calm c
  calm_i (bytes l) = true
  calm_i (invocation n a) = true
  calm_i (macro_invocation n a) = true

unfoldable pub calm_f : Fields → Bool
calm_f no_field = true
calm_f (field k l c f) = calm c && calm_f f
calm_f (const l x f) = calm_f f

unfoldable pub calm_c : Cases → Bool
calm_c no_case = true
calm_c (case l c f) = calm c && calm_c f

-- one of them may be the root
unfoldable pub flat_i : Inner → Bool
flat_i (leaf k x) = true
flat_i (struct f) = calm_f f
flat_i (choice s k f) = calm_c f
flat_i (shell x c) = calm c
flat_i (bytes l) = true
flat_i (invocation n a) = true
flat_i (macro_invocation n a) = true

unfoldable pub flat : Combinator → Bool
flat (plain i) = flat_i i
flat (chained i c) = flat_i i && calm c
