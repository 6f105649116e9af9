-- Without macros nothing is expanded.
use mathlib.Core.Path.{◌≡◌, refl}
use mathlib.Core.List.{[]}
use Rattle.definition.specs.Out.{done}
use Rattle.definition.specs.Tree.{Combinator, plain, chained, Inner, leaf, struct, choice, shell, bytes, invocation, macro_invocation, Fields, no_field, field, const, Cases, no_case, case}
use Rattle.definition.specs.Macros.{expand_macro, expand, expand_i, expand_f, expand_c}

mutual
  unfolding expand expand_macro

  pub none_known : (c : Combinator) → expand c [] ≡ done c
  none_known (plain i) = rw (none_known_i i)
  none_known (chained i c) = rw (none_known c, none_known_i i)

  none_known_i : (i : Inner) → expand_i i [] ≡ done i
  none_known_i (leaf k x) = refl
  none_known_i (struct f) = rw (none_known_f f)
  none_known_i (choice s k f) = rw (none_known_c f)
  none_known_i (shell x c) = rw (none_known c)
  none_known_i (bytes l) = refl
  none_known_i (invocation n a) = refl
  none_known_i (macro_invocation n a) = refl

  none_known_f : (f : Fields) → expand_f f [] ≡ done f
  none_known_f no_field = refl
  none_known_f (field k l c f) = rw (none_known c, none_known_f f)
  none_known_f (const l x f) = rw (none_known_f f)

  none_known_c : (f : Cases) → expand_c f [] ≡ done f
  none_known_c no_case = refl
  none_known_c (case l c f) = rw (none_known c, none_known_c f)
