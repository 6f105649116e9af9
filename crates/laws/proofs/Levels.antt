-- Levels of lists of definitions, and levels against bytes.
use mathlib.Core.Path.{◌≡◌}
use mathlib.Core.List.{List, [], ◌∷◌, ◌++◌}
use Prim.Native.Nat.{ℕ, suc, ◌+◌, ◌≤◌, max}
use native.Mathlib.Omega.{arith}
use lib.ListN.{length}
use Rattle.definition.specs.Tree.{CaseKind, Combinator, plain, chained, Inner, leaf, struct, choice, shell, bytes, invocation, macro_invocation, Fields, no_field, field, const, Cases, no_case, case, Inners, no_inner, inner, Definition, format, constant, byte_order, macro}
use Rattle.definition.specs.Write.{w_u16, w_name, w_inner, w_inners, count_a}
use Rattle.definition.specs.Size.{size, levels, levels_i, levels_f, levels_c, levels_a, levels_book}
use Rattle.laws.specs.Book.{GoodAll}
use Rattle.laws.proofs.Splits.{s_name, s_inner}
use Rattle.laws.proofs.Sizes.{adds, size_i, size_f, size_c, size-plain, size-chained, size_struct, size_choice, size-shell, size-field, size_constant, size-case, open-some, size_i_some}

pub levels_append : (a b : List Definition) → levels_book (a ++ b) ≡ max (levels_book a) (levels_book b)
unfolding levels_book
levels_append [] b = omega arith
levels_append (format n ps c ∷ a) b = omega (arith, levels_append a b)
levels_append (constant n x ∷ a) b = levels_append a b
levels_append (byte_order x ∷ a) b = levels_append a b
levels_append (macro n ps c ∷ a) b = omega (arith, levels_append a b)

pub good_append : (a b : List Definition) → GoodAll a → GoodAll b → GoodAll (a ++ b)
good_append [] b f g = g
good_append (d ∷ a) b f g = (f.0, good_append a b f.1 g)

-- an inner has fewer levels than bytes
size_a : Inners → ℕ
size_a f = length (w_inners f [])

size_macro : (n : List ℕ) (a : Inners) → 3 + size_a a ≤ size_i (macro_invocation n a)
unfolding size_a size_i w_inner w_u16
size_macro n a = omega (arith, adds (w_name n) (s_name n) (w_u16 (count_a a) (w_inners a [])))

size_inner : (i : Inner) (f : Inners) → size_a (inner i f) ≡ size_i i + size_a f
unfolding size_a size_i w_inners
size_inner i f = adds (w_inner i) (s_inner i) (w_inners f [])

mutual
  unfolding levels

  few : (c : Combinator) → levels c ≤ size c
  few (plain i) = omega (arith, size-plain i, few_i i)
  few (chained i c) = omega (arith, size-chained i c, few_i i, few c)

  pub few_i : (i : Inner) → suc (levels_i i) ≤ size_i i
  few_i (leaf k x) = size_i_some (leaf k x)
  few_i (struct f) = omega (arith, size_struct f, few_f f)
  few_i (choice s k f) = omega (arith, size_choice s k f, few_c f k)
  few_i (shell x c) = omega (arith, size-shell x c, open-some x, few c)
  few_i (bytes l) = size_i_some (bytes l)
  few_i (invocation n a) = size_i_some (invocation n a)
  few_i (macro_invocation n a) = omega (arith, size_macro n a, few_a a)

  few_f : (f : Fields) → levels_f f ≤ size_f f
  few_f no_field = omega arith
  few_f (field k l c f) = omega (arith, size-field k l c f, few c, few_f f)
  few_f (const l x f) = omega (arith, size_constant l x f, few_f f)

  few_c : (f : Cases) (k : CaseKind) → levels_c f ≤ size_c f k
  few_c no_case k = omega arith
  few_c (case l c f) k = omega (arith, size-case l c f k, few c, few_c f k)

  few_a : (f : Inners) → levels_a f ≤ size_a f
  few_a no_inner = omega arith
  few_a (inner i f) = omega (arith, size_inner i f, few_i i, few_a f)
