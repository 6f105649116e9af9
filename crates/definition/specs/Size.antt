-- Sizes and levels: "Layout, sizes and codes 3 to 5 take a body as all its bytes".
use Rattle.std.specs.Prelude.{List, [], ◌∷◌, ℕ, suc, max, length}
use Rattle.definition.specs.Tree.{Combinator, plain, chained, Inner, leaf, struct, choice, shell, bytes, invocation, macro_invocation, Fields, no_field, field, const, Cases, no_case, case, Inners, no_inner, inner, Param, Definition, format, constant, byte_order, macro}
use Rattle.definition.specs.Write.{w_combinator, w_book}

-- how many bytes are written
unfoldable pub size : Combinator → ℕ
size c = length (w_combinator c [])

unfoldable pub size_book : List Definition → ℕ
size_book ds = length (w_book ds)

-- "a body's root and a parameter's type are level 1; each combinator or macro argument directly inside, and each chain, is one deeper":
-- the deepest level in a combinator whose root is at level 1, and in what stands below the root
unfoldable mutual
  pub levels : Combinator → ℕ
  levels (plain i) = suc (levels_i i)
  levels (chained i c) = suc (max (levels_i i) (levels c))

  pub levels_i : Inner → ℕ
  levels_i (leaf k x) = 0
  levels_i (struct f) = levels_f f
  levels_i (choice s k f) = levels_c f
  levels_i (shell x c) = levels c
  levels_i (bytes l) = 0
  levels_i (invocation n a) = 0
  levels_i (macro_invocation n a) = levels_a a

  pub levels_f : Fields → ℕ
  levels_f no_field = 0
  levels_f (field k l c f) = max (levels c) (levels_f f)
  levels_f (const l t f) = levels_f f

  pub levels_c : Cases → ℕ
  levels_c no_case = 0
  levels_c (case l c f) = max (levels c) (levels_c f)

  pub levels_a : Inners → ℕ
  levels_a no_inner = 0
  levels_a (inner i f) = max (suc (levels_i i)) (levels_a f)

unfoldable pub levels_p : List Param → ℕ
levels_p [] = 0
levels_p (p ∷ ps) = max (suc (levels_i p.type)) (levels_p ps)

unfoldable pub levels_book : List Definition → ℕ
levels_book [] = 0
levels_book (format n ps c ∷ ds) = max (max (levels_p ps) (levels c)) (levels_book ds)
levels_book (constant n x ∷ ds) = levels_book ds
levels_book (byte_order x ∷ ds) = levels_book ds
levels_book (macro n ps c ∷ ds) = max (levels c) (levels_book ds)
