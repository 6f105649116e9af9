-- How many parameters meet an argument.
use Rattle.std.specs.Prelude.{◌≡◌, List, ℕ, ◌≤◌, min, length}
use Rattle.definition.specs.Tree.{Name, Inners, macro_invocation, macro}
use Rattle.definition.specs.Write.{w_inner, w_definition, count_a}
use Rattle.definition.specs.Size.{levels}
use Rattle.definition.specs.Macros.{Macro}
use Rattle.layout.specs.items.Here.{Here}

-- the definition of a macro stands at a place
pub record Defined (s : List ℕ) (at : ℕ) (m : Macro) : Type 0 where
  pub rest : List ℕ
  pub here : Here s at (w_definition (macro m.name m.params m.body) rest)
  pub deep : levels m.body ≤ 64

-- rule 4: "Parameters and arguments are paired from the front; extra ones on either side are ignored."
pub record Paired (macros : List ℕ) (def : ℕ) (book : List ℕ) (call r : ℕ) : Type 0 where
  pub says : (m : Macro) → Defined macros def m → (n : Name) (xs : Inners) (z : List ℕ) → Here book call (w_inner (macro_invocation n xs) z) → r ≡ min (length m.params) (count_a xs)
