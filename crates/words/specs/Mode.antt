-- The words of the program `listing`: none, or --nested for the mode of document 02 b. Any others get one line that names these.
use Rattle.std.specs.Prelude.{List, [], ◌∷◌, Bool, true, false, ℕ, ltb, Option, Some, None}
use Rattle.definition.specs.Names.{eq_name}
use Rattle.words.specs.declared.Mode.{Mode}
use Rattle.words.specs.declared.Mode.TheVariants.{Plain, Nested}

abbrev pick : Bool → Option Mode → Option Mode → Option Mode
pick true a b = a
pick false a b = b

-- "--nested"
abbrev pub w_nested : List ℕ
w_nested = 45 ∷ 45 ∷ 110 ∷ 101 ∷ 115 ∷ 116 ∷ 101 ∷ 100 ∷ []

-- the program's own name is one of the words
abbrev pub mode_of : ℕ → List ℕ → Option Mode
mode_of count word = pick (ltb count 2) (Some Plain) (pick (ltb 2 count) None (pick (eq_name word w_nested) (Some Nested) None))
