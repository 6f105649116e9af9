-- Lists of names and of definitions, as the laws speak of them.
use Rattle.std.specs.Prelude.{◌≡◌, List, [], ◌∷◌, false}
use Rattle.definition.specs.Tree.{Name, Param, Definition, format, constant, byte_order, macro}
use Rattle.definition.specs.Names.{elem}

abbrev pub param_names : List Param → List Name
param_names [] = []
param_names (p ∷ ps) = p.name ∷ param_names ps

-- each name once
abbrev pub Distinct : List Name → Type 0
Distinct [] = Unit {0}
Distinct (n ∷ ns) = (elem n ns ≡ false) × Distinct ns

-- no kind 4 definition is left
abbrev pub NoMacro : List Definition → Type 0
NoMacro [] = Unit {0}
NoMacro (format n ps c ∷ ds) = NoMacro ds
NoMacro (constant n x ∷ ds) = NoMacro ds
NoMacro (byte_order x ∷ ds) = NoMacro ds
NoMacro (macro n ps c ∷ ds) = ⊥
