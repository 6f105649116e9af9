-- Levels of macros and of calls.
use Rattle.std.specs.Prelude.{List, [], ◌∷◌, ◌≤◌}
use Rattle.definition.specs.Size.{levels, levels_a}
use Rattle.definition.specs.Macros.{Macro}
use Rattle.walker.specs.pieces.Pieces.{Piece, raw, call, macro_call}

-- "At most 64 levels."
abbrev pub DeepM : List Macro → Type 0
DeepM [] = Unit {0}
DeepM (m ∷ ms) = (levels m.body ≤ 64) × DeepM ms

abbrev pub DeepP : List Piece → Type 0
DeepP [] = Unit {0}
DeepP (raw b ∷ ps) = DeepP ps
DeepP (call n a ∷ ps) = DeepP ps
DeepP (macro_call n a ∷ ps) = (levels_a a ≤ 64) × DeepP ps
