-- The table of a segment's letters.
-- Assumes nothing.
use Rattle.std.specs.Prelude.{List, [], ◌∷◌, cond, ℕ, eqb}

-- what an entry of the table stands for: 0 for none
unfoldable pub kept : ℕ → List ℕ
kept x = cond (eqb x 0) [] (x ∷ [])
