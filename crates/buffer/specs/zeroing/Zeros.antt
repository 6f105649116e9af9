-- So many zeros, and whether there is anything else.
-- Assumes nothing.
use Rattle.std.specs.Prelude.{Bool, true, false, cond, List, [], ◌∷◌, ℕ, eqb, replicate}

abbrev pub zeros : ℕ → List ℕ
zeros n = replicate n 0

-- whether an entry is not 0
unfoldable pub some_in_of : List ℕ → Bool
some_in_of [] = false
some_in_of (k ∷ ks) = cond (eqb k 0) (some_in_of ks) true
