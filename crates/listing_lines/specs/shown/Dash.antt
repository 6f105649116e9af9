-- The name that prints as another than itself. Document 01, "Premise test and listing".
use Rattle.std.specs.Prelude.{List, [], ◌∷◌, Bool, false, ℕ, eqb}

-- the name "-"
unfoldable pub is_dash_of : List ℕ → Bool
is_dash_of [] = false
is_dash_of (b ∷ []) = eqb b 45
is_dash_of (b ∷ c ∷ s) = false
