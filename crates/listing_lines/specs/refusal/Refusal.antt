-- The line of a refusal. Document 01, "Premise test and listing".
use Rattle.std.specs.Prelude.{List, [], ◌∷◌, ◌++◌, ℕ}
use Rattle.definition.specs.Listing.{count, placed}

-- "`refused N`", or "`refused N at P`"
unfoldable pub refusal : ℕ → ℕ → List ℕ
refusal n p = (114 ∷ 101 ∷ 102 ∷ 117 ∷ 115 ∷ 101 ∷ 100 ∷ []) ++ count n ++ placed n p ++ (10 ∷ [])
