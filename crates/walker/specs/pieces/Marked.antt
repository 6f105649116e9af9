-- The marks that the walker leaves: the place and the end of each call.
use Rattle.std.specs.Prelude.{List, [], ◌∷◌, Bool, true, ◌&&◌, ℕ}

-- every marked place passes a test
unfoldable pub every_place : (ℕ → Bool) → List ℕ → Bool
every_place test [] = true
every_place test (a ∷ []) = true
every_place test (a ∷ (e ∷ marks)) = test a && every_place test marks
