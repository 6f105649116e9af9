-- A table with one theorem over it.
use Rattle.std.specs.Prelude.{◌≡◌, List, [], ◌∷◌}

-- every row of a table comes out as it is written
infixr 10 ◌&◌
pub data Each {Row Seen : Type 0} (seen expected : Row → Seen) : List Row → Type 0 where
  all : Each seen expected []
  ◌&◌ : {r : Row} {rs : List Row} → seen r ≡ expected r → Each seen expected rs → Each seen expected (r ∷ rs)
