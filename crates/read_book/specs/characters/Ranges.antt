-- What the code keeps of a character that has begun, as the rows of ranges that crate `definition` has for it.
use Rattle.std.specs.Prelude.{List, [], ◌∷◌, ℕ, zero, suc}
use Rattle.definition.specs.Utf8.{Range, range}
use Rattle.read_book.specs.declared.characters.Awaits.{Awaits}

unfoldable pub ranges_by : ℕ → Range → List Range
ranges_by zero r = []
ranges_by (suc n) r = r ∷ ranges_by n (range 0x80 0xBF)

-- so many bytes, "the next one from low to high and the others from 80 to BF"
abbrev pub ranges : Awaits → List Range
ranges a = ranges_by a.left (range a.low a.high)
