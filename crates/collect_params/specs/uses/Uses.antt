-- A use of a name is kept as one number: the place of the name's first byte, and how many bytes of it are meant.
-- Assumes nothing.
use Rattle.std.specs.Prelude.{List, map, Bool, ℕ, ◌+◌, ◌*◌, ◌/◌, ◌%◌, length, take, drop}
use Rattle.definition.specs.Tree.{Name}
use Rattle.definition.specs.Names.{root}
use Rattle.layout.specs.lookup.Name.{name_at}
use Rattle.layout.specs.items.At.{past_at, pick}

-- a place below 2 ^ 24 and a length below 256, in 32 bits
unfoldable pub use_of_of : ℕ → ℕ → ℕ
use_of_of place len = place % 16777216 * 256 + len % 256

-- the name that a use means, as far as s reaches
unfoldable pub name_in : List ℕ → ℕ → Name
name_in s x = take (x % 256) (drop (x / 256) s)

unfoldable pub names_in_of : List ℕ → List ℕ → List Name
names_in_of s l = map (name_in s) l

-- the use of the name whose length byte stands at a place: of all of it, or of "the part before the first '.'"
unfoldable pub use_at_of : List ℕ → ℕ → Bool → ℕ
use_at_of s at cut = use_of_of (past_at s at 1) (length (pick cut (root (name_at s at)) (name_at s at)))
