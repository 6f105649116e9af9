-- Where a name stands, and its bytes.
-- Assumes nothing.
use Rattle.std.specs.Prelude.{ℕ, ◌+◌, ◌-◌, cond, ltb, List, take, drop, get_or}
use Rattle.definition.specs.Tree.{Name}
use Rattle.layout.specs.declared.lookup.Place.{Place}
use Rattle.layout.specs.declared.lookup.Place.TheVariants.{Source, Made}

-- "`name` = one length byte, then that many bytes", as far as the list reaches
unfoldable pub name_at : List ℕ → ℕ → Name
name_at s at = take (get_or s at 0) (drop (at + 1) s)

-- "a name's bytes are handed back as part of the book or of the work area"
unfoldable pub name_of : Place → List ℕ → List ℕ → Name
name_of (Source at) book made = name_at book at
name_of (Made at) book made = name_at made at

-- a place in 16 bits, as a table keeps it: those of the book as they are, those among the generated names from 32,768 on
unfoldable pub place_of : ℕ → Place
place_of code = cond (ltb code 32768) (Source code) (Made (code - 32768))
