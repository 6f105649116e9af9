-- The names taken so far. Each has a row that keeps its place and a number below which all of its numbered names are known to be taken, and a way leads to it. A row only remembers: what it says is right.
-- Assumes nothing.
use Rattle.std.specs.Prelude.{◌≡◌, List, [], ◌∷◌, true, ℕ, zero, suc, ◌+◌, ◌*◌, ◌≤◌, ◌<◌, length, get_or, set}
use Rattle.definition.specs.Tree.{Name}
use Rattle.definition.specs.Names.{elem, numbered}
use Rattle.layout.specs.declared.lookup.Place.{Place}
use Rattle.layout.specs.declared.lookup.Place.TheVariants.{Source, Made}
use Rattle.layout.specs.lookup.Name.{name_at, name_of, place_of}
use Rattle.buffer.specs.writes.Buf.{put, name_bytes}
use Rattle.name_table.specs.forks.Forks.{slot_of, Apart, entered_at}
use Rattle.name_table.specs.forks.Leads.{row_of, Leads}

-- "source names from the book, generated names from the work area"
pub record Store : Type 0 where
  pub book : List ℕ
  pub made : List ℕ

abbrev pub both : List ℕ → List ℕ → Store
both b m = record { book = b; made = m }

-- a row's name, and the names of the first n rows, the last taken first as in the definition
unfoldable pub row : Store → List ℕ → ℕ → Name
row names places i = name_of (place_of (get_or places i 0)) names.book names.made

unfoldable pub taken : Store → List ℕ → ℕ → List Name
taken names places zero = []
taken names places (suc n) = row names places n ∷ taken names places n

-- each name's way leads to the first row of that name, and no name is longer than 255 bytes
pub record Table (names : Store) (places ways : List ℕ) (n : ℕ) : Type 0 where
  pub places_long : n ≤ length places
  pub leads : Leads (row names places) ways n
  pub short : (i : ℕ) → i < n → length (row names places i) ≤ 255

-- of each name the numbered ones below its hint are taken
pub record Hints (names : Store) (places hints : List ℕ) (n : ℕ) : Type 0 where
  pub hints_long : n ≤ length hints
  pub low : (i : ℕ) → i < n → get_or hints i 0 ≤ n
  pub tried : (i j : ℕ) → i < n → j < get_or hints i 0 → elem (numbered (row names places i) j) (taken names places n) ≡ true

-- the generated names stand before the place where the next one goes
unfoldable pub Inside : Place → List ℕ → ℕ → Type 0
Inside (Source at) made end = Unit
Inside (Made at) made end = at + 1 + get_or made at 0 ≤ end

pub record Packed (made places : List ℕ) (n end : ℕ) : Type 0 where
  pub room : end ≤ length made
  pub inside : (i : ℕ) → i < n → Inside (place_of (get_or places i 0)) made end

-- all of the first n names stand in the book
pub record Sourced (places : List ℕ) (n : ℕ) : Type 0 where
  pub low : (i : ℕ) → i < n → get_or places i 0 < 32768

-- the way of a name to row n
pub record Entered (name : Name) (names : Store) (places : List ℕ) (n : ℕ) (ways ways' : List ℕ) : Type 0 where
  pub holds : ways' ≡ entered_at ways name (row names places (row_of ways name n)) (slot_of ways name n) n
  pub apart : (get_or ways (slot_of ways name n) 0 ≡ 0 → ⊥) → Apart name (row names places (row_of ways name n))

-- a name more
pub record Grown (name : Name) (names : Store) (places ways : List ℕ) (n : ℕ) (names' : Store) (places' ways' : List ℕ) : Type 0 where
  pub taken_is : taken names' places' (n + 1) ≡ name ∷ taken names places n
  pub table : Table names' places' ways' (n + 1)

-- "A lifted name is taken": what the buffers hold then
pub record Took (name : Name) (book made : List ℕ) (end : ℕ) (places ways hints : List ℕ) (n : ℕ) (made' places' ways' hints' : List ℕ) (r : ℕ) : Type 0 where
  pub next : r ≡ end + 1 + length name
  pub made_holds : made' ≡ put made end (name_bytes name)
  pub places_hold : places' ≡ set places n (32768 + end)
  pub ways_long : length ways' ≡ length ways
  pub hints_hold : hints' ≡ set hints n 0
  pub packed : Packed made places n end → Packed made' places' (n + 1) r
  pub grown : 256 + 2 * (n + 1) ≤ length ways → Table (both book made) places ways n → Packed made places n end → Grown name (both book made) places ways n (both book made') places' ways'
  pub hinted : 256 + 2 * (n + 1) ≤ length ways → Table (both book made) places ways n → Hints (both book made) places hints n → Packed made places n end → Hints (both book made') places' hints' (n + 1)

-- a name that stands in the book, where all that have a row stand
pub record Listed (book : List ℕ) (at : ℕ) (places ways : List ℕ) (n : ℕ) (places' ways' : List ℕ) : Type 0 where
  pub places_hold : places' ≡ set places n at
  pub ways_long : length ways' ≡ length ways
  pub grown : 256 + 2 * (n + 1) ≤ length ways → Table (both book []) places ways n → Grown (name_at book at) (both book []) places ways n (both book []) places' ways'
