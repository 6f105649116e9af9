-- The definitions of some kinds in rows: those of formats and constants, whose names are taken at the start and may be called, and those of macros.
use Rattle.std.specs.Prelude.{◌≡◌, List, [], ◌∷◌, ◌&&◌, ℕ, ◌+◌, ◌-◌, ◌*◌, ◌≤◌, ◌<◌, leb, length, get_or}
use Rattle.definition.specs.Tree.{Name, Definition}
use Rattle.definition.specs.Write.{w_definition, kind_of, kind_byte, w_book}
use Rattle.definition.specs.Size.{levels_book}
use Rattle.laws.specs.Book.{IsBook}
use Rattle.layout.specs.items.At.{pick}
use Rattle.layout.specs.items.Here.{Here}
use Rattle.name_table.specs.forks.Leads.{Clear}
use Rattle.name_table.specs.taken.Taken.{both, taken, Table, Sourced}
use Rattle.walker.specs.definitions.Listed.{Listed}

-- the definitions of the kinds from low to high
unfoldable pub keep : ℕ → ℕ → Definition → List Definition → List Definition
keep low high d ds = pick (leb low (kind_byte (kind_of d)) && leb (kind_byte (kind_of d)) high) (d ∷ ds) ds

unfoldable pub of_kinds : ℕ → ℕ → List Definition → List Definition
of_kinds low high [] = []
of_kinds low high (d ∷ ds) = keep low high d (of_kinds low high ds)

-- a definition stands at a place
pub record Stands (s : List ℕ) (at : ℕ) (d : Definition) : Type 0 where
  pub rest : List ℕ
  pub here : Here s at (w_definition d rest)
  pub deep : levels_book (d ∷ []) ≤ 64

-- the first n rows are those of these definitions, the last first
unfoldable pub InRows : List ℕ → List ℕ → ℕ → List Definition → Type 0
InRows s places n [] = n ≡ 0
InRows s places n (d ∷ ds) = (0 < n) × Stands s (get_or places (n - 1) 0) d × InRows s places (n - 1) ds

-- the first n rows are right: all names stand in the book
pub record Rows (s places ways : List ℕ) (n : ℕ) : Type 0 where
  pub table : Table (both s []) places ways n
  pub sourced : Sourced places n

-- the names in the first n rows, the last first
abbrev pub row_names : List ℕ → List ℕ → ℕ → List Name
row_names s places n = taken (both s []) places n

-- there is room for so many rows
pub record Room (places ways : List ℕ) (n : ℕ) : Type 0 where
  pub places_long : n ≤ length places
  pub ways_long : 256 + 2 * n ≤ length ways

-- a definition more, from the last to the first
pub record Takes (s : List ℕ) (entry low high : ℕ) (places ways : List ℕ) (n : ℕ) (places' ways' : List ℕ) (r : ℕ) : Type 0 where
  pub one : r ≤ n + 1
  pub right : Rows s places ways n → Rows s places' ways' r
  pub says : (at : ℕ) (d : Definition) (ds : List Definition) → Listed s entry at (d ∷ ds) → length s ≤ 16384 → n < 512 → Room places ways (n + 1) → (xs : List Definition) → InRows s places n xs → InRows s places' r (keep low high d xs)

-- "all kind 1 and 2 names"; rule 1's macros
pub record OfKinds (s : List ℕ) (low high : ℕ) (places ways places' ways' : List ℕ) (r : ℕ) : Type 0 where
  pub right : Clear ways → 256 ≤ length ways → Rows s places' ways' r
  pub says : (ds : List Definition) → s ≡ w_book ds → IsBook ds → Room places ways 512 → InRows s places' r (of_kinds low high ds) × (r ≤ length ds)
