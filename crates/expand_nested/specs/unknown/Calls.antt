-- The calls that are marked.
use Rattle.std.specs.Prelude.{◌≡◌, List, Bool, true, not, ℕ, eqb}
use Rattle.definition.specs.Macros.{Macro}
use Rattle.nested.specs.Nested.{is_macro}
use Rattle.layout.specs.items.At.{byte_at, past_at, pick}
use Rattle.layout.specs.lookup.Name.{name_at}
use Rattle.walker.specs.pieces.Marked.{every_place}
use Rattle.expand_macros.specs.declared.known_macros.Macros.{Macros}
use Rattle.expand_macros.specs.known_macros.Table.{RowsOf}

-- "no known macro call": the call at a place is none
unfoldable pub unknown_at : List Macro → List ℕ → ℕ → Bool
unknown_at ms s at = pick (eqb (byte_at s at) 16) (not (is_macro ms (name_at s (past_at s at 1)))) true

-- the calls in a book, with the macros of lib in a table: what is said of them holds where the rows are these macros'
pub record UnknownAt (t : Macros) (book : List ℕ) (call : ℕ) (r : Bool) : Type 0 where
  pub says : (ms : List Macro) → RowsOf t ms → r ≡ unknown_at ms book call

pub record AllUnknown (t : Macros) (book marks : List ℕ) (r : Bool) : Type 0 where
  pub says : (ms : List Macro) → RowsOf t ms → r ≡ every_place (unknown_at ms book) marks
