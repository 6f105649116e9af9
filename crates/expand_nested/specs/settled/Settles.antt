-- What the test for known macro calls says of the trees that stand in the bytes.
use Rattle.std.specs.Prelude.{◌≡◌, List, [], Bool, not, ℕ, length}
use Rattle.definition.specs.Tree.{Combinator, Definition}
use Rattle.definition.specs.Write.{w_book}
use Rattle.definition.specs.Macros.{Macro, macros}
use Rattle.nested.specs.Nested.{every_macro_call, is_macro, settled}
use Rattle.laws.specs.Book.{IsBook}
use Rattle.walker.specs.bodies.Tested.{FormatTested, DefinitionTested, BodiesTested}
use Rattle.expand_macros.specs.declared.known_macros.Macros.{Macros}
use Rattle.expand_macros.specs.known_macros.Table.{RowsOf}

-- no known macro call stands in a body where the pass reaches
unfoldable pub calm : List Macro → Combinator → Bool
calm ms c = every_macro_call c (λ n. not (is_macro ms n))

-- a pass over the book with the macros of lib in a table: what it says holds where the rows are these macros'
pub record FormatSettles (t : Macros) (book : List ℕ) (at : ℕ) (marks : List ℕ) (r : Bool) : Type 0 where
  pub says : (ms : List Macro) → RowsOf t ms → FormatTested book at (calm ms) (length marks) r

pub record DefinitionSettles (t : Macros) (book : List ℕ) (kind at : ℕ) (marks : List ℕ) (r : Bool) : Type 0 where
  pub says : (ms : List Macro) → RowsOf t ms → DefinitionTested book kind at (calm ms) (length marks) r

pub record BodiesSettle (t : Macros) (book marks : List ℕ) (r : Bool) : Type 0 where
  pub says : (ms : List Macro) → RowsOf t ms → BodiesTested book (calm ms) (length marks) r

-- document 02 b: "until no known macro call stands where the pass reaches"
pub record Settles (lib book : List ℕ) (r : Bool) : Type 0 where
  pub says : (ms ds : List Definition) → lib ≡ w_book ms → IsBook ms → book ≡ w_book ds → IsBook ds → r ≡ settled (macros ms []) ds
