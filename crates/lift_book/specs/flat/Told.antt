-- What is told of a book.
use Rattle.std.specs.Prelude.{◌≡◌, List, Bool, ℕ}
use Rattle.definition.specs.Tree.{Definition}
use Rattle.definition.specs.Write.{w_book}
use Rattle.definition.specs.Bodies.{every_body}
use Rattle.laws.specs.Book.{IsBook}
use Rattle.lift_book.specs.flat.Flat.{flat}

pub record Told (s : List ℕ) (r : Bool) : Type 0 where
  pub says : (ds : List Definition) → s ≡ w_book ds → IsBook ds → r ≡ every_body flat ds
