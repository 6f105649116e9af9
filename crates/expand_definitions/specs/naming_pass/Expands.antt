-- The naming pass over a book: what it asks of the tables, and what they hold afterwards.
use Rattle.std.specs.Prelude.{◌≡◌, List, ℕ, ◌≤◌, length, take, get_or, Result}
use Rattle.definition.specs.Tree.{Definition}
use Rattle.definition.specs.Write.{w_book}
use Rattle.laws.specs.Book.{IsBook}
use Rattle.what_comes_back.specs.Elaborates.{Expanded}
use Rattle.lift_tables.specs.enter_lift.Sheet.{sheet_of}
use Rattle.expand_definitions.specs.walked.Book.{walk_book}
use Rattle.expand_combinator.specs.declared.body.Named.{Named}
use Rattle.what_comes_back.specs.declared.Code.{Code}
use Rattle.expand_combinator.specs.open_child.Good.{Good}
use Rattle.expand_combinator.specs.body.Walks.{Ends}

-- the expanded book, and tables that are long enough; no place has a number yet
pub record Starts (s made rows params number order : List ℕ) : Type 0 where
  pub book : Expanded s
  pub made_long : 8192 ≤ length made
  pub rows_long : 2560 ≤ length rows
  pub params_long : 13108 ≤ length params
  pub number_long : length s ≤ length number
  pub order_long : 512 ≤ length order
  pub blank : (p : ℕ) → get_or number p 0 ≡ 0

-- the lifts that stand in the tables are those of the walk; the rows of names taken are gone when it is done
pub record Expands (s made' rows' params' number' order' : List ℕ) (r : Result Named Code) : Type 0 where
  pub places : List ℕ
  pub ways : List ℕ
  pub hints : List ℕ
  pub expands : (ds : List Definition) → s ≡ w_book ds → IsBook ds
      → Ends (walk_book ds) r (λ v n. sheet_of s made' places rows' params' (take n order') v) (λ v n. Good s made' places ways hints rows' params' number' order' v n)
