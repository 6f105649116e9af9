-- The naming pass over all definitions in order.
use Rattle.std.specs.Prelude.{◌≡◌, List, ℕ, take, Result}
use Rattle.definition.specs.Tree.{Definition}
use Rattle.definition.specs.Write.{w_book}
use Rattle.laws.specs.Book.{IsBook}
use Rattle.lifting.specs.After.{first_at}
use Rattle.lift_tables.specs.declared.enter_lift.Counts.{Counts}
use Rattle.lift_tables.specs.enter_lift.Sheet.{sheet_of}
use Rattle.expand_definitions.specs.walked.Book.{walk_all}
use Rattle.expand_combinator.specs.declared.body.Named.{Named}
use Rattle.what_comes_back.specs.declared.Code.{Code}
use Rattle.expand_definitions.specs.format.Formats.{EndsIn}

pub record InOrder (s : List ℕ) (made places rows params order : List ℕ) (w : Counts) (made' places' ways' hints' rows' params' number' order' : List ℕ) (r : Result Named Code) : Type 0 where
  pub says : (ds : List Definition) → s ≡ w_book ds → IsBook ds
      → EndsIn (walk_all ds (first_at ds) (sheet_of s made places rows params (take 0 order) w)) s made' places' ways' hints' rows' params' number' order' r
