-- What the elaboration of an expanded book asks of the tables that are lent to it.
use Rattle.std.specs.Prelude.{◌≡◌, List, ℕ, ◌≤◌, length, get_or}
use Rattle.walker.specs.ends.Ends.{Right}
use Rattle.lift_combinator.specs.naming.Lifts.{Scratch}

-- tables that are long enough for the book: its ends are right, and no place has a number yet
pub record Lent (s ends number binders bound uses spare : List ℕ) : Type 0 where
  pub right : Right s ends
  pub long : length s ≤ length number
  pub blank : (p : ℕ) → get_or number p 0 ≡ 0
  pub binders_long : length s ≤ length binders
  pub scratch : Scratch s bound uses spare
