-- What holds of the tables between two steps of the pass.
use Rattle.std.specs.Prelude.{◌≡◌, List, ℕ, ◌≤◌, ◌<◌, length, get_or}
use Rattle.lift_tables.specs.tables.Rows.{rows_of, last_from}
use Rattle.lift_tables.specs.declared.enter_lift.Counts.{Counts}
use Rattle.lift_tables.specs.enter_lift.Sheet.{Tables}

-- `number` by place, and the first n entries of `order`
abbrev pub Numbered : List ℕ → List ℕ → List ℕ → List ℕ → List ℕ → ℕ → Type 0
Numbered s made rows params number lifts = (p : ℕ) → p < length s → get_or number p 0 ≡ last_from (rows_of s made rows params lifts) 0 p

-- what holds between bodies
pub record Good (s made places ways hints rows params number order : List ℕ) (w : Counts) (n : ℕ) : Type 0 where
  pub tables : Tables s made places ways hints rows params w
  pub number_long : length s ≤ length number
  pub numbered : Numbered s made rows params number w.lifts
  pub order_long : 512 ≤ length order
  pub finished : n ≤ w.lifts
