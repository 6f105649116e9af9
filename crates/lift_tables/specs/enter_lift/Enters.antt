-- What one lift does to the tables.
use Rattle.std.specs.Prelude.{List, ◌≡◌, Result, ℕ, ◌+◌, set}
use Rattle.definition.specs.Tree.{Name}
use Rattle.what_comes_back.specs.declared.Code.{Code}
use Rattle.lift_tables.specs.enter_lift.Bound.{Bound}
use Rattle.name_table.specs.taken.Taken.{Took}
use Rattle.lift_tables.specs.enter_lift.Sheet.{sheet_of, enters, Tables, with_row, Gives}
use Rattle.lift_tables.specs.declared.enter_lift.Counts.{Counts}
use Rattle.lift_tables.specs.declared.enter_lift.Lifted.{Lifted}

-- the row, the number at its place and the name of lift number `w.lifts`, which has k parameters
pub record Adds (s : List ℕ) (n : Name) (at end k : ℕ) (made places ways hints rows number : List ℕ) (w : Counts) (bytes : ℕ) (made' places' ways' hints' rows' number' : List ℕ) (v : Counts) : Type 0 where
  pub row : rows' ≡ with_row rows w.lifts at end w.end w.params k
  pub numbered : number' ≡ set number at (w.lifts + 1)
  pub took : Took n s made w.end places ways hints w.taken made' places' ways' hints' v.end
  pub counted : (v.taken ≡ w.taken + 1) × (v.lifts ≡ w.lifts + 1) × (v.params ≡ w.params + k) × (v.bytes ≡ bytes) × (v.defns ≡ w.defns + 1)

pub record Enters (s : List ℕ) (at end : ℕ) (n : Name) (ns : List Name) (env : List Bound) (made places rows params number : List ℕ) (w : Counts) (made' places' ways' hints' rows' params' number' : List ℕ) (r : Result Lifted Code) : Type 0 where
  pub gives : (finished : List ℕ) → Gives (enters at end n ns env (sheet_of s made places rows params finished w)) r (λ v. sheet_of s made' places' rows' params' finished v)
      (λ v. Tables s made' places' ways' hints' rows' params' v × (number' ≡ set number at (w.lifts + 1)) × (v.lifts ≡ w.lifts + 1))
