-- What a lookup among the names taken finds.
-- Assumes nothing.
use Rattle.std.specs.Prelude.{◌≡◌, List, true, false, Option, IfSome, unwrap_or, ℕ, ◌<◌}
use Rattle.definition.specs.Tree.{Name}
use Rattle.definition.specs.Names.{eq_name}
use Rattle.name_table.specs.taken.Taken.{Store, row}

-- the first row of a name, or none
pub record Found (name : Name) (names : Store) (places : List ℕ) (n : ℕ) (r : Option ℕ) : Type 0 where
  pub bound : IfSome r (λ i. i < n)
  pub before : (j : ℕ) → j < unwrap_or r n → eq_name name (row names places j) ≡ false
  pub here : IfSome r (λ i. eq_name name (row names places i) ≡ true)
