-- A definition's own parameters as binders, by place.
use Rattle.std.specs.Prelude.{◌≡◌, List, ℕ, ◌+◌, ◌*◌, ◌≤◌, length}
use Rattle.definition.specs.Tree.{Param}
use Rattle.definition.specs.Write.{w_param, w_list}
use Rattle.definition.specs.Size.{levels_p}
use Rattle.layout.specs.items.Here.{Here}
use Rattle.lift_tables.specs.enter_lift.Bound.{bound_from, Sized}
use Rattle.expand_definitions.specs.walked.Book.{own_bound}

-- parameters stand at a place: a count, and as many names and types
pub record Params (s : List ℕ) (at : ℕ) : Type 0 where
  pub of : List Param
  pub after : List ℕ
  pub is : Here s at (w_list w_param of after)
  pub deep : levels_p of ≤ 64

-- the first b binders are the parameters whose first begins at a place; each takes four bytes or more of what stands before r
pub record Binds (s : List ℕ) (first : ℕ) (ps : List Param) (after binders : List ℕ) (b r : ℕ) : Type 0 where
  pub rest : Here s r after
  pub bound : bound_from s binders 0 b ≡ own_bound ps first
  pub few : 4 * b ≤ r
  pub sized : Sized binders b

pub record Own (s : List ℕ) (at : ℕ) (binders' : List ℕ) (r : ℕ) : Type 0 where
  pub says : (ps : List Param) (after : List ℕ) → Here s at (w_list w_param ps after) → levels_p ps ≤ 64 → Binds s (at + 2) ps after binders' (length ps) r
