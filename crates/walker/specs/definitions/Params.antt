-- The place behind a format's parameters.
use Rattle.std.specs.Prelude.{◌≡◌, List, ℕ, ◌≤◌, length}
use Rattle.definition.specs.Tree.{Param}
use Rattle.definition.specs.Write.{w_param, w_all, w_list}
use Rattle.definition.specs.Size.{levels_i, levels_p}
use Rattle.layout.specs.items.Here.{Here}

pub record ParamPast (book : List ℕ) (at r : ℕ) : Type 0 where
  pub says : length book ≤ 16384 → (p : Param) (z : List ℕ) → Here book at (w_param p z) → levels_i p.type ≤ 64 → Here book r z

-- so many parameters
pub record ParamsLeft (book : List ℕ) (at left r : ℕ) : Type 0 where
  pub says : length book ≤ 16384 → (ps : List Param) (z : List ℕ) → Here book at (w_all w_param ps z) → left ≡ length ps → levels_p ps ≤ 64 → Here book r z

pub record ParamsPast (book : List ℕ) (at r : ℕ) : Type 0 where
  pub says : length book ≤ 16384 → (ps : List Param) (z : List ℕ) → Here book at (w_list w_param ps z) → levels_p ps ≤ 64 → Here book r z
