-- What the naming pass hands over is what the trace hands over, by numbers for records and places.
use Rattle.std.specs.Prelude.{◌≡◌, List, map, ℕ, suc, ◌<◌, length, get_or}
use Rattle.definition.specs.Tree.{Definition}
use Rattle.lifting.specs.Trace.{Trace, tree_head, trace_book}
use Rattle.lifting.proofs.Both.{Both}
use Rattle.lift_tables.specs.tables.Rows.{row_of, last_from}
use Rattle.lift_tables.specs.enter_lift.Sheet.{Sheet}
use Rattle.expand_definitions.specs.walked.Book.{walk_book}

pub record Hands (u : Sheet) (t : Trace) : Type 0 where
  pub rows : u.rows ≡ map row_of t.records
  pub bytes : u.bytes ≡ t.bytes
  pub defns : u.defns ≡ t.defns
  pub count : length u.finished ≡ length t.finished
  pub ordered : (i : ℕ) → i < length t.finished → suc (get_or u.finished i 0) ≡ last_from u.rows 0 (get_or t.finished i 0)

-- the same code, or the same lifts
abbrev pub WalksAsTraced : Type 0
WalksAsTraced = (ds : List Definition) → Both (λ a u b t. Hands u t) (walk_book ds) (trace_book tree_head ds)
