-- The calls of names that are in a table.
use Rattle.std.specs.Prelude.{List, Bool, true, ℕ, eqb}
use Rattle.definition.specs.Names.{elem}
use Rattle.layout.specs.items.At.{byte_at, past_at, pick}
use Rattle.layout.specs.lookup.Name.{name_at}
use Rattle.name_table.specs.kinds.Rows.{row_names}

-- "every Invocation .. names a kind 1 or 2 definition": the call at a place; a macro's passes
unfoldable pub known_at : List ℕ → List ℕ → ℕ → ℕ → Bool
known_at s places n at = pick (eqb (byte_at s at) 15) (elem (name_at s (past_at s at 1)) (row_names s places n)) true
