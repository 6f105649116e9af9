-- Binders as records. A table has four numbers for each: the place of the name's length byte in the expanded book, the place of the
-- type there, 1 where that is a parameter's own type and 0 where it is the combinator of a Dependent field, and the size of the type after lifting.
-- Document 01: "the definition's own parameters, then the Dependent fields passed on the way, outermost first".
use Rattle.std.specs.Prelude.{Bool, cond, List, [], ◌∷◌, Option, Some, None, ℕ, zero, suc, ◌+◌, ◌*◌, get_or}
use Rattle.definition.specs.Tree.{Name}
use Rattle.definition.specs.Names.{eq_name}
use Rattle.layout.specs.lookup.Name.{name_at}
use Rattle.lift_tables.specs.declared.binders.Binder.{Binder}

-- binder number j of a table
unfoldable pub binder_at_of : List ℕ → ℕ → Binder
binder_at_of table j = record {
  name = get_or table (4 * j) 0;
  at = get_or table (4 * j + 1) 0;
  own = get_or table (4 * j + 2) 0;
  size = get_or table (4 * j + 3) 0;
}

-- n of them from number j on
unfoldable pub binders_from : List ℕ → ℕ → ℕ → List Binder
binders_from table j zero = []
binders_from table j (suc n) = binder_at_of table j ∷ binders_from table (j + 1) n

abbrev pub is_named : List ℕ → Name → Binder → Bool
is_named s n b = eq_name (name_at s b.name) n

-- "A parameter's type is that of the first binder of that name"
unfoldable pub found_in : List ℕ → Name → List Binder → Option Binder
found_in s n [] = None
found_in s n (b ∷ bs) = let r = found_in s n bs in cond (is_named s n b) (Some b) r
