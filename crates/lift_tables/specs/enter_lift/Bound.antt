-- Binders by place, as their records say (crate binders).
-- Document 01: "the definition's own parameters, then the Dependent fields passed on the way, outermost first, types as they stand after lifting".
use Rattle.std.specs.Prelude.{cond, List, [], ◌∷◌, map, ◌≡◌, Option, Some, None, ℕ, zero, suc, ◌+◌, ◌*◌, ◌≤◌, ◌<◌, eqb, length, take, get_or}
use Rattle.definition.specs.Res.{Maybe, absent, just}
use Rattle.definition.specs.Tree.{Name}
use Rattle.definition.specs.Names.{eq_name}
use Rattle.layout.specs.lookup.Name.{name_at}
use Rattle.lifting.specs.Calls.{names_room}
use Rattle.lift_tables.specs.tables.Rows.{TypeAt, names_from, types_from}
use Rattle.lift_tables.specs.declared.binders.Binder.{Binder}
use Rattle.lift_tables.specs.binders.Row.{binder_at_of}
use Rattle.collect_params.specs.uses.Uses.{names_in_of}
use Rattle.lift_tables.specs.declared.enter_lift.Sizes.{Sizes}

pub record Bound : Type 0 where
  pub name : Name
  pub type : TypeAt
  pub size : ℕ

abbrev pub type_of : Bound → TypeAt
type_of b = b.type

abbrev pub bound_of : List ℕ → Binder → Bound
bound_of s b = record { name = name_at s b.name; type = record { own = eqb b.own 1; at = b.at }; size = b.size }

unfoldable pub bound_at : List ℕ → List ℕ → ℕ → Bound
bound_at s table j = bound_of s (binder_at_of table j)

-- n of them from number j on
unfoldable pub bound_from : List ℕ → List ℕ → ℕ → ℕ → List Bound
bound_from s table j zero = []
bound_from s table j (suc n) = bound_at s table j ∷ bound_from s table (j + 1) n

-- "A parameter's type is that of the first binder of that name"
unfoldable pub first_of : List Bound → Name → Maybe Bound
first_of [] n = absent
first_of (b ∷ bs) n = let r = first_of bs n in cond (eq_name b.name n) (just b) r

unfoldable pub joined : Maybe Bound → Maybe (List Bound) → Maybe (List Bound)
joined absent r = absent
joined (just b) absent = absent
joined (just b) (just bs) = just (b ∷ bs)

-- the first binder of each name, or none where a name has none
unfoldable pub binders_of : List Bound → List Name → Maybe (List Bound)
binders_of env [] = just []
binders_of env (n ∷ ns) = joined (first_of env n) (binders_of env ns)

-- what types take in a head; what names take there and in a call is `names_room`
unfoldable pub types_size : List Bound → ℕ
types_size [] = 0
types_size (b ∷ bs) = b.size + types_size bs

-- each name has its binder: `of`; the parameters stand in the table from number `first` on, as far as it reaches, and what stood before is there
pub record Filled (s uses : List ℕ) (k : ℕ) (env : List Bound) (params : List ℕ) (first : ℕ) (params' : List ℕ) (names types : ℕ) : Type 0 where
  pub of : List Bound
  pub all : binders_of env (names_in_of s (take k uses)) ≡ just of
  pub names_size : names ≡ names_room (names_in_of s (take k uses))
  pub types_size_of : types ≡ types_size of
  pub names_in : length s ≤ 65535 → 4 * (first + k) ≤ length params → names_from s params' first k ≡ names_in_of s (take k uses)
  pub types_in : 4 * (first + k) ≤ length params → types_from params' first k ≡ map type_of of
  pub kept : (i : ℕ) → i < 4 * first → get_or params' i 0 ≡ get_or params i 0
  pub long : length params' ≡ length params

-- no type has fewer than three bytes
abbrev pub Sized : List ℕ → ℕ → Type 0
Sized binders b = (j : ℕ) → j < b → 3 ≤ get_or binders (4 * j + 3) 0

-- what k names and types take, at the least and at the most
pub record Within (k names types : ℕ) : Type 0 where
  pub names_least : k ≤ names
  pub names_most : names ≤ 256 * k
  pub types_least : 3 * k ≤ types
  pub types_most : types ≤ 65535 * k

-- "8: free dependent without binder"
unfoldable pub Builds : List ℕ → List ℕ → ℕ → List Bound → List ℕ → ℕ → List ℕ → Option Sizes → Type 0
Builds s uses k env params first params' None = binders_of env (names_in_of s (take k uses)) ≡ absent
Builds s uses k env params first params' (Some z) = Filled s uses k env params first params' z.names z.types × Within k z.names z.types
