-- The tables that the naming pass fills and the writing pass reads, and the records of lifts that they stand for.
-- `rows`: five numbers for each lift in walk order: the place of the combinator moved, its end, the place of its name's length byte among the
-- generated names, the number of its first parameter, the count of its parameters.
-- `params`: four numbers for each parameter: the place of its name's first byte in the expanded book, the name's length, the place of its type
-- there, and 1 where that is a parameter's own type (an inner), 0 where it is the combinator of a Dependent field.
use Rattle.std.specs.Prelude.{Bool, true, false, cond, List, [], ◌∷◌, ◌++◌, map, ℕ, zero, suc, ◌+◌, ◌*◌, eqb, take, drop, get_or, set}
use Rattle.definition.specs.Tree.{Name}
use Rattle.layout.specs.lookup.Name.{name_at}
use Rattle.lifting.specs.Records.{Ref, own, passed, Record}

-- where a parameter's type stands
pub record TypeAt : Type 0 where
  pub own : Bool
  pub at : ℕ

-- a record of a lift without trees: places, names and numbers
pub record Row : Type 0 where
  pub at : ℕ
  pub end : ℕ
  pub name : Name
  pub params : List Name
  pub types : List TypeAt

abbrev pub type_at : Ref → TypeAt
type_at (own i p) = record { own = true; at = p }
type_at (passed c p) = record { own = false; at = p }

-- what a record says by places
abbrev pub row_of : Record → Row
row_of r = record { at = r.at; end = r.end; name = r.name; params = r.params; types = map type_at r.types }

-- the parameters from number j on, n of them: their names, and where their types stand
unfoldable pub names_from : List ℕ → List ℕ → ℕ → ℕ → List Name
names_from s params j zero = []
names_from s params j (suc n) = take (get_or params (4 * j + 1) 0) (drop (get_or params (4 * j) 0) s) ∷ names_from s params (j + 1) n

unfoldable pub types_from : List ℕ → ℕ → ℕ → List TypeAt
types_from params j zero = []
types_from params j (suc n) = record { own = eqb (get_or params (4 * j + 3) 0) 1; at = get_or params (4 * j + 2) 0 } ∷ types_from params (j + 1) n

-- the table with the parameter number i; that of binders has four numbers for each too
unfoldable pub with_param : List ℕ → ℕ → ℕ → ℕ → ℕ → ℕ → List ℕ
with_param d i place len at sort = set (set (set (set d (4 * i) place) (4 * i + 1) len) (4 * i + 2) at) (4 * i + 3) sort

-- the row of lift i, and the rows of the first n lifts in walk order
unfoldable pub row_at : List ℕ → List ℕ → List ℕ → List ℕ → ℕ → Row
row_at s names rows params i = record {
  at = get_or rows (5 * i) 0;
  end = get_or rows (5 * i + 1) 0;
  name = name_at names (get_or rows (5 * i + 2) 0);
  params = names_from s params (get_or rows (5 * i + 3) 0) (get_or rows (5 * i + 4) 0);
  types = types_from params (get_or rows (5 * i + 3) 0) (get_or rows (5 * i + 4) 0);
}

unfoldable pub rows_of : List ℕ → List ℕ → List ℕ → List ℕ → ℕ → List Row
rows_of s names rows params zero = []
rows_of s names rows params (suc n) = rows_of s names rows params n ++ (row_at s names rows params n ∷ [])

-- `number`: for each place of the expanded book one more than the number of the last lift that begins there, or 0 where none does: so the
-- table takes a new row as it comes. No two lifts begin at one place.
-- `order`: the numbers of the lifts in the order of their definitions ("its definition is appended after theirs")
unfoldable pub later : ℕ → ℕ → ℕ
later zero k = k
later (suc m) k = suc m

unfoldable pub last_from : List Row → ℕ → ℕ → ℕ
unfolding later
last_from [] i p = 0
last_from (r ∷ rs) i p = later (last_from rs (i + 1) p) (cond (eqb r.at p) (i + 1) 0)
