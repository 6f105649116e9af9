-- What is written of a lift, from the expanded book and the tables of the naming pass: total on any bytes and any numbers.
use Rattle.std.specs.Prelude.{List, [], ◌∷◌, ◌++◌, ℕ, ◌+◌, ◌*◌, ◌-◌, eqb, length, get_or}
use Rattle.definition.specs.Tree.{Name}
use Rattle.definition.specs.Write.{w_u16}
use Rattle.buffer.specs.writes.Buf.{part, name_bytes}
use Rattle.layout.specs.items.At.{pick}
use Rattle.walker.specs.ends.Ends.{inner_end_of}
use Rattle.lift_tables.specs.tables.Rows.{TypeAt, Row}
use Rattle.write_result.specs.invocation.Invocation.{called_bytes}
use Rattle.write_result.specs.splice.Model.{Tables, row, spliced}

-- "types as they stand after lifting, without chain": of a Dependent field whose combinator is lifted itself, the call
unfoldable pub passed_bytes : Tables → ℕ → ℕ → List ℕ
passed_bytes t at k = pick (eqb k 0) (spliced t at (inner_end_of t.book at)) (called_bytes (row t (k - 1)))

unfoldable pub type_bytes : Tables → TypeAt → List ℕ
type_bytes t x = pick x.own (part x.at (inner_end_of t.book x.at) t.book) (passed_bytes t x.at (get_or t.number x.at 0))

-- where the type of parameter j stands
abbrev pub param_type : List ℕ → ℕ → TypeAt
param_type params j = record { own = eqb (get_or params (4 * j + 3) 0) 1; at = get_or params (4 * j + 2) 0 }

unfoldable pub params_bytes : Tables → List Name → List TypeAt → List ℕ
params_bytes t [] xs = []
params_bytes t (n ∷ ns) [] = []
params_bytes t (n ∷ ns) (x ∷ xs) = (name_bytes n ++ type_bytes t x) ++ params_bytes t ns xs

-- "1 format: name, u16 count of parameters, each name + inner; combinator"
unfoldable pub lifted_bytes : Tables → Row → List ℕ
lifted_bytes t r = name_bytes r.name ++ ((w_u16 (length r.params) [] ++ params_bytes t r.params r.types) ++ spliced t r.at r.end)
