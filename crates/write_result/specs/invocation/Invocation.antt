-- The bytes of a lift's Invocation, from a row of the tables.
use Rattle.std.specs.Prelude.{List, [], ◌∷◌, ◌++◌, ℕ, ◌+◌, ◌*◌, length, take, drop, get_or}
use Rattle.definition.specs.Tree.{Name}
use Rattle.definition.specs.Write.{w_u16}
use Rattle.buffer.specs.writes.Buf.{name_bytes}
use Rattle.lift_tables.specs.tables.Rows.{Row}

-- so many bytes from a place on
abbrev pub bytes_from : List ℕ → ℕ → ℕ → List ℕ
bytes_from s at n = take n (drop at s)

-- the name of parameter j
abbrev pub param_name_of : List ℕ → List ℕ → ℕ → Name
param_name_of s params j = bytes_from s (get_or params (4 * j) 0) (get_or params (4 * j + 1) 0)

unfoldable pub names_bytes : List Name → List ℕ
names_bytes [] = []
names_bytes (n ∷ ns) = name_bytes n ++ names_bytes ns

-- "15 Invocation: name, u16 count, arguments"
unfoldable pub called_bytes : Row → List ℕ
called_bytes r = (15 ∷ []) ++ (name_bytes r.name ++ (w_u16 (length r.params) [] ++ names_bytes r.params))

-- "replaced by a call without a chain"
unfoldable pub call_bytes : Row → List ℕ
call_bytes r = called_bytes r ++ (0 ∷ [])
