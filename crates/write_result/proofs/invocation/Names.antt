-- The names of parameters and the row of a lift, in the code's own terms.
-- Assumes nothing.
use mathlib.Core.Path.{◌≡◌, refl, ap}
use mathlib.Core.List.{List, [], ◌∷◌, ◌++◌}
use Prim.Native.Nat.{ℕ, zero, suc, ◌+◌, ◌*◌, ◌-◌, ◌≤◌, ◌<◌}
use native.Mathlib.Omega.{arith}
use lib.ListN.{length, get_or}
use Rattle.definition.specs.Write.{w_u16}
use Rattle.buffer.specs.writes.Buf.{name_bytes}
use Rattle.layout.specs.lookup.Name.{name_at}
use Rattle.lift_tables.specs.tables.Rows.{row_at, names_from}
use Rattle.write_result.specs.declared.tables.Row.{Row}
use Rattle.write_result.specs.tables.Numbers.{row_numbers}
use Rattle.write_result.specs.splice.Model.{Tables, row}
use Rattle.write_result.specs.invocation.Invocation.{names_bytes, called_bytes, param_name_of}

-- names
module _ (s params : List ℕ) where
  pub length_names : (j n : ℕ) → length (names_from s params j n) ≡ n
  unfolding names_from
  length_names j zero = refl
  length_names j (suc n) = ap suc (length_names (j + 1) n)

  -- up to parameter e
  pub names_more : (j e : ℕ) {name : List ℕ} → j < e → name ≡ param_name_of s params j → names_bytes (names_from s params j (e - j)) ≡ name_bytes name ++ names_bytes (names_from s params (j + 1) (e - (j + 1)))
  unfolding names_from names_bytes
  names_more j e h k = let n : e - j ≡ suc (e - (j + 1)) = omega arith in rw (k, n)

  pub names_done : (j e : ℕ) → e ≤ j → names_bytes (names_from s params j (e - j)) ≡ []
  unfolding names_from names_bytes
  names_done j e h = let n : e - j ≡ 0 = omega arith in rw n

-- a row, by its numbers
pub called_is : (t : Tables) (i : ℕ) {r : Row} {name : List ℕ} → r ≡ row_numbers t.rows i → name ≡ name_at t.names r.name
    → called_bytes (row t i) ≡ (15 ∷ []) ++ (name_bytes name ++ (w_u16 r.count [] ++ names_bytes (names_from t.book t.params r.first r.count)))
unfolding called_bytes row_at
called_is t i e d = rw (d, e, length_names t.book t.params (get_or t.rows (5 * i + 3) 0) (get_or t.rows (5 * i + 4) 0))
