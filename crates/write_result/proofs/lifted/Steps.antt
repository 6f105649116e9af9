-- The model in the code's own terms: a loop's end, and one step of it.
-- Assumes nothing.
use mathlib.Core.Path.{◌≡◌}
use mathlib.Core.List.{List, [], ◌++◌}
use Prim.Native.Nat.{ℕ, suc, ◌+◌, ◌*◌, ◌-◌, ◌≤◌, ◌<◌}
use native.Mathlib.Omega.{arith}
use lib.ListN.{get_or}
use mathlib.Core.Bool.{true, false}
use borrow.Author.Tests.{ne_eqb}
use Rattle.definition.specs.Write.{w_u16}
use Rattle.buffer.specs.writes.Buf.{part, name_bytes}
use Rattle.layout.specs.lookup.Name.{name_at}
use Rattle.lift_tables.specs.tables.Rows.{TypeAt, row_at, names_from, types_from}
use Rattle.write_result.specs.invocation.Invocation.{called_bytes, param_name_of}
use Rattle.write_result.proofs.invocation.Names.{length_names}
use Rattle.write_result.specs.declared.tables.Row.{Row}
use Rattle.write_result.specs.tables.Numbers.{row_numbers}
use Rattle.write_result.specs.splice.Model.{Tables, row, spliced}
use Rattle.walker.specs.ends.Ends.{inner_end_of}
use Rattle.write_result.specs.lifted.Model.{passed_bytes, type_bytes, param_type, params_bytes, lifted_bytes}

module _ (t : Tables) where
  pub lifted_is : (i : ℕ) {r : Row} {name : List ℕ} → r ≡ row_numbers t.rows i → name ≡ name_at t.names r.name
      → lifted_bytes t (row t i) ≡ name_bytes name ++ ((w_u16 r.count [] ++ params_bytes t (names_from t.book t.params r.first r.count) (types_from t.params r.first r.count)) ++ spliced t r.at r.end)
  unfolding lifted_bytes row_at
  lifted_is i e d = rw (d, e, length_names t.book t.params (get_or t.rows (5 * i + 3) 0) (get_or t.rows (5 * i + 4) 0))

  -- the three sorts of types
  module _ (x : TypeAt) where
    pub type_own : x.own ≡ true → (to : ℕ) → to ≡ inner_end_of t.book x.at → type_bytes t x ≡ part x.at to t.book
    unfolding type_bytes
    type_own e to f = rw (e, f)

    pub type_passed : x.own ≡ false → (to : ℕ) → 0 ≡ get_or t.number x.at 0 → to ≡ inner_end_of t.book x.at → type_bytes t x ≡ spliced t x.at to
    unfolding type_bytes passed_bytes
    type_passed e to g f = rw (e, ← g, f)

    pub type_called : x.own ≡ false → (k : ℕ) → k ≡ get_or t.number x.at 0 → (k ≡ 0 → ⊥) → type_bytes t x ≡ called_bytes (row t (k - 1))
    unfolding type_bytes passed_bytes
    type_called e k g h = rw (e, ← g, ne_eqb k 0 h)

  abbrev params_from : ℕ → ℕ → List ℕ
  params_from j n = params_bytes t (names_from t.book t.params j n) (types_from t.params j n)

  -- up to parameter e
  pub params_more : (j e : ℕ) → j < e → params_from j (e - j) ≡ (name_bytes (param_name_of t.book t.params j) ++ type_bytes t (param_type t.params j)) ++ params_from (j + 1) (e - (j + 1))
  unfolding names_from types_from params_bytes
  params_more j e h = let n : e - j ≡ suc (e - (j + 1)) = omega arith in rw n

  pub params_done : (j e : ℕ) → e ≤ j → params_from j (e - j) ≡ []
  unfolding names_from types_from params_bytes
  params_done j e h = let n : e - j ≡ 0 = omega arith in rw n
