-- A table by place that holds the number of the last row at each place agrees with the records that the rows stand for.
use mathlib.Core.Path.{◌≡◌, refl, sym, ap, ◌∙◌}
use mathlib.Core.Bool.{Bool, true, false, cond}
use mathlib.Core.List.{List, [], ◌∷◌, ◌++◌, map}
use Prim.Native.Nat.{ℕ, zero, suc, ◌+◌, ◌<◌}
use native.Mathlib.Numerals.{add-one}
use native.Mathlib.Omega.{arith}
use lib.Dec.{eqb}
use lib.ListN.{length, get_or}
use Rattle.definition.specs.Res.{Maybe, absent, just}
use Rattle.lifting.specs.Records.{Record, or_else, find}
use Rattle.lift_tables.specs.tables.Rows.{Row, row_of, rows_of, later, last_from}
use Rattle.write_result.specs.splice.Model.{Tables, row}
use Rattle.write_result.specs.result.Held.{Agrees}

module _ (t : Tables) where
  -- the rows from number i on
  rows_from : ℕ → ℕ → List Row
  rows_from i zero = []
  rows_from i (suc n) = row t i ∷ rows_from (i + 1) n

  from_snoc : (i n : ℕ) → rows_from i n ++ (row t (i + n) ∷ []) ≡ rows_from i (suc n)
  unfolding rows_from
  from_snoc i zero = let e : i + 0 ≡ i = omega arith in rw e
  from_snoc i (suc n) = let e : i + suc n ≡ i + 1 + n = omega arith in rw e (ap (row t i ∷◌) (from_snoc (i + 1) n))

  rows_from_lem : (n : ℕ) → rows_of t.book t.names t.rows t.params n ≡ rows_from 0 n
  unfolding rows_of rows_from
  rows_from_lem zero = refl
  rows_from_lem (suc n) = let e : n ≡ 0 + n = omega arith in rw (rows_from_lem n) (ap (λ (m : ℕ). rows_from 0 n ++ (row t m ∷ [])) e ∙ from_snoc 0 n)

  agree_from : (rs : List Record) (i n p : ℕ) → map row_of rs ≡ rows_from i n → Agrees t (find rs p) (last_from (map row_of rs) i p)
  unfolding rows_from find last_from
  agree_from [] i n p e = refl
  agree_from (r ∷ rs) i zero p e = let z : ◌≡◌ {A = ℕ} 0 1 = cc in absurd (omega arith)
  agree_from (r ∷ rs) i (suc n) p e =
      let a : row_of r ≡ row t i = cc in
      let b : map row_of rs ≡ rows_from (i + 1) n = cc in
      step (find rs p) (last_from (map row_of rs) (i + 1) p) (eqb r.at p) (sym a) (agree_from rs (i + 1) n p b)
    where
      step : (m : Maybe Record) (k : ℕ) (b : Bool) → row t i ≡ row_of r → Agrees t m k → Agrees t (or_else m (cond b (just r) absent)) (later k (cond b (i + 1) 0))
      step (just q) k b g a = record { of = a.of; is = rw a.is; holds = a.holds }
      step absent k true g a = record { of = i; is = rw a (add-one i); holds = g }
      step absent k false g a = rw a

  pub numbered_by : (rs : List Record) (n : ℕ) → rows_of t.book t.names t.rows t.params n ≡ map row_of rs
      → ((p : ℕ) → p < length t.book → get_or t.number p 0 ≡ last_from (map row_of rs) 0 p) → (p : ℕ) → p < length t.book → Agrees t (find rs p) (get_or t.number p 0)
  numbered_by rs n e g p b = rw (g p b) (agree_from rs 0 n p (sym e ∙ rows_from_lem n))
