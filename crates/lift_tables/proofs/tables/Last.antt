-- The number at a place takes a new row as it comes.
-- Assumes nothing.
use mathlib.Core.Path.{◌≡◌, refl}
use mathlib.Core.Bool.{Bool, true, false, cond}
use mathlib.Core.List.{List, [], ◌∷◌, ◌++◌}
use Prim.Native.Nat.{ℕ, suc, ◌+◌}
use native.Mathlib.Omega.{arith}
use lib.Dec.{eqb}
use lib.ListN.{length}
use Rattle.lift_tables.specs.tables.Rows.{Row, later, last_from}

-- one row more
pub last_snoc : (rs : List Row) (r : Row) (i p : ℕ) → last_from (rs ++ (r ∷ [])) i p ≡ cond (eqb r.at p) (i + length rs + 1) (last_from rs i p)
unfolding last_from later
last_snoc [] r i p = let e : i + 0 + 1 ≡ i + 1 = omega arith in rw e
last_snoc (x ∷ rs) r i p = rw (last_snoc rs r (i + 1) p) (of (eqb r.at p))
  where
    n : i + 1 + length rs + 1 ≡ suc (i + suc (length rs))
    n = omega arith

    m : i + suc (length rs) + 1 ≡ suc (i + suc (length rs))
    m = omega arith

    of : (b : Bool) → later (cond b (i + 1 + length rs + 1) (last_from rs (i + 1) p)) (cond (eqb x.at p) (i + 1) 0)
        ≡ cond b (i + suc (length rs) + 1) (later (last_from rs (i + 1) p) (cond (eqb x.at p) (i + 1) 0))
    of true = rw (n, m)
    of false = refl
