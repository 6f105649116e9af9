-- What is found of a name.
-- Assumes nothing.
use mathlib.Core.Path.{◌≡◌, refl, subst}
use mathlib.Core.Bool.{Bool, true, false, cond}
use mathlib.Core.List.{List}
use Prim.Native.Nat.{ℕ, zero, suc, ◌+◌, ◌≤◌}
use native.Mathlib.Omega.{arith}
use Rattle.std.specs.Prelude.{Option, Some, None}
use Rattle.definition.specs.Res.{Maybe, absent, just}
use Rattle.definition.specs.Tree.{Name}
use Rattle.lift_tables.specs.declared.binders.Binder.{Binder}
use Rattle.lift_tables.specs.binders.Row.{binder_at_of, binders_from, is_named, found_in}
use Rattle.lift_tables.specs.enter_lift.Bound.{Bound, bound_of, bound_at, bound_from, first_of, Sized}

-- the record that is found of a name, and the binder by place that it stands for
abbrev pub bound_in : List ℕ → Option Binder → Maybe Bound
bound_in s (Some d) = just (bound_of s d)
bound_in s None = absent

bound_test : (s : List ℕ) (r : Bool) (d : Binder) (x : Option Binder) → cond r (just (bound_of s d)) (bound_in s x) ≡ bound_in s (cond r (Some d) x)
bound_test s true d x = refl
bound_test s false d x = refl

pub first_found : (s t : List ℕ) (n : Name) (j m : ℕ) → first_of (bound_from s t j m) n ≡ bound_in s (found_in s n (binders_from t j m))
unfolding first_of bound_from bound_at found_in binders_from
first_found s t n j zero = refl
first_found s t n j (suc m) = rw (first_found s t n (j + 1) m) (bound_test s (is_named s n (binder_at_of t j)) (binder_at_of t j) (found_in s n (binders_from t (j + 1) m)))

-- it is a record of the table, so that its type has at least three bytes
pub found_sized : (s t : List ℕ) (n : Name) (j m : ℕ) (d : Binder) → found_in s n (binders_from t j m) ≡ Some d → Sized t (j + m) → 3 ≤ d.size
unfolding found_in binders_from binder_at_of
found_sized s t n j zero d e h = let z : ◌≡◌ {A = ℕ} 0 1 = cc in absurd (omega arith)
found_sized s t n j (suc m) d e h = step (is_named s n (binder_at_of t j)) e (λ g. found_sized s t n (j + 1) m d g (λ i l. h i (omega arith)))
  where
    step : (r : Bool) → cond r (Some (binder_at_of t j)) (found_in s n (binders_from t (j + 1) m)) ≡ Some d → (found_in s n (binders_from t (j + 1) m) ≡ Some d → 3 ≤ d.size) → 3 ≤ d.size
    step true e go =
        let q : binder_at_of t j ≡ d = cc in
        subst (λ (x : Binder). 3 ≤ x.size) q (h j (omega arith))
    step false e go = go e
