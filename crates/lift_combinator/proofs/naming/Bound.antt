-- A binder more.
-- Assumes nothing.
use mathlib.Core.Path.{◌≡◌, refl, ap, ◌∙◌}
use mathlib.Core.List.{List, [], ◌∷◌, ◌++◌}
use Prim.Native.Nat.{ℕ, zero, suc, ◌+◌, ◌*◌, ◌≤◌}
use native.Mathlib.Omega.{arith}
use native.Mathlib.Numerals.{add-one}
use lib.Dec.{eqb}
use lib.ListN.{length}
use Rattle.layout.specs.lookup.Name.{name_at}
use Rattle.lift_tables.specs.tables.Rows.{with_param}
use Rattle.lift_tables.proofs.tables.Params.{Same, param_before, param_place, param_len, param_at, param_own}
use Rattle.lift_tables.specs.binders.Row.{binder_at_of}
use Rattle.lift_tables.specs.enter_lift.Bound.{bound_at, bound_from}

bound_last : (s t : List ℕ) (j n : ℕ) → bound_from s t j (suc n) ≡ bound_from s t j n ++ (bound_at s t (j + n) ∷ [])
unfolding bound_from
bound_last s t j zero = let e : j + 0 ≡ j = omega arith in rw e
bound_last s t j (suc n) = let e : j + suc n ≡ j + 1 + n = omega arith in rw e (ap (bound_at s t j ∷◌) (bound_last s t (j + 1) n))

pub bound_kept : (s a b : List ℕ) (j n : ℕ) → Same (4 * (j + n)) a b → bound_from s a j n ≡ bound_from s b j n
unfolding bound_from bound_at binder_at_of
bound_kept s a b j zero h = refl
bound_kept s a b j (suc n) h =
    rw (h (4 * j) (omega arith), h (4 * j + 1) (omega arith), h (4 * j + 2) (omega arith), h (4 * j + 3) (omega arith), bound_kept s a b (j + 1) n (λ i l. h i (omega arith)))

-- one more binder behind b
pub bound_more : (s t : List ℕ) (b name at own size : ℕ) → 4 * (b + 1) ≤ length t
    → bound_from s (with_param t b name at own size) 0 (b + 1) ≡ bound_from s t 0 b ++ (record { name = name_at s name; type = record { own = eqb own 1; at = at }; size = size } ∷ [])
unfolding bound_at binder_at_of
bound_more s t b name at own size h =
    let w = with_param t b name at own size in
    let z : 0 + b ≡ b = omega arith in
    ap (bound_from s w 0) (add-one b) ∙ bound_last s w 0 b
    ∙ (rw (
      z,
      bound_kept s w t 0 b (λ i l. param_before t b name at own size i (omega arith)),
      param_place t b name at own size h,
      param_len t b name at own size h,
      param_at t b name at own size h,
      param_own t b name at own size h,
    ))
