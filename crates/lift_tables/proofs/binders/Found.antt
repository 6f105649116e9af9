-- The first binder of a name, one by one in a row, and row by row.
-- Assumes nothing.
use mathlib.Core.Path.{◌≡◌, refl, sym, ap, ◌∙◌}
use mathlib.Core.Logic.{⊎_elim}
use mathlib.Core.Bool.{Bool, true, false, cond}
use mathlib.Core.List.{List, [], ◌∷◌, ◌++◌}
use Prim.Native.Nat.{ℕ, zero, suc, ◌+◌, ◌-◌, ◌*◌, ◌≤◌, ◌<◌, min}
use native.Mathlib.Omega.{arith}
use native.Mathlib.Nat.{eq-zero-or-pos}
use native.Mathlib.Numerals.{add-one}
use lib.ListN.{length, take, drop, get_or, set, drop_of_length-le}
use lib.Seq.{drop-cons, take_all}
use Rattle.std.proofs.lemmas.List.{take_more_set}
use Rattle.std.specs.Prelude.{Option, Some, None}
use Rattle.definition.specs.Tree.{Name}
use Rattle.lift_tables.specs.declared.binders.Binder.{Binder}
use Rattle.lift_tables.specs.binders.Row.{binder_at_of, binders_from, is_named, found_in}

abbrev pub no_binder : Binder
no_binder = record { name = 0; at = 0; own = 0; size = 0 }

-- ---- in a row: i records are passed, none of the name
module _ (s : List ℕ) (n : Name) (row : List Binder) (i : ℕ) (passed : found_in s n row ≡ found_in s n (drop i row)) where
  step : (d : Binder) → i < length row → found_in s n (drop i row) ≡ cond (is_named s n (get_or row i d)) (Some (get_or row i d)) (found_in s n (drop (i + 1) row))
  unfolding found_in
  step d h = ap (found_in s n) (drop-cons row i d h) ∙ (rw (add-one i))

  pub here : (d : Binder) → i < length row → is_named s n (get_or row i d) ≡ true → Some (get_or row i d) ≡ found_in s n row
  here d h e = sym (passed ∙ step d h ∙ (rw e))

  pub on : (d : Binder) → i < length row → is_named s n (get_or row i d) ≡ false → found_in s n row ≡ found_in s n (drop (i + 1) row)
  on d h e = passed ∙ step d h ∙ (rw e)

  pub none : length row ≤ i → None ≡ found_in s n row
  unfolding found_in
  none h = let e : drop i row ≡ [] = drop_of_length-le row {i = i} h in sym (passed ∙ (rw e))

-- ---- rows of a table
binders_last : (t : List ℕ) (j n : ℕ) → binders_from t j (suc n) ≡ binders_from t j n ++ (binder_at_of t (j + n) ∷ [])
unfolding binders_from
binders_last t j zero = let e : j + 0 ≡ j = omega arith in rw e
binders_last t j (suc n) = let e : j + suc n ≡ j + 1 + n = omega arith in rw e (ap (binder_at_of t j ∷◌) (binders_last t (j + 1) n))

take_binders : (t : List ℕ) (j n m : ℕ) → n ≤ m → take n (binders_from t j m) ≡ binders_from t j n
unfolding binders_from
take_binders t j zero m h = refl
take_binders t j (suc n) zero h = absurd (omega arith)
take_binders t j (suc n) (suc m) h = ap (binder_at_of t j ∷◌) (take_binders t (j + 1) n m (omega arith))

split : (t : List ℕ) (j n m : ℕ) → binders_from t j (n + m) ≡ binders_from t j n ++ binders_from t (j + n) m
unfolding binders_from
split t j zero m =
    let e : j + 0 ≡ j = omega arith in
    let f : 0 + m ≡ m = omega arith in
    rw (e, f)
split t j (suc n) m =
    let e : suc n + m ≡ suc (n + m) = omega arith in
    let f : j + suc n ≡ j + 1 + n = omega arith in
    rw (e, f) (ap (binder_at_of t j ∷◌) (split t (j + 1) n m))

-- what a row answers, and what stands behind it
unfoldable or_else : Option Binder → Option Binder → Option Binder
or_else (Some x) r = Some x
or_else None r = r

found_after : (s : List ℕ) (n : Name) (a b : List Binder) → found_in s n (a ++ b) ≡ or_else (found_in s n a) (found_in s n b)
unfolding found_in or_else
found_after s n [] b = refl
found_after s n (x ∷ a) b = rw (found_after s n a b) (of (is_named s n x))
  where
    of : (r : Bool) → cond r (Some x) (or_else (found_in s n a) (found_in s n b)) ≡ or_else (cond r (Some x) (found_in s n a)) (found_in s n b)
    of true = refl
    of false = refl

-- ---- a row of eight, record by record
module _ (t : List ℕ) (j : ℕ) where
  pub row_none : [] ≡ binders_from t j 0
  unfolding binders_from
  row_none = refl

  pub row_more : (row : List Binder) (k : ℕ) (x : Binder) → take k row ≡ binders_from t j k → k < length row → x ≡ binder_at_of t (j + k) → take (k + 1) (set row k x) ≡ binders_from t j (k + 1)
  row_more row k x h l e = take_more_set row k x l ∙ (rw (h, e)) ∙ sym (ap (binders_from t j) (add-one k) ∙ binders_last t j k)

  pub row_done : (row : List Binder) (k : ℕ) → take k row ≡ binders_from t j k → length row ≡ 8 → 8 ≤ k → k ≤ 8 → row ≡ binders_from t j 8
  row_done row k h l m o =
      let e : k ≡ 8 = omega arith in
      sym (take_all k row (omega arith)) ∙ h ∙ ap (binders_from t j) e

-- ---- row by row: those of the first 8 k have another name
module _ (s t : List ℕ) (n : Name) (k b : ℕ) (passed : found_in s n (binders_from t 0 b) ≡ found_in s n (binders_from t (8 * k) (b - 8 * k))) where
  nothing : (i : ℕ) → found_in s n (binders_from t i 0) ≡ None
  unfolding found_in binders_from
  nothing i = refl

  cut : (m : ℕ) → m ≡ min (b - 8 * k) 8 → found_in s n (binders_from t 0 b) ≡ or_else (found_in s n (binders_from t (8 * k) m)) (found_in s n (binders_from t (8 * k + m) (b - 8 * k - m)))
  cut m e =
      let q : b - 8 * k ≡ m + (b - 8 * k - m) = omega arith in
      passed ∙ ap (λ (i : ℕ). found_in s n (binders_from t (8 * k) i)) q ∙ ap (found_in s n) (split t (8 * k) m (b - 8 * k - m)) ∙ found_after s n (binders_from t (8 * k) m) (binders_from t (8 * k + m) (b - 8 * k - m))

  first : (row : List Binder) (m : ℕ) {r : Option Binder} → row ≡ binders_from t (8 * k) 8 → m ≡ min (b - 8 * k) 8 → r ≡ found_in s n (take m row) → found_in s n (binders_from t (8 * k) m) ≡ r
  first row m w e f = sym (f ∙ ap (λ (l : List Binder). found_in s n (take m l)) w ∙ ap (found_in s n) (take_binders t (8 * k) m 8 (omega arith)))

  pub row_has : (row : List Binder) (m : ℕ) {x : Binder} → row ≡ binders_from t (8 * k) 8 → m ≡ min (b - 8 * k) 8 → Some x ≡ found_in s n (take m row) → Some x ≡ found_in s n (binders_from t 0 b)
  unfolding or_else
  row_has row m w e f = sym (cut m e ∙ (rw (first row m w e f)))

  pub row_has_none : (row : List Binder) (m : ℕ) → row ≡ binders_from t (8 * k) 8 → m ≡ min (b - 8 * k) 8 → None ≡ found_in s n (take m row) → found_in s n (binders_from t 0 b) ≡ found_in s n (binders_from t (8 * (k + 1)) (b - 8 * (k + 1)))
  unfolding or_else
  row_has_none row m w e f =
      let g : found_in s n (binders_from t 0 b) ≡ found_in s n (binders_from t (8 * k + m) (b - 8 * k - m)) = cut m e ∙ (rw (first row m w e f)) in
      g ∙ ⊎_elim
      (λ (z : b - 8 * (k + 1) ≡ 0).
      let y : b - 8 * k - m ≡ 0 = omega arith in
      rw (z, y, nothing (8 * k + m), nothing (8 * (k + 1))))
      (λ (z : 0 < b - 8 * (k + 1)).
      let y : 8 * k + m ≡ 8 * (k + 1) = omega arith in
      let u : b - 8 * k - m ≡ b - 8 * (k + 1) = omega arith in
      rw (y, u))
      (eq-zero-or-pos (b - 8 * (k + 1)))

  pub no_row : b ≤ 8 * k → None ≡ found_in s n (binders_from t 0 b)
  unfolding found_in binders_from
  no_row h = let e : b - 8 * k ≡ 0 = omega arith in sym (passed ∙ (rw e))
