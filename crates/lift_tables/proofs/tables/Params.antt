-- Parameters one by one in their table: what is kept, and what is written.
-- Assumes nothing.
use mathlib.Core.Path.{◌≡◌, refl, ap}
use mathlib.Core.List.{List, [], ◌∷◌, ◌++◌}
use Prim.Native.Nat.{ℕ, zero, suc, ◌+◌, ◌*◌, ◌≤◌, ◌<◌, min}
use native.Mathlib.Omega.{arith}
use lib.Dec.{eqb}
use lib.ListN.{length, take, drop, get_or, set, length-set}
use lib.Seq.{get_or-set_same, get_or-set_other}
use Rattle.definition.specs.Tree.{Name}
use Rattle.lift_tables.specs.tables.Rows.{TypeAt, names_from, types_from, with_param}

abbrev name_of_row : List ℕ → List ℕ → ℕ → Name
name_of_row s params j = take (get_or params (4 * j + 1) 0) (drop (get_or params (4 * j) 0) s)

abbrev type_of_row : List ℕ → ℕ → TypeAt
type_of_row params j = record { own = eqb (get_or params (4 * j + 3) 0) 1; at = get_or params (4 * j + 2) 0 }

pub names_last : (s params : List ℕ) (j n : ℕ) → names_from s params j (suc n) ≡ names_from s params j n ++ (name_of_row s params (j + n) ∷ [])
unfolding names_from
names_last s params j zero = let e : j + 0 ≡ j = omega arith in rw e
names_last s params j (suc n) = let e : j + suc n ≡ j + 1 + n = omega arith in rw e (ap (name_of_row s params j ∷◌) (names_last s params (j + 1) n))

pub types_last : (params : List ℕ) (j n : ℕ) → types_from params j (suc n) ≡ types_from params j n ++ (type_of_row params (j + n) ∷ [])
unfolding types_from
types_last params j zero = let e : j + 0 ≡ j = omega arith in rw e
types_last params j (suc n) = let e : j + suc n ≡ j + 1 + n = omega arith in rw e (ap (type_of_row params j ∷◌) (types_last params (j + 1) n))

-- what stands before a place
abbrev pub Same : ℕ → List ℕ → List ℕ → Type 0
Same n a b = (i : ℕ) → i < n → get_or a i 0 ≡ get_or b i 0

pub names_kept : (s a b : List ℕ) (j n : ℕ) → Same (4 * (j + n)) a b → names_from s a j n ≡ names_from s b j n
unfolding names_from
names_kept s a b j zero h = refl
names_kept s a b j (suc n) h =
    rw (h (4 * j) (omega arith), h (4 * j + 1) (omega arith), names_kept s a b (j + 1) n (λ i l. h i (omega arith)))

pub types_kept : (a b : List ℕ) (j n : ℕ) → Same (4 * (j + n)) a b → types_from a j n ≡ types_from b j n
unfolding types_from
types_kept a b j zero h = refl
types_kept a b j (suc n) h =
    rw (h (4 * j + 2) (omega arith), h (4 * j + 3) (omega arith), types_kept a b (j + 1) n (λ i l. h i (omega arith)))

module _ (d : List ℕ) (i p l a o : ℕ) where
  pub param_length : length (with_param d i p l a o) ≡ length d
  unfolding with_param
  param_length = simp length-set

  pub param_before : Same (4 * i) (with_param d i p l a o) d
  unfolding with_param
  param_before j h = rw (
    get_or-set_other (set (set (set d (4 * i) p) (4 * i + 1) l) (4 * i + 2) a) (4 * i + 3) j o 0 (λ e. absurd (omega arith)),
    get_or-set_other (set (set d (4 * i) p) (4 * i + 1) l) (4 * i + 2) j a 0 (λ e. absurd (omega arith)),
    get_or-set_other (set d (4 * i) p) (4 * i + 1) j l 0 (λ e. absurd (omega arith)),
    get_or-set_other d (4 * i) j p 0 (λ e. absurd (omega arith)),
  )

  module _ (h : 4 * (i + 1) ≤ length d) where
    pub param_place : get_or (with_param d i p l a o) (4 * i) 0 ≡ p
    unfolding with_param
    param_place = rw (
      get_or-set_other (set (set (set d (4 * i) p) (4 * i + 1) l) (4 * i + 2) a) (4 * i + 3) (4 * i) o 0 (λ e. absurd (omega arith)),
      get_or-set_other (set (set d (4 * i) p) (4 * i + 1) l) (4 * i + 2) (4 * i) a 0 (λ e. absurd (omega arith)),
      get_or-set_other (set d (4 * i) p) (4 * i + 1) (4 * i) l 0 (λ e. absurd (omega arith)),
      get_or-set_same d (4 * i) p 0 (omega arith),
    )

    pub param_len : get_or (with_param d i p l a o) (4 * i + 1) 0 ≡ l
    unfolding with_param
    param_len = rw (
      get_or-set_other (set (set (set d (4 * i) p) (4 * i + 1) l) (4 * i + 2) a) (4 * i + 3) (4 * i + 1) o 0 (λ e. absurd (omega arith)),
      get_or-set_other (set (set d (4 * i) p) (4 * i + 1) l) (4 * i + 2) (4 * i + 1) a 0 (λ e. absurd (omega arith)),
      get_or-set_same (set d (4 * i) p) (4 * i + 1) l 0 (simp length-set (omega arith)),
    )

    pub param_at : get_or (with_param d i p l a o) (4 * i + 2) 0 ≡ a
    unfolding with_param
    param_at = rw (
      get_or-set_other (set (set (set d (4 * i) p) (4 * i + 1) l) (4 * i + 2) a) (4 * i + 3) (4 * i + 2) o 0 (λ e. absurd (omega arith)),
      get_or-set_same (set (set d (4 * i) p) (4 * i + 1) l) (4 * i + 2) a 0 (simp length-set (omega arith)),
    )

    pub param_own : get_or (with_param d i p l a o) (4 * i + 3) 0 ≡ o
    unfolding with_param
    param_own = get_or-set_same (set (set (set d (4 * i) p) (4 * i + 1) l) (4 * i + 2) a) (4 * i + 3) o 0 (simp length-set (omega arith))

-- four stores one after the other
pub param_put : (d : List ℕ) (i p l a o : ℕ) {p' l' a' o' : ℕ} {d₁ d₂ d₃ d₄ : List ℕ} → d₁ ≡ set d (4 * i) (min p 65535) → d₂ ≡ set d₁ (4 * i + 1) (min l 65535) → d₃ ≡ set d₂ (4 * i + 2) (min a 65535) → d₄ ≡ set d₃ (4 * i + 3) (min o 65535)
    → min p 65535 ≡ p' → min l 65535 ≡ l' → min a 65535 ≡ a' → min o 65535 ≡ o' → d₄ ≡ with_param d i p' l' a' o'
unfolding with_param
param_put d i p l a o w x y z ep el ea eo = rw (z, y, x, w, ep, el, ea, eo)
