-- Numbers in two bytes each.
-- Assumes nothing.
use mathlib.Core.Path.{◌≡◌, refl, ap}
use mathlib.Core.List.{List, [], ◌∷◌}
use Prim.Native.Nat.{ℕ, zero, suc, ◌+◌, ◌*◌, ◌/◌, ◌≤◌, ◌<◌, min}
use native.Mathlib.Omega.{arith}
use lib.ListN.{length, get_or, set, get_or-eq_default}
use Rattle.layout.specs.items.At.{byte_at, past_at, number_at}
use Rattle.lift_tables.specs.tables.Parts.{pairs}

twice : (i : ℕ) → 2 * suc i ≡ suc (suc (2 * i))
twice i = omega arith

one_on : (i : ℕ) → suc (suc i) + 1 ≡ suc (suc (i + 1))
one_on i = omega arith

pub pairs-length : (t : List ℕ) → length (pairs t) ≡ length t / 2
unfolding pairs
pairs-length [] = refl
pairs-length (x ∷ []) = refl
pairs-length (x ∷ y ∷ t) = let h = pairs-length t in omega arith

pairs_at : (t : List ℕ) (i : ℕ) → i < length t / 2 → get_or (pairs t) i 0 ≡ get_or t (2 * i) 0 + get_or t (2 * i + 1) 0 * 256
unfolding pairs
pairs_at [] i h = absurd (omega arith)
pairs_at (x ∷ []) i h = absurd (omega arith)
pairs_at (x ∷ y ∷ t) zero h = refl
pairs_at (x ∷ y ∷ t) (suc i) h = rw (twice i, one_on (2 * i)) (pairs_at t i (omega arith))

pub pairs_number : (t : List ℕ) (i : ℕ) → i < length t / 2 → get_or (pairs t) i 0 ≡ number_at t (2 * i)
unfolding number_at byte_at past_at
pairs_number t i h = let e : min (2 * i + 1) (length t) ≡ 2 * i + 1 = omega arith in rw e (pairs_at t i h)

pub pairs_out : (t : List ℕ) (i : ℕ) → length t / 2 ≤ i → get_or (pairs t) i 0 ≡ 0
pairs_out t i h = get_or-eq_default (pairs t) 0 {n = i} (omega (arith, pairs-length t))

pub pairs_set : (t : List ℕ) (i lo hi : ℕ) → i < length t / 2 → pairs (set (set t (2 * i) lo) (2 * i + 1) hi) ≡ set (pairs t) i (lo + hi * 256)
unfolding pairs
pairs_set [] i lo hi h = absurd (omega arith)
pairs_set (x ∷ []) i lo hi h = absurd (omega arith)
pairs_set (x ∷ y ∷ t) zero lo hi h = refl
pairs_set (x ∷ y ∷ t) (suc i) lo hi h = rw (twice i, one_on (2 * i)) (ap (λ (z : List ℕ). (x + y * 256) ∷ z) (pairs_set t i lo hi (omega arith)))
