-- The definitions in the code's own terms.
-- Assumes nothing.
use mathlib.Core.List.{List}
use mathlib.Core.Path.{◌≡◌, refl}
use Prim.Native.Nat.{ℕ, zero, suc, ◌+◌, ◌-◌, ◌*◌, ◌≤◌, ◌<◌, min}
use native.Mathlib.Numerals.{sub-one}
use native.Mathlib.Omega.{arith}
use lib.ListN.{length, get_or}
use Rattle.layout.specs.items.At.{byte_at, past_at, number_at, name_past_of, names_past_of}

-- a number whose two bytes are there
pub number_inside : (s : List ℕ) (at : ℕ) → at + 1 < length s → number_at s at ≡ get_or s at 0 + 256 * get_or s (at + 1) 0
unfolding number_at byte_at past_at
number_inside s at h = let e : min (at + 1) (length s) ≡ at + 1 = omega arith in rw e (omega arith)

pub more : (s : List ℕ) (n at : ℕ) → 0 < n → names_past_of s n at ≡ names_past_of s (n - 1) (name_past_of s at)
unfolding names_past_of
more s zero at h = absurd (omega arith)
more s (suc n) at h = rw sub-one

pub done : (s : List ℕ) (n at : ℕ) → n ≤ 0 → names_past_of s n at ≡ at
unfolding names_past_of
done s zero at h = refl
done s (suc n) at h = absurd (omega arith)
