-- Of two numbers one is not over the other.
-- Assumes nothing.
use mathlib.Core.Path.{◌≡◌, refl}
use mathlib.Core.Logic.{◌⊎◌, inl, inr}
use mathlib.Core.Bool.{Bool, true, false}
use Prim.Native.Nat.{ℕ, ◌≤◌, ◌<◌}
use borrow.Author.Tests.{leb-true, leb-false}
use lib.Dec.{leb}

-- one number is within another, or past it
pub within : (m n : ℕ) → (m ≤ n) ⊎ (n < m)
within m n = by (leb m n) (λ e. leb-true m n e) (λ e. leb-false m n e)
  where
    by : (b : Bool) → (b ≡ true → m ≤ n) → (b ≡ false → n < m) → (m ≤ n) ⊎ (n < m)
    by true f g = inl (f refl)
    by false f g = inr (g refl)
