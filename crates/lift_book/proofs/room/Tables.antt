-- Tables before the naming pass.
-- Assumes nothing.
use mathlib.Core.Path.{◌≡◌, refl}
use mathlib.Core.List.{List}
use Prim.Native.Nat.{ℕ, zero, suc, ◌+◌, ◌≤◌, ◌<◌}
use native.Mathlib.Omega.{arith}
use lib.ListN.{length, get_or, replicate, length-replicate}
use Rattle.layout.specs.items.At.{byte_at}
use Rattle.walker.proofs.ends.Ends.{none_right}
use Rattle.walker.specs.measure_book.Measure.{measured_book}
use Rattle.walker.proofs.measure_book.Measured.{measured_right}
use Rattle.lift_book.specs.lift_with.Lent.{Lent}

zero_at : (n p : ℕ) → get_or {A = ℕ} (replicate n 0) p 0 ≡ 0
zero_at zero p = refl
zero_at (suc n) zero = refl
zero_at (suc n) (suc p) = zero_at n p

-- tables of zeros for books of at most n bytes, and the ends of one walk over the book: no end is known before it
pub lent : {s ends : List ℕ} (n m : ℕ) → n + 64 ≡ m → length s ≤ n → ((i : ℕ) → get_or s i 0 < 256) → ends ≡ measured_book s (replicate n 0)
    → Lent s ends (replicate n 0) (replicate n 0) (replicate m 0) (replicate n 0) (replicate n 0)
unfolding byte_at
lent {s} n m e l b f =
    let x = length-replicate {0} {A = ℕ} n 0 in
    let y = length-replicate {0} {A = ℕ} m 0 in
    record {
      right = rw f (measured_right s (replicate n 0) (none_right (zero_at n)));
      long = omega arith;
      blank = zero_at n;
      binders_long = omega arith;
      scratch = record { small = b; labels = omega arith; uses_long = omega arith; spare_long = omega arith };
    }
