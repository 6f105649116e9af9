-- The parts of the first of two areas, copied to the second.
-- Assumes nothing.
use mathlib.Core.Path.{◌≡◌}
use mathlib.Core.List.{List}
use Prim.Native.Nat.{ℕ, ◌+◌, ◌≤◌, min}
use native.Mathlib.Omega.{arith}
use lib.ListN.{length, take}
use lib.Seq.{take-take}
use Rattle.buffer.specs.areas.First.{first}

-- what stands before a place of the second area begins with the first
pub first_before : (l : List ℕ) (at : ℕ) → min 16384 (length l + 1) ≤ at → at ≤ length l → first (take at l) ≡ first l
first_before l at h k = take-take 16384 at l (omega arith)
