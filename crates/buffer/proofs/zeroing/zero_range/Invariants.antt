use mathlib.Core.Path.{◌≡◌}
use Prim.Native.Nat.{◌-◌, ◌≤◌}
use lib.ListN.{length}
use Rattle.buffer.specs.writes.Buf.{put}
use Rattle.buffer.specs.zeroing.Zeros.{zeros}
use Rattle.buffer.proofs.zeroing.zero_range.Given as goal

abbrev pub invariant-loop-p : goal.invariant-loop-p
invariant-loop-p l = (l.a ≤ l.p) × (l.p ≤ l.end) × (length l.dst ≡ length l.initial.dst) × (l.dst ≡ put l.initial.dst l.a (zeros (l.p - l.a)))

abbrev pub decreases-loop-p : goal.decreases-loop-p
decreases-loop-p l = l.end - l.p
