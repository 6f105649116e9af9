use mathlib.Core.Path.{◌≡◌}
use Prim.Native.Nat.{◌-◌, ◌/◌}
use Rattle.write_result.specs.next_lift.Next.{block_of, past_empty_of}
use Rattle.write_result.proofs.next_lift.past_empty.Given as goal

abbrev pub invariant-loop-p : goal.invariant-loop-p
invariant-loop-p l = past_empty_of l.number l.from l.to ≡ block_of l.number ((l.end - l.p) / 64) l.p

abbrev pub decreases-loop-p : goal.decreases-loop-p
decreases-loop-p l = l.end - l.p
