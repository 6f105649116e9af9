use mathlib.Core.Path.{◌≡◌}
use Rattle.write_result.specs.next_lift.Next.{next_lift_of}
use Rattle.write_result.proofs.next_lift.next_lift.Given as goal

abbrev pub invariant-loop-p : goal.invariant-loop-p
invariant-loop-p l = next_lift_of l.number l.p l.to ≡ next_lift_of l.number l.from l.to
