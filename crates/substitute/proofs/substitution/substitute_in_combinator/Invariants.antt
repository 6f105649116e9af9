use Prim.Native.Nat.{◌*◌}
use Rattle.substitute.proofs.substitution.Copied.{Copied}
use Rattle.substitute.proofs.substitution.substitute_in_combinator.Given as goal

abbrev pub invariant-loop-call : goal.invariant-loop-call
invariant-loop-call l = Copied l.param l.arg l.to l.marks l.initial.areas l.areas l.at l.o (2 * l.call-index)
