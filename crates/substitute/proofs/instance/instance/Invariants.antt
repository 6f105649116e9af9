use Prim.Native.Nat.{◌-◌}
use Rattle.substitute.proofs.instance.Making.{Making}
use Rattle.substitute.proofs.instance.instance.Given as goal

abbrev pub invariant-loop : goal.invariant-loop
invariant-loop l = Making l.macros l.book l.initial.areas l.initial.marks l.initial.here l.pairs l.areas l.marks l.here (l.pairs - l.counter)
