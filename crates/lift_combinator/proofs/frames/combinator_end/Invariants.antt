use mathlib.Core.Path.{◌≡◌}
use Prim.Native.Nat.{◌-◌}
use Rattle.lift_combinator.specs.frames.Frames.{combinator_end_of, Standing}
use Rattle.lift_combinator.proofs.frames.combinator_end.Given as goal

abbrev pub invariant-loop : goal.invariant-loop
invariant-loop l = record { left : combinator_end_of l.levels l.s l.at ≡ combinator_end_of (l.levels - l.counter) l.s l.here; standing : Standing l.s l.here }
