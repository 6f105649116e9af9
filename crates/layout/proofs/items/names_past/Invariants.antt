use mathlib.Core.Path.{◌≡◌}
use Prim.Native.Nat.{◌-◌}
use Rattle.layout.specs.items.At.{names_past_of}
use Rattle.layout.proofs.items.names_past.Given as goal

abbrev pub invariant-loop : goal.invariant-loop
invariant-loop l = names_past_of l.s l.count l.at ≡ names_past_of l.s (l.count - l.counter) l.here
