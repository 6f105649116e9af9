use mathlib.Core.Path.{◌≡◌}
use Prim.Native.Nat.{◌+◌, ◌-◌}
use Rattle.name_table.specs.forks.Forks.{bit_from}
use Rattle.name_table.proofs.forks.bits_apart.Given as goal

abbrev pub invariant-loop-d : goal.invariant-loop-d
invariant-loop-d l = bit_from l.a.name.now l.b.name.now l.count l.first ≡ bit_from l.a.name.now l.b.name.now (l.first + l.count - l.d) l.d
