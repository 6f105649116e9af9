use mathlib.Core.Path.{◌≡◌}
use Prim.Native.Nat.{◌-◌}
use lib.ListN.{length}
use Rattle.name_table.specs.forks.Forks.{byte_from, byte_apart_of}
use Rattle.name_table.proofs.forks.byte_apart.Given as goal

abbrev pub invariant-loop-i : goal.invariant-loop-i
invariant-loop-i l = byte_apart_of l.a l.b ≡ byte_from l.a l.b (length l.a - l.i) l.i
