use mathlib.Core.Path.{◌≡◌}
use Prim.Native.Nat.{◌-◌}
use Rattle.name_table.specs.forks.Forks.{slot_from, slot_of}
use Rattle.name_table.proofs.forks.slot_of.Given as goal

abbrev pub invariant-loop : goal.invariant-loop
invariant-loop l = slot_of l.ways l.name l.rows ≡ slot_from l.ways l.name (l.rows - l.counter) l.x
