use mathlib.Core.Path.{◌≡◌}
use Prim.Native.Nat.{◌-◌}
use lib.ListN.{length}
use Rattle.collect_params.specs.roots.Recorded.{times_use, name_by}
use Rattle.collect_params.proofs.roots.names.Given as goal

abbrev pub invariant-loop : goal.invariant-loop
invariant-loop l = (length l.uses ≡ length l.initial.uses) × (times_use (name_by l.s l.cut l.bound) l.k l.initial.here l.initial.uses ≡ times_use (name_by l.s l.cut l.bound) (l.k - l.counter) l.here l.uses)
