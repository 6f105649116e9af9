use mathlib.Core.Path.{◌≡◌}
use Prim.Native.Nat.{◌-◌}
use Rattle.collect_params.specs.labels.Labels.{way_of, end_of}
use Rattle.collect_params.proofs.labels.Labels.end_of.Given as goal

abbrev pub invariant-loop-depth : goal.invariant-loop-depth
invariant-loop-depth l = end_of l.self.s.now l.name l.self.table.now l.self.b ≡ way_of l.self.s.now l.name l.self.table.now l.self.b (l.self.b - l.depth) l.depth l.x
