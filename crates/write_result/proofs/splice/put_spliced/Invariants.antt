use mathlib.Core.Path.{◌≡◌}
use mathlib.Core.List.{◌++◌}
use Prim.Native.Nat.{◌-◌, ◌≤◌, ◌<◌, min}
use lib.ListN.{get_or}
use Rattle.buffer.specs.writes.Buf.{part}
use Rattle.write_result.specs.splice.Model.{on_from, spliced}
use Rattle.write_result.specs.tables.Lent.{tables_of}
use Rattle.buffer.proofs.writes.Rest.{Rest}
use Rattle.write_result.proofs.splice.put_spliced.Given as goal

abbrev pub invariant-loop-p : goal.invariant-loop-p
invariant-loop-p l = record {
  behind : l.gap ≤ l.p;
  begins : l.p < l.to → get_or l.t.number.now l.p 0 ≡ 0 → ⊥;
  rest : Rest l.initial.out l.at (spliced (tables_of l.t) l.from l.to) l.out l.o (part l.gap (min l.p l.to) l.t.book.now ++ on_from (tables_of l.t) l.p l.to);
}

abbrev pub decreases-loop-p : goal.decreases-loop-p
decreases-loop-p l = l.to - l.p
