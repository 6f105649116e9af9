use Prim.Native.Nat.{suc, ◌+◌, ◌-◌, ◌≤◌}
use lib.ListN.{length}
use Rattle.lift_tables.specs.tables.Parts.{pairs}
use Rattle.lift_tables.specs.tables.Rows.{names_from}
use Rattle.write_result.specs.invocation.Invocation.{names_bytes}
use Rattle.buffer.proofs.writes.Rest.{Rest}
use Rattle.write_result.proofs.invocation.put_names.Given as goal

abbrev pub invariant-loop-j : goal.invariant-loop-j
invariant-loop-j l = record {
  within : l.o ≤ suc (length l.out);
  rest : Rest l.initial.out l.initial.o (names_bytes (names_from l.t.book.now (pairs l.t.params.now) l.fn.first l.fn.count)) l.out l.o (names_bytes (names_from l.t.book.now (pairs l.t.params.now) l.j (l.fn.first + l.fn.count - l.j)));
}
