use Prim.Native.Nat.{suc, ◌+◌, ◌-◌, ◌≤◌}
use lib.ListN.{length}
use Rattle.lift_tables.specs.tables.Parts.{pairs}
use Rattle.lift_tables.specs.tables.Rows.{names_from, types_from}
use Rattle.write_result.specs.tables.Lent.{tables_of}
use Rattle.write_result.specs.lifted.Model.{params_bytes}
use Rattle.buffer.proofs.writes.Rest.{Rest}
use Rattle.write_result.proofs.lifted.put_params.Given as goal

abbrev pub invariant-loop-j : goal.invariant-loop-j
invariant-loop-j l =
    let names = names_from l.t.book.now (pairs l.t.params.now) in
    let types = types_from (pairs l.t.params.now) in
    let left = l.fn.first + l.fn.count - l.j in
    record {
      within : l.o ≤ suc (length l.out);
      rest : Rest l.initial.out l.initial.o (params_bytes (tables_of l.t) (names l.fn.first l.fn.count) (types l.fn.first l.fn.count)) l.out l.o (params_bytes (tables_of l.t) (names l.j left) (types l.j left));
    }
