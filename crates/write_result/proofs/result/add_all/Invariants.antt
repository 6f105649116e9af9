use Rattle.std.proofs.Common.{◌+◌}
use Rattle.lift_tables.specs.tables.Parts.{pairs}
use Rattle.write_result.specs.tables.Lent.{tables_of}
use Rattle.write_result.specs.result.Model.{definitions_from}
use Rattle.write_result.proofs.result.Adds.{Left}
use Rattle.write_result.proofs.result.add_all.Given as goal

abbrev pub invariant-loop-i : goal.invariant-loop-i
invariant-loop-i l =
    let ds = definitions_from (tables_of l.t) (pairs l.order) l.kept (l.kept + l.n) in
    Left l.fn.out 0 l.at (ds 0) l.w.buf.now l.i l.w.at (ds l.i)

abbrev pub invariant-loop-i-2 : goal.invariant-loop-i-2
invariant-loop-i-2 l =
    let ds = definitions_from (tables_of l.t) (pairs l.order) l.kept (l.kept + l.n) in
    Left l.fn.out 0 l.at (ds 0) l.w.buf.now (l.kept + l.i) l.w.at (ds (l.kept + l.i))
