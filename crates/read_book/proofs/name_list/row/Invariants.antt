use Rattle.read_book.proofs.name_list.Rows.{RunsOn}
use Rattle.read_book.proofs.name_list.row.Given as goal

abbrev pub invariant-loop : goal.invariant-loop
invariant-loop g l = RunsOn (goal.F-post g l.item) l.n l.initial.here l.counter l.here
