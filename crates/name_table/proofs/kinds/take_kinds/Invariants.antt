use Rattle.name_table.proofs.kinds.Rows.{Back}
use Rattle.name_table.proofs.kinds.take_kinds.Given as goal

abbrev pub invariant-loop-i : goal.invariant-loop-i
invariant-loop-i l = Back l.s l.low l.high l.initial.places l.initial.ways l.places l.ways l.n l.i
