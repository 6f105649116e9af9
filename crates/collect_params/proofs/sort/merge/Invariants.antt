use Rattle.collect_params.proofs.sort.Merging.{Merging}
use Rattle.collect_params.proofs.sort.merge.Given as goal

abbrev pub invariant-loop-slot : goal.invariant-loop-slot
invariant-loop-slot l = Merging l.s l.left l.right l.initial.dst l.l l.r l.slot-index l.dst
