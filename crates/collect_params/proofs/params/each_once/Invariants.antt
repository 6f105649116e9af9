use lib.ListN.{length}
use Rattle.collect_params.proofs.params.Once.{Dropping}
use Rattle.collect_params.proofs.params.each_once.Given as goal

abbrev pub invariant-loop-i : goal.invariant-loop-i
invariant-loop-i l = Dropping l.s (length l.initial.uses) l.initial.uses l.last l.m l.i l.uses
