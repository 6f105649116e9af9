use Rattle.listing_lines.proofs.shown.Shown.{Goes}
use Rattle.listing_lines.proofs.shown.put_shown.Given as goal

abbrev pub invariant-loop-b : goal.invariant-loop-b
invariant-loop-b l = Goes l.name l.initial.out l.initial.o l.b-index l.out l.o
