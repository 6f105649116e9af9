use Rattle.generated_name.proofs.segment.Segment.{Right}
use Rattle.buffer.specs.writes.Buf.{Wrote}
use Rattle.definition.specs.Names.{letters}
use lib.ListN.{take}
use Rattle.generated_name.proofs.segment.generated_segment.Given as goal

abbrev pub invariant-loop-b : goal.invariant-loop-b
invariant-loop-b l = Right l.table × Wrote l.initial.dst l.at (letters (take l.b-index l.label)) l.dst l.o
