use Rattle.buffer.proofs.writes.Wrote.{glue}
use Rattle.generated_name.proofs.child_name.Held.{extend}
use Rattle.generated_name.proofs.child_name.child_generated_name.Goals as goal

pub returns : goal.returns
returns c = extend (glue c.put_item-first.ensures c.generated_segment.ensures)
