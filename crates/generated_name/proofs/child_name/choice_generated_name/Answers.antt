use Rattle.definition.specs.Names.{case_segment}
use Rattle.buffer.proofs.writes.Wrote.{glue}
use Rattle.generated_name.proofs.child_name.Held.{extend}
use Rattle.generated_name.proofs.child_name.choice_generated_name.Goals as goal

pub returns : goal.returns
unfolding case_segment
returns c = extend (glue c.put_bytes-o.ensures c.put_decimal.ensures)
