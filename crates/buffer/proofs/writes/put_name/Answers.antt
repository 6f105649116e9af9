use Rattle.buffer.specs.writes.Buf.{name_bytes}
use Rattle.buffer.proofs.writes.Wrote.{glue}
use Rattle.buffer.proofs.writes.put_name.Goals as goal

pub returns : goal.returns
unfolding name_bytes
returns c = glue c.put_item-first.ensures c.put_bytes.ensures
