use Rattle.buffer.proofs.writes.Put.{part_within}
use Rattle.buffer.proofs.parts.part.Goals as goal

pub returns : goal.returns
returns g c = part_within _ _ _ _ _ c.min-end.ensures c.min.ensures
