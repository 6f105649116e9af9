use Rattle.buffer.specs.writer.Entry.{entry_bytes}
use Rattle.buffer.proofs.writer.put_entry.Goals as goal

pub returns : goal.returns
unfolding entry_bytes
returns c = rw (← c.saturating_sub-n.ensures) c.entry_at.ensures
