use Rattle.std.proofs.Common.{arith}
use Rattle.buffer.proofs.writes.Wrote.{wrote_past, copied_whole, copied_cut}
use Rattle.buffer.proofs.writes.put_bytes.Goals as goal

pub returns-then-dst-at : goal.returns-then-dst-at
returns-then-dst-at c = wrote_past _ _ _ (omega arith) (omega arith)

pub returns-then-room-src : goal.returns-then-room-src
returns-then-room-src c = copied_cut _ _ _ _ c.if-dst-at.false c.if-room-src.true c.copy_from_slice.ensures.after

pub returns : goal.returns
returns c = copied_whole _ _ _ _ c.if-dst-at.false c.if-room-src.false c.copy_from_slice-2.ensures.after
