use Rattle.std.proofs.Common.{arith, sym, ◌∙◌}
use Rattle.buffer.proofs.writes.Put.{put-nil, part_short, part_clip, copied_is}
use Rattle.buffer.proofs.areas.put_back.Goals as goal

pub returns-then-end-gt16384 : goal.returns-then-end-gt16384
returns-then-end-gt16384 c = c.copy_within.ensures.after ∙ copied_is c.args.areas.now 16384 c.min-end.result 0 (omega arith) (omega arith) ∙ rw (part_clip 16384 _ _ _ c.min-end.ensures)

pub returns-else-end-gt16384 : goal.returns-else-end-gt16384
returns-else-end-gt16384 c = rw (part_short 16384 _ _ _ c.min-end.ensures c.if-end-gt16384.false) (sym (put-nil _ _))
