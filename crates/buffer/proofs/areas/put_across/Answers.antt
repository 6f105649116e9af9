use Rattle.std.proofs.Common.{◌≡◌, ap, ◌∙◌, arith}
use Rattle.buffer.specs.writes.Buf.{part}
use Rattle.buffer.specs.areas.First.{first}
use Rattle.buffer.proofs.writes.Wrote.{wrote_past, wrote_split, place_within, same_length}
use Rattle.buffer.proofs.areas.Within.{first_before}
use Rattle.buffer.proofs.areas.put_across.Goals as goal

pub returns-then-areas-at : goal.returns-then-areas-at
returns-then-areas-at c = wrote_past _ _ _ (omega arith) (omega arith)

pub overflow_add-result-2 : goal.overflow_add-result-2
overflow_add-result-2 c =
    let w = c.put_bytes.ensures in
    omega (arith, place_within w, same_length w, c.split_at_mut-before.ensures.back_len)

pub returns : goal.returns
returns c =
    let g = c.args in
    let s = c.split_at_mut-before.ensures in
    let q : c.part.result.now ≡ part g.a g.e (first g.areas.now) = c.part.ensures ∙ ap (part g.a g.e) (c.first_area.ensures ∙ ap first s.front ∙ first_before _ _ c.requires c.if-areas-at.false) in
    rw s.front (wrote_split _ _ c.if-areas-at.false (rw (s.back, q) at c.put_bytes.ensures))
