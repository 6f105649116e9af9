use Rattle.std.proofs.Common.{◌∙◌}
use Rattle.definition.specs.Write.{w_u16}
use Rattle.buffer.proofs.writes.Wrote.{glue}
use Rattle.buffer.proofs.writer.Written.{wrote_of}
use Rattle.buffer.proofs.writer.entry_at.Goals as goal

pub returns : goal.returns
unfolding w_u16
returns c =
    let a = wrote_of c.put_byte.ensures.value in
    let b = wrote_of c.put_byte-2.ensures.value in
    let d = wrote_of c.put_u16.ensures.value in
    let e = wrote_of c.put_u16-2.ensures.value in
    let last = c.out-1.given.1.1 (cc) ∙ c.drop-w.ensures in
    let first = c.new-w.ensures.value in
    rw last (rw first at (glue (glue (glue a b) d) e))
