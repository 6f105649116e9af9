use native.Mathlib.Omega.{arith}
use Rattle.buffer.proofs.writes.Wrote.{glue}
use Rattle.listing_lines.proofs.printed.Lines.{line_order, line_const, line_none, line_format}
use Rattle.listing_lines.proofs.printed.put_line.Goals as goal

pub returns-in-1 : goal.returns-in-1
returns-in-1 c =
    let w = glue (glue (glue (glue c.put_word-a.ensures c.put_byte-b.ensures) c.put_shown-c.ensures) c.put_count-d.ensures) c.put_byte.ensures in
    line_format c.in-1.is (rw (c.name_at-name.ensures, c.from-params.ensures, c.number.ensures, c.name_past.ensures) at w)

pub returns-in-2 : goal.returns-in-2
returns-in-2 c = line_const c.in-2.is (rw c.name_at-name.ensures at (glue c.put_bytes-a.ensures (glue c.put_shown-b.ensures c.put_byte-in-2.ensures)))

pub returns-in-3 : goal.returns-in-3
returns-in-3 c = line_order c.in-3.is c.put_bytes.ensures

pub returns-in_default : goal.returns-in_default
returns-in_default c = line_none (λ e. omega arith) (λ e. omega arith) (λ e. omega arith) c.put_bytes-in_default.ensures
