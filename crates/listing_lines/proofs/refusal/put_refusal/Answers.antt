use Rattle.listing_lines.proofs.refusal.Placed.{with_place, without_place}
use Rattle.listing_lines.proofs.refusal.put_refusal.Goals as goal

pub returns-then-has_place : goal.returns-then-has_place
returns-then-has_place c =
    let b = rw (c.from-2.ensures, c.from.ensures) at c.put_count-b.ensures in
    let d = rw c.from-then-has_place.ensures at c.put_count-d.ensures in
    with_place _ _ c.has_place.ensures c.put_bytes-a.ensures b c.if-has_place.true c.put_bytes-c.ensures d c.put_byte.ensures

pub returns : goal.returns
returns c =
    let b = rw (c.from-2.ensures, c.from.ensures) at c.put_count-b.ensures in
    without_place _ _ c.has_place.ensures c.put_bytes-a.ensures b c.if-has_place.false c.put_byte-2.ensures
