use mathlib.Core.Path.{◌∙◌}
use Rattle.listing_lines.proofs.printed.Lines.{lists}
use Rattle.listing_lines.proofs.printed.put_result.Goals as goal

pub returns : goal.returns
returns c =
    let d = rw c.from.ensures at c.put_count-b.ensures in
    let l = rw c.from-2.ensures at c.put_count-c.ensures in
    lists c.put_bytes-a.ensures d l (c.from-3.ensures ∙ c.saturating_sub.ensures) c.put_lines.ensures
