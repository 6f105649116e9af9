use mathlib.Core.Path.{◌∙◌}
use native.Mathlib.Omega.{arith}
use Rattle.name_table.proofs.kinds.Rows.{takes_low, takes_high, takes_full, takes_row, offset_low, far}
use Rattle.name_table.proofs.kinds.take_entry.Goals as goal
use Rattle.name_table.proofs.kinds.take_entry.Goals.{then-kind-low-via-then-kind-low, then-kind-low-via-else-kind-low+then-high-kind}
use Rattle.name_table.proofs.kinds.take_entry.Goals.{then-at-ge32768-via-then-at-ge32768, then-at-ge32768-via-else-at-ge32768+then-n-ge512, then-at-ge32768-via-else-at-ge32768+else-n-ge512+then-places-n, then-at-ge32768-via-else-at-ge32768+else-n-ge512+else-places-n+then-ways-n}

pub returns-then-kind-low : goal.returns-then-kind-low
returns-then-kind-low c =
    elim c.then-kind-low.branch [
      | then-kind-low-via-then-kind-low w ↦ takes_low c.byte-kind.ensures w.if-kind-low.true
      | then-kind-low-via-else-kind-low+then-high-kind w ↦ takes_high c.byte-kind.ensures w.if-kind-low.false w.if-high-kind.true
    ]

pub returns-then-at-ge32768 : goal.returns-then-at-ge32768
returns-then-at-ge32768 c =
    elim c.then-at-ge32768.branch [
      | then-at-ge32768-via-then-at-ge32768 w ↦ takes_full c.byte-kind.ensures (λ at d ds l q m k. far _ _ c.past-offset.ensures (c.from-at.ensures ∙ c.number.ensures) (offset_low l) q w.if-at-ge32768.true)
      | then-at-ge32768-via-else-at-ge32768+then-n-ge512 w ↦ takes_full c.byte-kind.ensures (λ at d ds l q m k. omega (arith, w.if-n-ge512.true))
      | then-at-ge32768-via-else-at-ge32768+else-n-ge512+then-places-n w ↦ takes_full c.byte-kind.ensures (λ at d ds l q m k. omega (arith, w.if-places-n.true, k.places_long))
      | then-at-ge32768-via-else-at-ge32768+else-n-ge512+else-places-n+then-ways-n w ↦ takes_full c.byte-kind.ensures (λ at d ds l q m k. omega (arith, w.if-ways-n.true, k.ways_long))
    ]

pub list_name-requires : goal.list_name-requires
list_name-requires c = (omega arith, omega arith, omega arith)

pub returns : goal.returns
returns c = takes_row (omega arith) (omega arith) (omega arith) c.list_name.ensures _ _ _ _ c.byte-kind.ensures c.if-kind-low.false c.if-high-kind.false (c.from-at.ensures ∙ c.number.ensures ∙ rw c.past-offset.ensures)
