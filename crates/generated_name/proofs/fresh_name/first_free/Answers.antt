use Rattle.buffer.proofs.writes.Wrote as written
use Rattle.generated_name.proofs.fresh_name.FreeNames.{trying_none, search_stops, search_goes_on, search_ends}
use native.Mathlib.Omega.{arith}
use Rattle.generated_name.proofs.fresh_name.first_free.Goals as goal

pub loop-number-init : goal.loop-number-init
loop-number-init c = trying_none _ _ _ _ _ (omega arith)

pub is_free-requires : goal.is_free-requires
is_free-requires c =
    let a = c.loop-number.invariant.long in let b = written.same_length c.numbered_name-len.ensures.wrote in omega arith

pub returns-then-is_free : goal.returns-then-is_free
returns-then-is_free c = search_stops c.loop-number.invariant c.numbered_name-len.ensures c.requires.1 (λ h. rw c.if-is_free.true at c.is_free.ensures)

pub loop-number-preserved : goal.loop-number-preserved
loop-number-preserved c = search_goes_on c.loop-number.invariant c.numbered_name-len.ensures c.requires.1 c.loop-number-test.true (rw c.if-is_free.false at c.is_free.ensures)

pub returns : goal.returns
returns c = search_stops (search_ends c.loop-number.invariant c.loop-number-test.false) c.numbered_name-len-2.ensures c.requires.1 (λ h. absurd (omega arith))
