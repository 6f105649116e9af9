use mathlib.Core.Path.{sym, ◌∙◌}
use native.Mathlib.Omega.{arith}
use Rattle.write_result.proofs.next_lift.Next.{block_start, block_last, block_on, block_found}
use Rattle.write_result.proofs.next_lift.past_empty.Goals as goal

pub loop-p-init : goal.loop-p-init
loop-p-init c = block_start c.args.number.now _ _ _ c.min-end.ensures

pub loop-p-preserved : goal.loop-p-preserved
loop-p-preserved c = c.loop-p.invariant ∙ block_on c.args.number.now _ _ c.starts_with.ensures.value (omega arith) c.if-starts_with.true

pub returns-else-starts_with : goal.returns-else-starts_with
returns-else-starts_with c = sym (c.loop-p.invariant ∙ block_found c.args.number.now _ _ c.starts_with.ensures.value (omega arith) c.if-starts_with.false)

pub returns-after-loop-p : goal.returns-after-loop-p
returns-after-loop-p c = sym (c.loop-p.invariant ∙ block_last _ _ _ (omega arith))
