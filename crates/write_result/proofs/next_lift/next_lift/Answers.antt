use mathlib.Core.Path.{sym, ◌∙◌}
use Rattle.write_result.proofs.next_lift.Next.{next_on, next_here, next_done, past_empty_lem}
use Rattle.write_result.proofs.next_lift.next_lift.Goals as goal

pub loop-p-init : goal.loop-p-init
loop-p-init c = rw c.past_empty-start.ensures (past_empty_lem _ _ _)

pub returns-then-item-ne0 : goal.returns-then-item-ne0
returns-then-item-ne0 c = sym (next_here _ _ _ c.loop-p-test.true (rw c.item.ensures at c.if-item-ne0.true)) ∙ c.loop-p.invariant

pub loop-p-preserved : goal.loop-p-preserved
loop-p-preserved c = sym (next_on _ _ _ c.loop-p-test.true (sym c.item.ensures ∙ c.if-item-ne0.false)) ∙ c.loop-p.invariant

pub returns : goal.returns
returns c = c.max.ensures ∙ next_done _ _ _ _ c.loop-p.auto.p-end c.loop-p-test.false (rw c.past_empty-start.ensures (past_empty_lem _ _ _)) c.loop-p.invariant
