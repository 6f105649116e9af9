use Rattle.premise.proofs.holds.Bodies.{format_calls, format_chains}
use Rattle.premise.proofs.holds.format_holds.Goals as goal

pub returns-then-w : goal.returns-then-w
returns-then-w c = format_calls _ c.name_past-params.ensures c.params_past-body.ensures _ _ _ c.walk_over-w.ensures.0 c.walk_over-w.ensures.1 _ _ c.params_past-body.auto.marks c.if-w.true c.first.ensures c.all_known.ensures

pub returns-else-w : goal.returns-else-w
returns-else-w c = rw c.if-w.false (format_chains _ c.name_past-params.ensures c.params_past-body.ensures _ _ _ c.walk_over-w.ensures.0 c.walk_over-w.ensures.1 _ _ c.params_past-body.auto.marks c.if-w.false)
