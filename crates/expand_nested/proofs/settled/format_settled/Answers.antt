use Rattle.expand_nested.proofs.settled.Settling.{format_settles}
use Rattle.expand_nested.proofs.settled.format_settled.Goals as goal

pub returns : goal.returns
returns c = format_settles c.name_past-params.ensures c.params_past-body.ensures _ _ _ c.walk_over-w.ensures.0 c.walk_over-w.ensures.1 c.params_past-body.auto.marks c.first.ensures c.all_unknown.ensures
