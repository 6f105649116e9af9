use mathlib.Core.Path.{sym}
use Rattle.collect_params.proofs.labels.Steps.{slot_open, slot_taken}
use Rattle.collect_params.proofs.labels.Labels.slot_of.Goals as goal

pub returns-then-is_none : goal.returns-then-is_none
returns-then-is_none c = sym (slot_open _ _ _ _ c.end_of-x.ensures _ _ c.link.ensures c.if-is_none.ensures)

pub returns : goal.returns
returns c = sym (slot_taken _ _ _ _ c.end_of-x.ensures _ _ c.link.ensures c.if-is_none.ensures)
