use mathlib.Core.Path.{◌∙◌}
use Rattle.name_table.proofs.taken.Take.{entered, row_or}
use Rattle.name_table.proofs.taken.enter_row.Goals as goal

pub returns : goal.returns
returns c = entered _ _ _ _ _ _ c.slot_of-x.ensures (c.unwrap_or-row.ensures ∙ row_or _ _ _ _ c.row_at.ensures) c.from-place.ensures c.name_of.ensures c.enter.ensures
