use mathlib.Core.Path.{refl, ◌∙◌}
use Rattle.std.specs.Prelude.{Some, None}
use Rattle.expand_macros.proofs.replace_call.Opening as opening
use Rattle.expand_macros.proofs.replace_call.Call.opened.Goals as goal

pub returns-then-marks-w : goal.returns-then-marks-w
returns-then-marks-w c =
    opening.opened c.name_past-p.ensures c.number-k.ensures c.past-first.ensures c.names_past-body.ensures c.past-q.ensures c.name_past-j.ensures c.past-arg.ensures
    _ c.walk_over-u.ensures.0 c.walk_over-u.ensures.1 c.put_part.ensures _ (c.walk_over-w.ensures.0 ∙ rw c.first_area.ensures) (c.walk_over-w.ensures.1 ∙ rw c.first_area.ensures)
    None c.if-marks-w.true (c.walk_over-w.auto.marks ∙ c.walk_over-u.auto.marks)

pub returns : goal.returns
returns c =
    opening.opened c.name_past-p.ensures c.number-k.ensures c.past-first.ensures c.names_past-body.ensures c.past-q.ensures c.name_past-j.ensures c.past-arg.ensures
    _ c.walk_over-u.ensures.0 c.walk_over-u.ensures.1 c.put_part.ensures _ (c.walk_over-w.ensures.0 ∙ rw c.first_area.ensures) (c.walk_over-w.ensures.1 ∙ rw c.first_area.ensures)
    (Some _) (c.if-marks-w.false, refl, refl, refl, refl) (c.walk_over-w.auto.marks ∙ c.walk_over-u.auto.marks)
