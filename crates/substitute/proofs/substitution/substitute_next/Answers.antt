use mathlib.Core.Path.{refl, ◌∙◌}
use native.Mathlib.Omega.{arith}
use Rattle.buffer.proofs.writes.Wrote as wrote
use Rattle.substitute.proofs.substitution.Turns.{turned_cut, turned_over, turned_whole}
use Rattle.substitute.proofs.substitution.substitute_next.Goals as goal

pub returns-then-areas-o : goal.returns-then-areas-o
returns-then-areas-o c =
    let w = c.substitute_in_combinator-o.ensures in
    turned_cut _ _ _ c.skip_over-end.ensures.0 c.skip_over-end.ensures.1 c.name_at.ensures c.part.ensures c.first.ensures w (omega (arith, wrote.same_length w)) _ _

pub returns-then-marks-w : goal.returns-then-marks-w
returns-then-marks-w c =
    let w = c.substitute_in_combinator-o.ensures in
    let m = c.walk_over-w.auto.marks in
    turned_over _ _ _ c.skip_over-end.ensures.0 c.skip_over-end.ensures.1 c.name_at.ensures c.part.ensures c.first.ensures w (omega (arith, wrote.same_length w)) c.put_back.ensures _ (c.walk_over-w.ensures.0 ∙ rw c.first_area.ensures) (c.walk_over-w.ensures.1 ∙ rw c.first_area.ensures)
    (rw m at c.then-marks-w.either)

pub returns : goal.returns
returns c =
    let w = c.substitute_in_combinator-o.ensures in
    turned_whole _ _ _ c.skip_over-end.ensures.0 c.skip_over-end.ensures.1 c.name_at.ensures c.part.ensures c.first.ensures w (omega (arith, wrote.same_length w)) c.put_back.ensures _ (c.walk_over-w.ensures.0 ∙ rw c.first_area.ensures) (c.walk_over-w.ensures.1 ∙ rw c.first_area.ensures) (omega (arith, c.walk_over-w.auto.marks)) (omega arith) _ c.name_past.ensures refl refl refl
