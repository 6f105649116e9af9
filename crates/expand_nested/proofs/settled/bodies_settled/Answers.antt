use mathlib.Core.Path.{refl, ◌∙◌}
use native.Mathlib.Omega.{arith}
use Rattle.walker.proofs.bodies.Tested.{left_none, entry_out, entry_step, bodies_tested}
use Rattle.expand_nested.proofs.settled.bodies_settled.Goals as goal

pub returns-then-not-definition_settled : goal.returns-then-not-definition_settled
returns-then-not-definition_settled c =
    let l = c.loop-d.invariant in
    record { says = λ ms t. bodies_tested refl (l.goes ms t _ (entry_out (rw l.book at c.in-Some.ensures.steps.1) l.marks_long (c.definition_settled.ensures.says ms t) c.if-not-definition_settled.true)) }

pub loop-d-preserved : goal.loop-d-preserved
loop-d-preserved c =
    let l = c.loop-d.invariant in
    let s = c.in-Some.ensures.steps in
    record {
      book = s.0 ∙ l.book;
      marks_long = c.definition_settled.auto.marks ∙ l.marks_long;
      goes = λ ms t r e. l.goes ms t r (entry_step (rw l.book at s.1) l.marks_long (c.definition_settled.ensures.says ms t) c.if-not-definition_settled.false e);
    }

pub returns : goal.returns
returns c = record { says = λ ms t. bodies_tested refl (c.loop-d.invariant.goes ms t _ (left_none (omega (arith, c.in-None.ensures.steps.1)))) }
