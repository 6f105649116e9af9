use mathlib.Core.Path.{refl, ◌∙◌}
use native.Mathlib.Omega.{arith}
use Rattle.walker.proofs.bodies.Tested.{left_none, entry_out, entry_step, bodies_tested}
use Rattle.premise.proofs.holds.bodies_hold.Goals as goal

pub returns-then-not-definition_holds : goal.returns-then-not-definition_holds
returns-then-not-definition_holds c =
    let l = c.loop-d.invariant in
    bodies_tested refl (l.goes _ (entry_out (rw l.book at c.in-Some.ensures.steps.1) l.marks_long c.definition_holds.ensures c.if-not-definition_holds.true))

pub loop-d-preserved : goal.loop-d-preserved
loop-d-preserved c =
    let l = c.loop-d.invariant in
    let s = c.in-Some.ensures.steps in
    record {
      book = s.0 ∙ l.book;
      marks_long = c.definition_holds.auto.marks ∙ l.marks_long;
      goes = λ r t. l.goes r (entry_step (rw l.book at s.1) l.marks_long c.definition_holds.ensures c.if-not-definition_holds.false t);
    }

pub returns : goal.returns
returns c = bodies_tested refl (c.loop-d.invariant.goes _ (left_none (omega (arith, c.in-None.ensures.steps.1))))
