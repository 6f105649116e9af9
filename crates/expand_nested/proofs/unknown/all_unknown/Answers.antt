use mathlib.Core.Path.{refl, ◌∙◌}
use native.Mathlib.Omega.{arith}
use Rattle.walker.proofs.bodies.Places.{pair}
use Rattle.expand_nested.proofs.unknown.Calls.{marked_stop, marked_next, marked_end}
use Rattle.expand_nested.proofs.unknown.all_unknown.Goals as goal

pub returns-then-not-is_unknown : goal.returns-then-not-is_unknown
returns-then-not-is_unknown c =
    let l = c.loop-pair.invariant in
    let s = c.in-Some.ensures.steps.1 in
    marked_stop l.marked (pair _ s.0 (s.1 ∙ l.size) c.from.ensures refl) c.is_unknown.ensures c.if-not-is_unknown.true

pub loop-pair-preserved : goal.loop-pair-preserved
loop-pair-preserved c =
    let l = c.loop-pair.invariant in
    let s = c.in-Some.ensures.steps in
    record {
      can_next = omega (arith, s.0, l.size);
      is_finite = tt;
      size = s.0 ∙ l.size;
      marked = marked_next l.marked (pair _ s.1.0 (s.1.1 ∙ l.size) c.from.ensures refl) c.is_unknown.ensures c.if-not-is_unknown.false;
    }

pub returns : goal.returns
returns c =
    let l = c.loop-pair.invariant in
    marked_end l.marked (omega (arith, c.in-None.ensures.steps.1.0, l.size))
