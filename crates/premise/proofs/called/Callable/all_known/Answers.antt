use mathlib.Core.Path.{refl, sym, ◌∙◌}
use native.Mathlib.Omega.{arith}
use Rattle.walker.proofs.bodies.Places.{pair, every_next, every_stop, every_end}
use Rattle.premise.proofs.called.Callable.all_known.Goals as goal

pub returns-then-not-is_known : goal.returns-then-not-is_known
returns-then-not-is_known c =
    let l = c.loop-pair.invariant in
    let s = c.in-Some.ensures.steps.1 in
    sym (l.left ∙ every_stop _ (pair _ s.0 (s.1 ∙ l.size) c.from.ensures refl) c.is_known.ensures c.if-not-is_known.true)

pub loop-pair-preserved : goal.loop-pair-preserved
loop-pair-preserved c =
    let l = c.loop-pair.invariant in
    let s = c.in-Some.ensures.steps in
    record {
      can_next = omega (arith, s.0, l.size);
      is_finite = tt;
      size = s.0 ∙ l.size;
      left = l.left ∙ every_next _ (pair _ s.1.0 (s.1.1 ∙ l.size) c.from.ensures refl) c.is_known.ensures c.if-not-is_known.false;
    }

pub returns : goal.returns
returns c =
    let l = c.loop-pair.invariant in
    sym (l.left ∙ every_end _ _ (omega (arith, c.in-None.ensures.steps.1.0, l.size)))
