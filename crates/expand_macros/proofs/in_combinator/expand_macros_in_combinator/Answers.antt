use mathlib.Core.Path.{refl, ◌∙◌}
use native.Mathlib.Omega.{arith}
use Rattle.walker.proofs.bodies.Places.{pair}
use Rattle.expand_macros.proofs.in_combinator.Expanding.{expanding_all, expanding_on, expanding_call, expanding_stop}
use Rattle.expand_macros.proofs.in_combinator.expand_macros_in_combinator.Goals as goal

pub returns-then-out-o : goal.returns-then-out-o
returns-then-out-o c =
    let l = c.loop-pair.invariant in
    let s = c.in-Some.ensures.steps.1 in
    l.going.goes _ _ (rw (pair _ s.0 (s.1 ∙ l.size) c.from-at.ensures c.from-copied.ensures)
    (expanding_stop c.in-Some-macro_of.ensures c.put_part-q.ensures c.expand-o.ensures c.expand-o.auto.out c.if-out-o.true))

pub loop-pair-preserved-else-out-o : goal.loop-pair-preserved-else-out-o
loop-pair-preserved-else-out-o c =
    let l = c.loop-pair.invariant in
    let s = c.in-Some.ensures.steps in
    record {
      can_next = omega (arith, s.0, l.size);
      is_finite = tt;
      size = s.0 ∙ l.size;
      going = record {
        areas_long = c.expand-o.auto.areas ∙ l.going.areas_long;
        row_long = c.expand-o.auto.marks ∙ l.going.row_long;
        out_long = c.expand-o.auto.out ∙ c.put_part-q.auto.dst ∙ l.going.out_long;
        goes = λ d r e. l.going.goes d r (rw (pair _ s.1.0 (s.1.1 ∙ l.size) c.from-at.ensures c.from-copied.ensures)
            (expanding_call c.in-Some-macro_of.ensures c.put_part-q.ensures c.expand-o.ensures c.expand-o.auto.out c.expand-o.auto.areas e));
      };
    }

pub loop-pair-preserved : goal.loop-pair-preserved
loop-pair-preserved c =
    let l = c.loop-pair.invariant in
    let s = c.in-Some.ensures.steps in
    record {
      can_next = omega (arith, s.0, l.size);
      is_finite = tt;
      size = s.0 ∙ l.size;
      going = record {
        areas_long = l.going.areas_long;
        row_long = l.going.row_long;
        out_long = l.going.out_long;
        goes = λ d r e. l.going.goes d r (rw (pair _ s.1.0 (s.1.1 ∙ l.size) c.from-at.ensures refl) (expanding_on c.in_default.ensures e));
      };
    }

pub returns : goal.returns
returns c =
    let l = c.loop-pair.invariant in
    let s = c.in-None.ensures.steps.1 in
    l.going.goes _ _ (expanding_all (omega (arith, s.0, l.size)) c.put_part.ensures)
