use borrow.Author.Tests.{eq-eqb, ne_eqb}
use native.Mathlib.Omega.{arith}
use mathlib.Core.Path.{refl, ◌∙◌}
use Rattle.walker.specs.measure.Measure.{many, case_by, choice_by, tail_by, combinator_by, argument_by}
use Rattle.walker.proofs.measure.Level.{combinator_level, argument_level, more, done, all_steps}
use Rattle.walker.proofs.measure.+measure.Goals as goal

pub argument-returns-then-levels-eq0 : goal.argument-returns-then-levels-eq0
unfolding argument_by
argument-returns-then-levels-eq0 t c = rw (argument_level, eq-eqb _ _ c.if-levels-eq0.true) (refl, refl)

pub argument-returns : goal.argument-returns
unfolding argument_by
argument-returns t c = rw (argument_level, ne_eqb _ _ c.if-levels-eq0.false) c.measure_inner.ensures

pub arguments-loop-init : goal.arguments-loop-init
arguments-loop-init t c = (refl, refl)

pub arguments-loop-preserved : goal.arguments-loop-preserved
arguments-loop-preserved t c = (omega arith, c.loop.invariant.1 ∙ more _ _ _ _ _ c.loop-test.true ∙ rw (← c.argument-here.ensures.0, ← c.argument-here.ensures.1))

pub arguments-returns : goal.arguments-returns
unfolding many
arguments-returns t c = rw (← c.number-k.ensures, ← c.past-here.ensures, all_steps _ _ _ _ (c.loop.invariant.1 ∙ done _ _ _ _ _ c.loop-test.false)) (refl, refl)

pub choice-loop-init : goal.choice-loop-init
choice-loop-init t c = (refl, refl)

pub choice-loop-preserved : goal.choice-loop-preserved
unfolding case_by
choice-loop-preserved t c = (omega arith, c.loop.invariant.1 ∙ more _ _ _ _ _ c.loop-test.true ∙ rw (← c.label_past.ensures, ← c.measure_combinator-here.ensures.0, ← c.measure_combinator-here.ensures.1))

pub choice-returns : goal.choice-returns
unfolding choice_by many
choice-returns t c = rw (← c.selector_past-a.ensures, ← c.byte-kind.ensures, ← c.past-b.ensures, ← c.number-k.ensures, ← c.past-here.ensures, all_steps _ _ _ _ (c.loop.invariant.1 ∙ done _ _ _ _ _ c.loop-test.false)) (refl, refl)

pub fields-loop-init : goal.fields-loop-init
fields-loop-init t c = (refl, refl)

pub fields-loop-preserved : goal.fields-loop-preserved
fields-loop-preserved t c = (omega arith, c.loop.invariant.1 ∙ more _ _ _ _ _ c.loop-test.true ∙ rw (← c.field-here.ensures.0, ← c.field-here.ensures.1))

pub fields-returns : goal.fields-returns
unfolding many
fields-returns t c = rw (← c.number-k.ensures, ← c.past-here.ensures, all_steps _ _ _ _ (c.loop.invariant.1 ∙ done _ _ _ _ _ c.loop-test.false)) (refl, refl)

pub measure_combinator-returns-then-levels-eq0 : goal.measure_combinator-returns-then-levels-eq0
unfolding combinator_by
measure_combinator-returns-then-levels-eq0 t c = rw (combinator_level, eq-eqb _ _ c.if-levels-eq0.true) (refl, refl)

pub measure_combinator-returns-then-byte-eq-MORE : goal.measure_combinator-returns-then-byte-eq-MORE
unfolding combinator_by tail_by
measure_combinator-returns-then-byte-eq-MORE t c = rw (combinator_level, ne_eqb _ _ c.if-levels-eq0.false, ← c.measure_inner-e.ensures.0, ← c.measure_inner-e.ensures.1, ← c.byte.ensures, ← c.past-a.ensures, eq-eqb _ _ c.if-byte-eq-MORE.true) c.measure_combinator.ensures

pub measure_combinator-returns : goal.measure_combinator-returns
unfolding combinator_by tail_by
measure_combinator-returns t c = rw (combinator_level, ne_eqb _ _ c.if-levels-eq0.false, ← c.measure_inner-e.ensures.0, ← c.measure_inner-e.ensures.1, ← c.byte.ensures, ← c.past-a.ensures, ne_eqb _ _ c.if-byte-eq-MORE.false) (refl, refl)
