use borrow.Author.Tests.{eq-eqb, ne_eqb}
use native.Mathlib.Omega.{arith}
use mathlib.Core.Path.{refl, ◌∙◌}
use Rattle.walker.specs.calls.Walk.{many, tail_by, combinator_by, argument_by}
use Rattle.walker.proofs.calls.Level.{combinator_level, argument_level, more, done, all_steps}
use Rattle.walker.proofs.calls.+calls.Goals as goal

pub argument-returns-then-levels-eq0 : goal.argument-returns-then-levels-eq0
unfolding argument_by
argument-returns-then-levels-eq0 t c = rw (argument_level, eq-eqb _ _ c.if-levels-eq0.true) (refl, refl)

pub argument-returns : goal.argument-returns
unfolding argument_by
argument-returns t c = rw (argument_level, ne_eqb _ _ c.if-levels-eq0.false) c.inner.ensures

pub arguments-loop-init : goal.arguments-loop-init
arguments-loop-init t c = (refl, refl)

pub arguments-loop-preserved : goal.arguments-loop-preserved
arguments-loop-preserved t c = (omega arith, c.loop.invariant.1 ∙ more _ _ _ _ _ c.loop-test.true ∙ rw (← c.argument-here.ensures.0, ← c.argument-here.ensures.1))

pub arguments-returns : goal.arguments-returns
unfolding many
arguments-returns t c = rw (← c.number-k.ensures, ← c.past.ensures, ← c.moved-here.ensures, all_steps _ _ _ _ (c.loop.invariant.1 ∙ done _ _ _ _ _ c.loop-test.false)) (refl, refl)

pub cases-loop-init : goal.cases-loop-init
cases-loop-init t c = (refl, refl)

pub cases-loop-preserved : goal.cases-loop-preserved
cases-loop-preserved t c = (omega arith, c.loop.invariant.1 ∙ more _ _ _ _ _ c.loop-test.true ∙ rw (← c.case-here.ensures.0, ← c.case-here.ensures.1))

pub cases-returns : goal.cases-returns
unfolding many
cases-returns t c = rw (← c.number-k.ensures, ← c.past.ensures, ← c.moved-here.ensures, all_steps _ _ _ _ (c.loop.invariant.1 ∙ done _ _ _ _ _ c.loop-test.false)) (refl, refl)

pub combinator-returns-then-levels-eq0 : goal.combinator-returns-then-levels-eq0
unfolding combinator_by tail_by
combinator-returns-then-levels-eq0 t c = rw (combinator_level, eq-eqb _ _ c.if-levels-eq0.true) (refl, refl)

pub combinator-returns-then-more-eq-MORE : goal.combinator-returns-then-more-eq-MORE
unfolding combinator_by tail_by
combinator-returns-then-more-eq-MORE t c = rw (combinator_level, ne_eqb _ _ c.if-levels-eq0.false, ← c.byte-tag.ensures, ← c.inner-v.ensures.0, ← c.inner-v.ensures.1, ← c.byte-more.ensures, ← c.past.ensures, ← c.moved-u.ensures, eq-eqb _ _ c.if-more-eq-MORE.true, ← c.chained_to.ensures) c.combinator.ensures

pub combinator-returns : goal.combinator-returns
unfolding combinator_by tail_by
combinator-returns t c = rw (combinator_level, ne_eqb _ _ c.if-levels-eq0.false, ← c.byte-tag.ensures, ← c.inner-v.ensures.0, ← c.inner-v.ensures.1, ← c.byte-more.ensures, ← c.past.ensures, ← c.moved-u.ensures, ne_eqb _ _ c.if-more-eq-MORE.false) (refl, refl)

pub fields-loop-init : goal.fields-loop-init
fields-loop-init t c = (refl, refl)

pub fields-loop-preserved : goal.fields-loop-preserved
fields-loop-preserved t c = (omega arith, c.loop.invariant.1 ∙ more _ _ _ _ _ c.loop-test.true ∙ rw (← c.field-here.ensures.0, ← c.field-here.ensures.1))

pub fields-returns : goal.fields-returns
unfolding many
fields-returns t c = rw (← c.number-k.ensures, ← c.past.ensures, ← c.moved-here.ensures, all_steps _ _ _ _ (c.loop.invariant.1 ∙ done _ _ _ _ _ c.loop-test.false)) (refl, refl)
