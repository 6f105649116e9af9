use mathlib.Core.Path.{refl, ◌∙◌}
use native.Mathlib.Omega.{arith}
use Rattle.walker.specs.measure.Measure.{many}
use Rattle.walker.proofs.measure.Level.{more, done, all_steps}
use Rattle.walker.specs.measure_book.Measure.{param_at}
use Rattle.walker.proofs.measure_book.params.Goals as goal

pub loop-preserved : goal.loop-preserved
unfolding param_at
loop-preserved c = (omega arith, c.loop.invariant.1 ∙ more _ _ _ _ _ c.loop-test.true ∙ rw (← c.name_past.ensures, ← c.measure_inner-here.ensures.0, ← c.measure_inner-here.ensures.1))

pub returns : goal.returns
unfolding many
returns c = rw (← c.number-k.ensures, ← c.past-here.ensures, all_steps _ _ _ _ (c.loop.invariant.1 ∙ done _ _ _ _ _ c.loop-test.false)) (refl, refl)

pub loop-init : goal.loop-init
loop-init c = (refl, refl)
