use native.Mathlib.Omega.{arith}
use mathlib.Core.Path.{refl, ◌∙◌}
use Rattle.walker.proofs.definitions.Params.{params_none, params_step, params_past}
use Rattle.walker.proofs.definitions.params_past.Goals as goal

pub loop-init : goal.loop-init
loop-init c = (refl, λ r p. p)

pub loop-preserved : goal.loop-preserved
loop-preserved c =
    let l = c.loop.invariant in
    (c.param_past-here.auto.marks ∙ l.0, λ r p. l.1 r (params_step _ _ c.loop-test.true c.param_past-here.ensures p))

pub returns : goal.returns
returns c = params_past c.number-k.ensures c.past-here.ensures (c.loop.invariant.1 _ (params_none _ _ (omega arith)))
