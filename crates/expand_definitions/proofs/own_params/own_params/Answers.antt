use mathlib.Core.Path.{◌∙◌}
use native.Mathlib.Omega.{arith}
use Rattle.expand_definitions.proofs.own_params.Own.{none_yet, type_first, binding_step, binding_all, params_shown, own_all}
use Rattle.expand_definitions.proofs.own_params.own_params.Goals as goal

pub loop-b-init : goal.loop-b-init
loop-b-init c = λ ps after h d e. none_yet _ _ ps after _ h d

pub overflow_sub-end : goal.overflow_sub-end
overflow_sub-end c =
    let p = c.requires in
    let k = params_shown c.past-here.ensures (c.from-count.ensures ∙ c.number.ensures) p.0.of p.0.after p.0.is in
    let g = c.loop-b.invariant p.0.of p.0.after k.1 p.0.deep k.0 in
    rw (c.inner_end-end.ensures, c.name_past-inner.ensures) (type_first p.1 g (omega (arith, k.0, c.loop-b-test.true)))

pub loop-b-preserved : goal.loop-b-preserved
loop-b-preserved c =
    let p = c.requires in
    λ ps after h d e. binding_step p.1 (c.loop-b.invariant ps after h d e) (omega (arith, e, c.loop-b-test.true)) (omega (arith, p.2, c.loop-b.auto.binders)) c.name_past-inner.ensures c.inner_end-end.ensures c.put_binder.ensures

pub returns : goal.returns
returns c = own_all c.past-here.ensures (c.from-count.ensures ∙ c.number.ensures) (λ ps after h d e. binding_all c.requires.1 (c.loop-b.invariant ps after h d e) (omega (arith, e, c.loop-b-test.false)))
