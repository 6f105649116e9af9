use native.Mathlib.Omega.{arith}
use Rattle.std.proofs.lemmas.Result.{err_from_is_err_and}
use Rattle.walker.proofs.definitions.Listed.{begun}
use Rattle.expand_definitions.proofs.in_order.Order.{going, going_format, going_step, going_refused, going_all, kept}
use Rattle.expand_definitions.proofs.in_order.expand_in_order.Goals as goal

pub loop-d-init : goal.loop-d-init
loop-d-init c =
    let e = c.each_definition-d-items.ensures in
    let b = begun c.into_iter-d-iterator.ensures.into_iter_gives (e.book, e.ahead) in
    record { book = b.0; going = going c.requires.0 b.1 }

pub expand_definition-requires : goal.expand_definition-requires
expand_definition-requires c =
    let p = c.requires in
    let l = c.loop-d.invariant in
    let f = (rw l.book at c.in-Some.ensures.steps).1 in
    let a = c.loop-d.auto in
    (l.going.good, kept p.1 a.path a.binders a.bound a.uses a.spare, rw f.at (going_format l.going f.some f.kind p.2), p.3)

pub returns-in_err-named : goal.returns-in_err-named
returns-in_err-named c =
    let l = c.loop-d.invariant in
    let f = (rw l.book at c.in-Some.ensures.steps).1 in
    let p = err_from_is_err_and c.from_residual.result c.from_residual.ensures.1 in
    rw (p.1, p.2) (going_refused l.going f.some f.kind (rw (c.in_err-named.was, f.at) at c.expand_definition.ensures))

pub loop-d-preserved : goal.loop-d-preserved
loop-d-preserved c =
    let l = c.loop-d.invariant in
    let s = rw l.book at c.in-Some.ensures.steps in
    let f = s.1 in
    record { book = s.0; going = going_step l.going f.some f.kind (rw (c.in_ok-named.was, f.at) at c.expand_definition.ensures) c.requires.2 f.others }

pub returns : goal.returns
returns c = going_all c.loop-d.invariant.going (omega (arith, c.in-None.ensures.steps.1))
