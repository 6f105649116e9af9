use native.Mathlib.Omega.{arith}
use mathlib.Core.Path.{◌∙◌}
use Rattle.read_book.proofs.book.Going.{begin, room, go_bad, go_on, go_end}
use Rattle.read_book.proofs.book.bodies.Goals as goal

pub loop-init : goal.loop-init
loop-init c = rw c.from-width.ensures (begin _ c.args.more _ c.requires)

pub overflow_add-here : goal.overflow_add-here
overflow_add-here c = omega (arith, room _ c.args.more _ _ _ _ c.loop.invariant c.loop-test.true)

pub bounds-s-here : goal.bounds-s-here
bounds-s-here c = omega (arith, room _ c.args.more _ _ _ _ c.loop.invariant c.loop-test.true)

pub returns-in_err-body : goal.returns-in_err-body
returns-in_err-body c =
    go_bad _ c.args.more _ _ _ _ c.loop.invariant c.loop-test.true _ _ (c.from.ensures ∙ c.number.ensures) c.in_err-body.ensures c.from_residual.ensures.1

pub overflow_add-here-in-loop : goal.overflow_add-here-in-loop
overflow_add-here-in-loop c = omega (arith, room _ c.args.more _ _ _ _ c.loop.invariant c.loop-test.true)

pub loop-preserved : goal.loop-preserved
loop-preserved c = rw c.from-width.ensures (go_on _ c.args.more _ _ _ _ c.loop.invariant c.loop-test.true _ (c.from.ensures ∙ c.number.ensures) c.in_ok-body.ensures)

pub returns : goal.returns
returns c = go_end _ c.args.more _ _ _ _ c.loop.invariant c.loop-test.false
