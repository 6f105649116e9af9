use mathlib.Core.Path.{refl, ◌∙◌}
use native.Mathlib.Omega.{arith}
use Rattle.std.proofs.lemmas.Result.{err_from_is_err_and}
use Rattle.expand_nested.proofs.passes.Repeating.{again_settled, again_left, again_grown, again_step}
use Prim.Native.Nat.{◌-◌}
use Rattle.expand_nested.proofs.passes.expand_again.Goals as goal

pub loop-init : goal.loop-init
loop-init c = record { book_long = refl; areas_long = refl; next_long = refl; going = record { goes = λ a r t. t } }

pub returns-then-settled : goal.returns-then-settled
returns-then-settled c = c.loop.invariant.going.goes _ _ (again_settled c.first-here.ensures c.settled.ensures c.if-settled.true)

pub returns-in_err-n : goal.returns-in_err-n
returns-in_err-n c =
    let l = c.loop.invariant in
    let e = err_from_is_err_and c.from_residual.result c.from_residual.ensures.1 in
    rw (e.1, e.2) (l.going.goes _ _ (again_grown c.first-here.ensures c.settled.ensures c.if-settled.false {left₁ = 14 - c.loop.counter} (omega arith) l.areas_long l.next_long c.in_err-n.ensures))

pub loop-preserved : goal.loop-preserved
loop-preserved c =
    let l = c.loop.invariant in
    record {
      book_long = c.pass_back.auto.book ∙ l.book_long;
      areas_long = c.pass_back.auto.areas ∙ l.areas_long;
      next_long = c.pass_back.auto.next ∙ l.next_long;
      going = record { goes = λ a r t. l.going.goes a r (again_step c.first-here.ensures c.settled.ensures c.if-settled.false (omega arith) l.areas_long l.next_long c.in_ok-n.ensures c.pass_back.auto.book t) };
    }

pub returns-then-settled-2 : goal.returns-then-settled-2
returns-then-settled-2 c = c.loop.invariant.going.goes _ _ (again_settled c.first-last.ensures c.settled-2.ensures c.if-settled-2.true)

pub returns : goal.returns
returns c = c.loop.invariant.going.goes _ _ (again_left c.first-last.ensures c.settled-2.ensures c.if-settled-2.false (omega arith))
