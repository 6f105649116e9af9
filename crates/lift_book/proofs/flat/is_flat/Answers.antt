use Rattle.std.proofs.Common.{refl, ◌∙◌, arith}
use Rattle.walker.proofs.bodies.Tested.{left_none, entry_out, entry_step, bodies_tested}
use Rattle.lift_book.proofs.flat.Telling.{book_told}
use Rattle.lift_book.proofs.flat.is_flat.Goals as goal

pub loop-d-init : goal.loop-d-init
loop-d-init c =
    let i = c.into_iter-d-iterator.ensures.into_iter_gives in
    let e = c.each_definition-d-items.ensures in
    record { same_book = rw i e.book; left = λ r t. rw (i, e.ahead) at t }

pub returns-then-not-definition_flat : goal.returns-then-not-definition_flat
returns-then-not-definition_flat c =
    let l = c.loop-d.invariant in
    book_told (bodies_tested refl (l.left _ (entry_out (rw l.same_book at c.in-Some.ensures.steps.1) refl c.definition_flat.ensures c.if-not-definition_flat.true)))

pub loop-d-preserved : goal.loop-d-preserved
loop-d-preserved c =
    let l = c.loop-d.invariant in
    let f = c.in-Some.ensures.steps in
    record { same_book = f.0 ∙ l.same_book; left = λ r t. l.left r (entry_step (rw l.same_book at f.1) refl c.definition_flat.ensures c.if-not-definition_flat.false t) }

pub returns : goal.returns
returns c = book_told (bodies_tested refl (c.loop-d.invariant.left _ (left_none (omega (arith, c.in-None.ensures.steps.1)))))
