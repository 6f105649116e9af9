use native.Mathlib.Omega.{arith}
use lib.ListN.{length-take}
use Rattle.read_book.proofs.body.Judge.{no_range, body_fails, body_left, body_sound}
use Rattle.read_book.proofs.body.body.Goals as goal

pub returns-then-s-to : goal.returns-then-s-to
returns-then-s-to c = no_range _ _ _ _ c.then-s-to.either

pub slice_bounds-definition-end : goal.slice_bounds-definition-end
slice_bounds-definition-end c = simp length-take (omega arith)

pub returns-in_err-end : goal.returns-in_err-end
returns-in_err-end c = body_fails _ _ _ _ c.if-s-to.false c.if-to-from.false c.in_err-end.ensures c.from_residual.ensures.1

pub returns-then-end-to : goal.returns-then-end-to
returns-then-end-to c = body_left _ _ _ _ c.if-s-to.false c.if-to-from.false c.in_ok-end.ensures c.if-end-to.true

pub returns : goal.returns
returns c = body_sound _ _ _ _ c.if-s-to.false c.if-to-from.false c.in_ok-end.ensures c.if-end-to.false
