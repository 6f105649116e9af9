use Rattle.read_book.proofs.cursor.Laws.{a_none, a_out, a_in}
use Rattle.read_book.proofs.cursor.Cursor.among.Goals as goal

pub returns-in_err-b : goal.returns-in_err-b
returns-in_err-b c = a_none _ _ _ _ c.in_err-b.ensures c.from_residual.ensures.1

pub returns-then-b-low : goal.returns-then-b-low
returns-then-b-low c = a_out _ _ _ _ c.in_ok-b.ensures c.then-b-low.either

pub returns : goal.returns
returns c = a_in _ _ _ _ c.in_ok-b.ensures c.if-b-low.false c.if-high-b.false
