use native.Mathlib.Omega.{arith}
use Rattle.read_book.proofs.cursor.Laws.{t_none, t_in, t_short, t_at}
use Rattle.read_book.proofs.cursor.Cursor.text.Goals as goal

pub returns-in_err-n : goal.returns-in_err-n
returns-in_err-n c = t_none _ _ c.in_err-n.ensures c.from_residual.ensures.1

pub overflow_sub-s : goal.overflow_sub-s
overflow_sub-s c = t_in _ _ c.in_ok-n.ensures

pub returns-then-s-from : goal.returns-then-s-from
returns-then-s-from c = t_short _ _ c.in_ok-n.ensures c.if-s-from.true

pub returns : goal.returns
returns c = t_at _ _ c.in_ok-n.ensures (omega (arith, t_in _ _ c.in_ok-n.ensures))
