use Rattle.read_book.proofs.contents.Whole.{k_none, k_many, k_ok}
use Rattle.read_book.proofs.contents.count.Goals as goal

pub returns-in_err-n : goal.returns-in_err-n
returns-in_err-n c = k_none _ c.in_err-n.ensures c.from_residual.ensures.1

pub returns-then-n-gt512 : goal.returns-then-n-gt512
returns-then-n-gt512 c = k_many _ c.in_ok-n.ensures c.if-n-gt512.true

pub returns : goal.returns
returns c = k_ok _ c.in_ok-n.ensures c.if-n-gt512.false
