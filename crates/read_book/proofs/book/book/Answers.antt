use Rattle.read_book.proofs.book.Whole.{book_bad}
use Rattle.read_book.proofs.book.book.Goals as goal

pub returns-in_err-n : goal.returns-in_err-n
returns-in_err-n c = book_bad _ c.args.more c.in_err-n.ensures c.from_residual.ensures.1

pub bodies-requires : goal.bodies-requires
bodies-requires c = c.in_ok-n.ensures.told
