use Rattle.std.proofs.lemmas.Result.{err_from_is_err_and}
use Rattle.open_book.proofs.opened.Opening.{opens_refused}
use Rattle.open_book.proofs.opened.open_book.Goals as goal

pub returns-in_err-begin : goal.returns-in_err-begin
returns-in_err-begin c =
    let e = err_from_is_err_and c.from_residual.result c.from_residual.ensures.1 in
    rw (e.1, e.2) (opens_refused c.in_err-begin.ensures)
