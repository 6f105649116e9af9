use native.Mathlib.Omega.{arith}
use Rattle.std.proofs.lemmas.Result.{err_from_is_err_and}
use Rattle.what_comes_back.proofs.Reporting.{expanded_short}
use Rattle.lift_book.proofs.unlifted.Copying.{copied_short, copied_whole}
use Rattle.lift_book.proofs.unlifted.lift_nothing.Goals as goal

pub returns-in_err-copy_book : goal.returns-in_err-copy_book
returns-in_err-copy_book c =
    let p = err_from_is_err_and c.from_residual.result c.from_residual.ensures.1 in
    rw (p.1, p.2) (copied_short c.requires.1 c.in_err-copy_book.ensures)

pub overflow_cast-result : goal.overflow_cast-result
overflow_cast-result c = omega (arith, expanded_short c.requires.0)

pub returns : goal.returns
returns c = copied_whole c.requires.1 c.in_ok-copy_book.ensures c.number.ensures
