use native.Mathlib.Omega.{arith}
use Rattle.std.proofs.lemmas.Result.{err_from_is_err_and}
use Rattle.elaborate.proofs.Answering.{plain_book, reports_code, reports_plain}
use Rattle.elaborate.proofs.attempt.Goals as goal

pub lift_book-requires : goal.lift_book-requires
lift_book-requires c =
    let b = rw c.in-Plain.is at c.in_ok-begin.ensures in
    (plain_book _ _ b.1, omega (arith, b.0.wide))

pub attempt_expanded-requires : goal.attempt_expanded-requires
attempt_expanded-requires c = rw c.in-Macros.is at c.in_ok-begin.ensures

pub returns-in_err-begin : goal.returns-in_err-begin
returns-in_err-begin c =
    let p = err_from_is_err_and c.from_residual.result c.from_residual.ensures.1 in
    rw (p.1, p.2) (reports_code _ _ c.in_err-begin.ensures.0 c.in_err-begin.ensures.1)

pub returns-in-Plain : goal.returns-in-Plain
returns-in-Plain c =
    let b = rw c.in-Plain.is at c.in_ok-begin.ensures in
    reports_plain _ _ b.1 b.0.faultless c.lift_book.ensures
