use Prim.Native.Nat.{ℕ}
use native.Mathlib.Omega.{arith}
use lib.ListN.{length-replicate}
use Rattle.std.proofs.lemmas.Result.{err_from_is_err_and}
use Rattle.elaborate_nested.proofs.Nesting.{work_long, opened_book, reports_code, reports_lifts}
use Rattle.elaborate_nested.proofs.attempt_nested.Goals as goal

pub open_nested-requires : goal.open_nested-requires
open_nested-requires c = length-replicate {0} {A = ℕ} 16384 0

pub slice_bounds-expanded-end : goal.slice_bounds-expanded-end
slice_bounds-expanded-end c = omega (arith, c.in_ok-len.ensures.by.fits, (length-replicate {0} {A = ℕ} 16384 0))

pub lift_expanded-requires : goal.lift_expanded-requires
lift_expanded-requires c = (opened_book c.in_ok-len.ensures, omega (arith, work_long c.in_ok-len.ensures, c.open_nested.auto.work))

pub returns-in_err-len : goal.returns-in_err-len
returns-in_err-len c =
    let p = err_from_is_err_and c.from_residual.result c.from_residual.ensures.1 in
    rw (p.1, p.2) (reports_code c.in_err-len.ensures)

pub returns : goal.returns
returns c = reports_lifts c.in_ok-len.ensures c.lift_expanded.ensures
