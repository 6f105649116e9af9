use Prim.Native.Nat.{ℕ}
use native.Mathlib.Omega.{arith}
use lib.ListN.{length-replicate}
use Rattle.std.proofs.lemmas.Result.{err_from_is_err_and}
use Rattle.elaborate.proofs.Answering.{opened_book, reports_code, reports_lifts}
use Rattle.elaborate.proofs.expand_fully.Goals as goal

pub slice_bounds-expanded-end : goal.slice_bounds-expanded-end
slice_bounds-expanded-end c = let n = length-replicate {0} {A = ℕ} 16384 0 in omega (arith, (c.in_ok-len.ensures.by n).fits, n)

pub lift_expanded-requires : goal.lift_expanded-requires
lift_expanded-requires c = (opened_book _ _ (c.in_ok-len.ensures.by (length-replicate {0} {A = ℕ} 16384 0)), omega (arith, c.requires.wide, c.expand_book.auto.work))

pub returns-in_err-len : goal.returns-in_err-len
returns-in_err-len c =
    let p = err_from_is_err_and c.from_residual.result c.from_residual.ensures.1 in
    rw (p.1, p.2) (reports_code _ _ (c.in_err-len.ensures.by (length-replicate {0} {A = ℕ} 16384 0)) c.in_err-len.ensures.placed)

pub returns : goal.returns
returns c = reports_lifts _ _ (c.in_ok-len.ensures.by (length-replicate {0} {A = ℕ} 16384 0)) c.in_ok-len.ensures.placed c.lift_expanded.ensures
