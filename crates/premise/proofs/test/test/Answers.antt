use Prim.Native.Nat.{ℕ}
use native.Mathlib.Omega.{arith}
use lib.ListN.{length-replicate, length-take}
use Rattle.std.proofs.lemmas.Result.{err_from_is_err_and}
use Rattle.premise.proofs.test.Telling.{tells_code, tells}
use Rattle.premise.proofs.test.test.Goals as goal

pub slice_bounds-holds-end : goal.slice_bounds-holds-end
slice_bounds-holds-end c = simp length-take (omega (arith, (c.in_ok-len.ensures.by (length-replicate {0} {A = ℕ} 16384 0)).fits, length-replicate {0} {A = ℕ} 16384 0, c.open_book.auto.out))

pub returns-in_err-len : goal.returns-in_err-len
returns-in_err-len c =
    let e = err_from_is_err_and c.from_residual.result c.from_residual.ensures.1 in
    rw (e.1, e.2) (tells_code (length-replicate {0} {A = ℕ} 16384 0) c.in_err-len.ensures)

pub returns : goal.returns
returns c = tells (length-replicate {0} {A = ℕ} 16384 0) c.in_ok-len.ensures c.holds.ensures
