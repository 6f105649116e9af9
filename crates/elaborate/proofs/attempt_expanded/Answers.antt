use Prim.Native.Nat.{ℕ}
use native.Mathlib.Omega.{arith}
use lib.ListN.{length-replicate}
use Rattle.open_book.proofs.opened.Opening.{expands_all}
use Rattle.elaborate.proofs.Answering.{opened_book, reports_lifts}
use Rattle.elaborate.proofs.attempt_expanded.Goals as goal

pub slice_bounds-expanded-end : goal.slice_bounds-expanded-end
slice_bounds-expanded-end c = let n = length-replicate {0} {A = ℕ} 2048 0 in omega (arith, (c.in-Ok.ensures.within (omega (arith, n))).1, n)

pub lift_expanded-requires : goal.lift_expanded-requires
lift_expanded-requires c = (opened_book _ _ (expands_all _ (c.in-Ok.ensures.within (omega (arith, length-replicate {0} {A = ℕ} 2048 0))).0), omega (arith, c.requires.wide, c.expand_book.auto.work))

pub returns-in-Ok : goal.returns-in-Ok
returns-in-Ok c = reports_lifts _ _ (expands_all _ (c.in-Ok.ensures.within (omega (arith, length-replicate {0} {A = ℕ} 2048 0))).0) c.in-Ok.ensures.placed c.lift_expanded.ensures
