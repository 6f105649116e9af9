use Prim.Native.Nat.{ℕ}
use native.Mathlib.Omega.{arith}
use lib.ListN.{length-replicate}
use Rattle.name_table.proofs.forks.Rows.{clear_new}
use Rattle.premise.proofs.holds.Bodies.{test_holds}
use Rattle.premise.proofs.holds.holds.Goals as goal

pub invariant_of-t : goal.invariant_of-t
invariant_of-t c = record { table = (c.take_kinds-n.ensures.right (clear_new 1280 (omega arith)) (let l = length-replicate {0} {A = ℕ} 1280 0 in omega arith)).table }

pub returns : goal.returns
returns c = test_holds c.take_kinds-n.ensures (length-replicate {0} {A = ℕ} 512 0) (length-replicate {0} {A = ℕ} 1280 0) (clear_new 1280 (omega arith)) (length-replicate {0} {A = ℕ} 8192 0) c.bodies_hold.ensures
