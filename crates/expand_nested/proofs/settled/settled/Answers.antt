use Prim.Native.Nat.{ℕ}
use native.Mathlib.Omega.{arith}
use lib.ListN.{length-replicate}
use Rattle.name_table.proofs.forks.Rows.{clear_new}
use Rattle.expand_nested.proofs.settled.Settling.{book_settles}
use Rattle.expand_nested.proofs.settled.settled.Goals as goal

pub returns : goal.returns
returns c = book_settles c.table-rows.ensures (length-replicate {0} {A = ℕ} 512 0) (length-replicate {0} {A = ℕ} 1280 0) (clear_new 1280 (omega arith)) (length-replicate {0} {A = ℕ} 8192 0) c.bodies_settled.ensures
