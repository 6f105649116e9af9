use mathlib.Core.Path.{refl}
use Prim.Native.Nat.{ℕ}
use native.Mathlib.Omega.{arith}
use lib.ListN.{length-replicate}
use Rattle.name_table.proofs.forks.Rows.{clear_new}
use Rattle.expand_macros.proofs.pass.Passing.{passed_short, passed_grown, passed_book}
use Rattle.expand_macros.proofs.pass.expand_marked.Goals as goal

pub returns-then-out-bodies : goal.returns-then-out-bodies
returns-then-out-bodies c = passed_short c.count_kept.ensures c.min-n.ensures c.if-out-bodies.true

pub returns-then-out-end : goal.returns-then-out-end
returns-then-out-end c =
    passed_grown c.table-rows.ensures (length-replicate {0} {A = ℕ} 512 0) (length-replicate {0} {A = ℕ} 1280 0) (clear_new 1280 (omega arith))
    c.count_kept.ensures c.min-n.ensures c.put_u16.ensures refl c.if-out-bodies.false c.expand_all-end.ensures c.expand_all-end.auto.out c.if-out-end.true

pub returns : goal.returns
returns c =
    passed_book c.table-rows.ensures (length-replicate {0} {A = ℕ} 512 0) (length-replicate {0} {A = ℕ} 1280 0) (clear_new 1280 (omega arith))
    c.count_kept.ensures c.min-n.ensures c.put_u16.ensures refl c.if-out-bodies.false c.expand_all-end.ensures c.expand_all-end.auto.out c.if-out-end.false
