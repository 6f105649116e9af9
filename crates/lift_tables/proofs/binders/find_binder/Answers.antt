use native.Mathlib.Omega.{arith}
use Rattle.lift_tables.proofs.binders.Found.{row_has, row_has_none, no_row}
use Rattle.lift_tables.proofs.binders.find_binder.Goals as goal

pub row_from-row-requires : goal.row_from-row-requires
row_from-row-requires c = omega (arith, c.loop-k-test.true)

pub returns-in-Some : goal.returns-in-Some
returns-in-Some c = row_has _ _ _ _ _ c.loop-k.invariant _ _ c.row_from-row.ensures c.min-n.ensures c.in-Some.ensures

pub loop-k-preserved : goal.loop-k-preserved
loop-k-preserved c = row_has_none _ _ _ _ _ c.loop-k.invariant _ _ c.row_from-row.ensures c.min-n.ensures c.in_default.ensures

pub returns : goal.returns
returns c = no_row _ _ _ _ _ c.loop-k.invariant (omega (arith, c.loop-k-test.false))
