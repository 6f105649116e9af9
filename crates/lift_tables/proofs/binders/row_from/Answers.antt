use mathlib.Core.Path.{refl}
use native.Mathlib.Omega.{arith}
use lib.ListN.{length-set}
use Rattle.lift_tables.proofs.binders.Found.{row_more, row_none, row_done}
use Rattle.lift_tables.proofs.binders.row_from.Goals as goal

pub loop-k-init : goal.loop-k-init
loop-k-init c = record { long = refl; filled = row_none c.args.binders.now c.args.j }

pub loop-k-preserved : goal.loop-k-preserved
loop-k-preserved c =
    let l = c.loop-k in
    let i = l.invariant in
    record { long = simp length-set i.long; filled = row_more _ _ _ _ _ i.filled (omega (arith, i.long)) c.binder_at.ensures }

pub returns : goal.returns
returns c =
    let l = c.loop-k in
    let i = l.invariant in
    row_done _ _ _ _ i.filled i.long (omega arith) (omega arith)
