use mathlib.Core.Path.{refl}
use native.Mathlib.Omega.{arith}
use lib.ListN.{length-drop, length-take}
use Rattle.lift_tables.proofs.enter_lift.Rows.{row_added}
use Rattle.lift_tables.proofs.enter_lift.add_row.Goals as goal

pub put_row-requires : goal.put_row-requires
put_row-requires c = let p = c.requires in (omega arith, p.1, p.2, omega arith, omega arith, omega arith)

pub slice_bounds-take_name-count : goal.slice_bounds-take_name-count
slice_bounds-take_name-count c = omega (arith, c.requires.5, c.put_row.auto.sheet)

pub slice_bounds-take_name-start : goal.slice_bounds-take_name-start
slice_bounds-take_name-start c = omega (arith, c.requires.5, c.put_row.auto.sheet)

pub take_name-next-requires : goal.take_name-next-requires
take_name-next-requires c = let p = c.requires in (p.0, simp (length-take, length-drop) (omega (arith, p.5, c.put_row.auto.sheet)), p.4, omega arith, omega arith, omega arith)

pub returns : goal.returns
returns c = row_added c.args.sheet.now _ _ (omega (arith, c.requires.5, c.put_row.auto.sheet)) c.put_row.ensures c.store.ensures (omega arith) c.take_name-next.ensures (refl, refl, refl, refl, refl)
