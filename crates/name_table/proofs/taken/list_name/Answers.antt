use mathlib.Core.Path.{refl}
use native.Mathlib.Omega.{arith}
use Rattle.name_table.proofs.taken.Take.{name_short, listed}
use Rattle.name_table.proofs.taken.list_name.Goals as goal

pub enter_row-requires : goal.enter_row-requires
enter_row-requires c =
    let p = c.requires in
    (rw c.name_at.ensures (name_short c.args.book.now c.args.at c.args.places.now c.args.n p.0 (omega (arith, c.type_inv.book c.args.at)) p.1 p.2), p.1, p.2)

pub returns : goal.returns
returns c =
    let p = c.requires in
    listed c.args.book.now c.args.at c.args.places.now c.args.n p.0 (omega (arith, c.type_inv.book c.args.at)) p.1 p.2 (rw c.name_at.ensures at c.enter_row.ensures) c.enter_row.auto.ways refl
