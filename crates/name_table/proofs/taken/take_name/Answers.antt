use Rattle.name_table.proofs.taken.Take.{took}
use Rattle.name_table.proofs.taken.take_name.Goals as goal

pub returns : goal.returns
returns c =
    let p = c.requires in
    let q = c.set_row.ensures in
    took _ _ _ _ _ _ p.0 p.1 p.3 c.enter_row.ensures c.enter_row.auto.ways p.4 p.5 c.put_name-next.ensures q.0 q.1
