use Rattle.lift_book.specs.flat.Past.{flat_at}
use Rattle.lift_book.proofs.flat.Telling.{format_told}
use Rattle.lift_book.proofs.flat.format_flat.Goals as goal

pub returns : goal.returns
unfolding flat_at
returns c = format_told c.name_past-params.ensures c.params_past-body.ensures (rw c.body_past.ensures at c.is_some.ensures)
