use Rattle.lift_book.proofs.unlifted.Copying.{told_flat}
use Rattle.lift_book.proofs.room.lift_book.Goals as goal

pub lift_nothing-requires : goal.lift_nothing-requires
lift_nothing-requires c = (c.requires.0, told_flat c.is_flat.ensures c.if-is_flat.true)
