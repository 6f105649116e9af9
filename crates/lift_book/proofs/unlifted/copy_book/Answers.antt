use Rattle.lift_book.proofs.unlifted.Copying.{copied, not_copied}
use Rattle.lift_book.proofs.unlifted.copy_book.Goals as goal

pub returns-then-out-s : goal.returns-then-out-s
returns-then-out-s c = not_copied c.if-out-s.true

pub returns : goal.returns
returns c = copied c.if-out-s.false c.put_bytes.ensures
