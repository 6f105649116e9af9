use Rattle.read_book.proofs.cursor.Laws.{number-laws}
use Rattle.read_book.proofs.cursor.Cursor.byte.Goals as goal

pub returns-then-s-at : goal.returns-then-s-at
returns-then-s-at c = search number-laws

pub returns : goal.returns
returns c = search number-laws
