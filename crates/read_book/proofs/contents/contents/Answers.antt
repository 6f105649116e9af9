use Rattle.read_book.proofs.contents.Whole.{is_few, has_two, no_table, a_table, no_count}
use Rattle.read_book.proofs.contents.contents.Goals as goal

pub returns-in_err-n : goal.returns-in_err-n
returns-in_err-n c = no_count _ c.args.more c.in_err-n.ensures c.from_residual.ensures.1

pub row-requires : goal.row-requires
row-requires c = (is_few _ c.in_ok-n.ensures, has_two _ c.in_ok-n.ensures)

pub returns-in_err-row : goal.returns-in_err-row
returns-in_err-row c = no_table _ c.in_ok-n.ensures c.args.more c.in_err-row.ensures c.from_residual-in_err-row.ensures.1

pub returns : goal.returns
returns c = a_table _ c.in_ok-n.ensures c.args.more c.in_ok-row.ensures
