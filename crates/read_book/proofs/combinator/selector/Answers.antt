use Rattle.read_book.proofs.name_list.Bind.{walked}
use Rattle.read_book.proofs.combinator.Laws.{no_selector, unselected, selected}
use Rattle.read_book.proofs.combinator.selector.Goals as goal

pub returns-in_err-flag : goal.returns-in_err-flag
returns-in_err-flag c = no_selector c.in_err-flag.ensures c.from_residual.ensures.1

pub returns-then-flag-ne-MORE : goal.returns-then-flag-ne-MORE
returns-then-flag-ne-MORE c = unselected c.in_ok-flag.ensures c.if-flag-ne-MORE.true

pub returns : goal.returns
returns c = selected c.in_ok-flag.ensures c.if-flag-ne-MORE.false (walked c.name.ensures)
