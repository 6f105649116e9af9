use Rattle.expand_macros.proofs.pass.Passing.{passed_long, passed_brief}
use Rattle.expand_macros.proofs.pass.Plain.{plain_grown, passed_plain}
use Rattle.expand_macros.proofs.pass.expand_macros.Goals as goal

pub returns-then-out-book : goal.returns-then-out-book
returns-then-out-book c = plain_grown c.has_no_macros.ensures c.if-has_no_macros.true c.has_no_macros-then-has_no_macros.ensures c.if-has_no_macros-2.true c.if-out-book.true

pub returns-then-has_no_macros-2 : goal.returns-then-has_no_macros-2
returns-then-has_no_macros-2 c = passed_plain c.has_no_macros.ensures c.if-has_no_macros.true c.has_no_macros-then-has_no_macros.ensures c.if-has_no_macros-2.true c.if-out-book.false c.put_bytes.ensures

pub returns-then-book-le512 : goal.returns-then-book-le512
returns-then-book-le512 c = passed_brief c.if-book-le512.true c.expand_within.ensures

pub returns : goal.returns
returns c = passed_long c.expand_within-2.ensures
