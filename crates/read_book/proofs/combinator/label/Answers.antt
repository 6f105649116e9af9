use Rattle.definition.specs.Read.{label, name}
use Rattle.read_book.specs.combinator.Tags.{case_kind_of}
use Rattle.read_book.proofs.name_list.Bind.{walked}
use Rattle.read_book.proofs.combinator.Table.{case_text}
use Rattle.read_book.proofs.combinator.label.Goals as goal

pub returns-then-kind-eq-ENUMS : goal.returns-then-kind-eq-ENUMS
unfolding label case_kind_of name
returns-then-kind-eq-ENUMS c = rw c.if-kind-eq-ENUMS.true (walked c.name.ensures)

pub returns : goal.returns
returns c = rw (case_text _ _ c.if-kind-eq-ENUMS.false) (walked c.text.ensures)
