use Rattle.definition.specs.Read.{name, definition}
use Rattle.read_book.proofs.name_list.Bind.{then, fails, made, walked}
use Rattle.read_book.proofs.body.constant.Goals as goal

pub returns-in_err-d : goal.returns-in_err-d
unfolding definition name
returns-in_err-d c = fails _ (walked c.in_err-d.ensures) c.from_residual.ensures.1

pub returns : goal.returns
unfolding definition name
returns c = then _ (walked c.in_ok-d.ensures) (λ a. made _ (walked c.text.ensures))
