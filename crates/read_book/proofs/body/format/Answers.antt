use Rattle.definition.specs.Read.{name, definition}
use Rattle.read_book.proofs.name_list.Bind.{then, fails, made, walked, counts}
use Rattle.read_book.proofs.body.format.Goals as goal

pub returns-in_err-d : goal.returns-in_err-d
unfolding definition name
returns-in_err-d c = fails _ (walked c.in_err-d.ensures) c.from_residual.ensures.1

pub returns-in_err-e : goal.returns-in_err-e
unfolding definition name
returns-in_err-e c = then _ (walked c.in_ok-d.ensures) (λ a. counts _ _ _ (fails _ c.in_err-e.ensures c.from_residual-in_err-e.ensures.1))

pub returns : goal.returns
unfolding definition name
returns c = then _ (walked c.in_ok-d.ensures) (λ a. counts _ _ _ (then _ c.in_ok-e.ensures (λ a. made _ c.combinator.ensures)))
