use Rattle.definition.specs.Read.{name, items}
use Rattle.read_book.proofs.name_list.Bind.{then, fails, made, walked, counts}
use Rattle.read_book.proofs.combinator.invocation.Goals as goal

pub returns-in_err-d : goal.returns-in_err-d
unfolding items name
returns-in_err-d c = λ c' a. fails _ (walked c.in_err-d.ensures) c.from_residual.ensures.1

pub returns : goal.returns
unfolding items name
returns c = λ c' a. then _ (walked c.in_ok-d.ensures) (λ a. counts _ _ _ (made _ c.names.ensures))
