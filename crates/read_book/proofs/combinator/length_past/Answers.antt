use Rattle.definition.specs.Read.{len}
use Rattle.read_book.proofs.name_list.Bind.{then, fails, made, walked, counts}
use Rattle.read_book.proofs.combinator.length_past.Goals as goal

pub returns-in_err-d : goal.returns-in_err-d
unfolding len
returns-in_err-d c = counts _ _ _ (fails _ c.in_err-d.ensures c.from_residual.ensures.1)

pub returns : goal.returns
unfolding len
returns c = counts _ _ _ (then _ c.in_ok-d.ensures (λ a. made _ (walked c.text.ensures)))
