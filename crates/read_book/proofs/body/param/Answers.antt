use Rattle.definition.specs.Read.{name}
use Rattle.read_book.proofs.name_list.Bind.{walked}
use Rattle.read_book.proofs.body.OneParam.{no_param_name, a_param}
use Rattle.read_book.proofs.body.param.Goals as goal

pub returns-in_err-d : goal.returns-in_err-d
unfolding name
returns-in_err-d c = no_param_name (walked c.in_err-d.ensures) c.from_residual.ensures.1

pub returns : goal.returns
unfolding name
returns c = a_param (walked c.in_ok-d.ensures) c.inner.ensures
