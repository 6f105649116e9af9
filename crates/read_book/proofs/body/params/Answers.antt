use mathlib.Core.Path.{refl}
use mathlib.Core.List.{[]}
use Rattle.definition.specs.Read.{params}
use Rattle.read_book.proofs.name_list.Rows.{a_row}
use Rattle.read_book.proofs.body.params.Goals as goal

pub returns : goal.returns
unfolding params
returns c = a_row params _ [] (λ l. refl) (λ d r h. h.1) c.row.ensures
