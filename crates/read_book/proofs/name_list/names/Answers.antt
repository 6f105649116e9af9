use mathlib.Core.Path.{refl}
use mathlib.Core.List.{[]}
use Rattle.definition.specs.Read.{names_by}
use Rattle.read_book.specs.utf8.Tested.{tested}
use Rattle.read_book.proofs.name_list.Rows.{a_row, a_name}
use Rattle.read_book.proofs.name_list.names.Goals as goal

pub returns : goal.returns
unfolding names_by
returns c = a_row (names_by (tested c.args.dots)) _ [] (λ l. refl) (λ d r h. a_name _ h.1) c.row.ensures
