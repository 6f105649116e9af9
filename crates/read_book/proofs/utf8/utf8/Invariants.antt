use mathlib.Core.Path.{◌≡◌}
use mathlib.Core.List.{[]}
use lib.ListN.{drop}
use Rattle.definition.specs.Utf8.{characters}
use Rattle.read_book.specs.characters.Ranges.{ranges}
use Rattle.read_book.proofs.utf8.utf8.Given as goal

abbrev pub invariant-loop-b : goal.invariant-loop-b
invariant-loop-b l = characters [] l.t ≡ characters (ranges l.state) (drop l.b-index l.t)
