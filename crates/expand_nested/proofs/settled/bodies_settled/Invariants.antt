use lib.ListN.{length}
use mathlib.Core.Bool.{Bool}
use mathlib.Core.List.{List}
use mathlib.Core.Path.{◌≡◌}
use Rattle.definition.specs.Macros.{Macro}
use Rattle.walker.specs.bodies.Tested.{BodiesLeft}
use Rattle.walker.specs.definitions.Listed.{all_of}
use Rattle.expand_macros.specs.known_macros.Table.{RowsOf}
use Rattle.expand_nested.specs.settled.Settles.{calm}
use Rattle.expand_nested.proofs.settled.bodies_settled.Given as goal

abbrev pub invariant-loop-d : goal.invariant-loop-d
invariant-loop-d l = record {
  book : l.d-iterator.book.now ≡ l.book;
  marks_long : length l.marks ≡ length l.initial.marks;
  goes : (ms : List Macro) → RowsOf l.macros ms → (r : Bool) → BodiesLeft l.book (calm ms) (length l.initial.marks) l.d-iterator.ahead r → BodiesLeft l.book (calm ms) (length l.initial.marks) (all_of l.book) r;
}
