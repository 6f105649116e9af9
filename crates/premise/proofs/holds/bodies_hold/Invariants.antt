use Rattle.walker.specs.bodies.Tested.{BodiesLeft}
use Rattle.walker.specs.definitions.Listed.{all_of}
use Rattle.name_table.specs.kinds.Rows.{row_names}
use Rattle.premise.specs.holds.Holds.{passes}
use lib.ListN.{length}
use mathlib.Core.Bool.{Bool}
use mathlib.Core.Path.{◌≡◌}
use Rattle.premise.proofs.holds.bodies_hold.Given as goal

abbrev pub invariant-loop-d : goal.invariant-loop-d
invariant-loop-d l = record {
  book : l.d-iterator.book.now ≡ l.t.book.now;
  marks_long : length l.marks ≡ length l.initial.marks;
  goes : (r : Bool) → BodiesLeft l.t.book.now (passes (row_names l.t.book.now l.t.places.now l.t.n)) (length l.initial.marks) l.d-iterator.ahead r
      → BodiesLeft l.t.book.now (passes (row_names l.t.book.now l.t.places.now l.t.n)) (length l.initial.marks) (all_of l.t.book.now) r;
}
