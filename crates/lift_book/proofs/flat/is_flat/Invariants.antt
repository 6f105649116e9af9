use Rattle.std.proofs.Common.{◌≡◌, Bool}
use Rattle.walker.specs.definitions.Listed.{all_of}
use Rattle.walker.specs.bodies.Tested.{BodiesLeft}
use Rattle.lift_book.specs.flat.Flat.{flat}
use Rattle.lift_book.proofs.flat.is_flat.Given as goal

abbrev pub invariant-loop-d : goal.invariant-loop-d
invariant-loop-d l = record {
  same_book : l.d-iterator.book.now ≡ l.s;
  left : (r : Bool) → BodiesLeft l.s flat 8192 l.d-iterator.ahead r → BodiesLeft l.s flat 8192 (all_of l.s) r;
}
