use mathlib.Core.Path.{◌≡◌}
use Rattle.std.specs.Slice.Iter.{chunks_exact_rest, chunks_exact_size}
use Rattle.walker.specs.pieces.Marked.{every_place}
use Rattle.premise.specs.called.Known.{known_at}
use Rattle.premise.proofs.called.Callable.all_known.Given as goal

abbrev pub invariant-loop-pair : goal.invariant-loop-pair
invariant-loop-pair l = record {
  can_next : (goal.iterator-loop-pair).can_next l.pair-iterator;
  is_finite : (goal.iterator-loop-pair).is_finite l.pair-iterator;
  size : chunks_exact_size l.pair-iterator ≡ 2;
  left : every_place (known_at l.self.book.now l.self.places.now l.self.n) l.marks ≡ every_place (known_at l.self.book.now l.self.places.now l.self.n) (chunks_exact_rest l.pair-iterator);
}
