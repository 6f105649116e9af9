use mathlib.Core.Path.{◌≡◌}
use Rattle.std.specs.Slice.Iter.{chunks_exact_rest, chunks_exact_size}
use Rattle.expand_nested.proofs.unknown.Calls.{Marked}
use Rattle.expand_nested.proofs.unknown.all_unknown.Given as goal

abbrev pub invariant-loop-pair : goal.invariant-loop-pair
invariant-loop-pair l = record {
  can_next : (goal.iterator-loop-pair).can_next l.pair-iterator;
  is_finite : (goal.iterator-loop-pair).is_finite l.pair-iterator;
  size : chunks_exact_size l.pair-iterator ≡ 2;
  marked : Marked l.macros l.book l.marks (chunks_exact_rest l.pair-iterator);
}
