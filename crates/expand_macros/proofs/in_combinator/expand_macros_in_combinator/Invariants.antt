use Rattle.std.specs.Slice.Iter.{chunks_exact_rest, chunks_exact_size}
use mathlib.Core.Path.{◌≡◌}
use Rattle.expand_macros.proofs.in_combinator.Expanding.{Going}
use Rattle.expand_macros.proofs.in_combinator.expand_macros_in_combinator.Given as goal

abbrev pub invariant-loop-pair : goal.invariant-loop-pair
invariant-loop-pair l = record {
  can_next : (goal.iterator-loop-pair).can_next l.pair-iterator;
  is_finite : (goal.iterator-loop-pair).is_finite l.pair-iterator;
  size : chunks_exact_size l.pair-iterator ≡ 2;
  going : Going l.macros l.book l.to l.marks l.initial.areas l.initial.row l.initial.out l.initial.copied l.initial.o (chunks_exact_rest l.pair-iterator) l.areas l.row l.out l.copied l.o;
}
