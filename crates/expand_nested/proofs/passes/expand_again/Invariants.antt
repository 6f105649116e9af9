use mathlib.Core.Path.{◌≡◌}
use Prim.Native.Nat.{◌-◌}
use lib.ListN.{length}
use Rattle.expand_nested.proofs.passes.Repeating.{Going}
use Rattle.expand_nested.proofs.passes.expand_again.Given as goal

abbrev pub invariant-loop : goal.invariant-loop
invariant-loop l = record {
  book_long : length l.book ≡ length l.initial.book;
  areas_long : length l.areas ≡ length l.initial.areas;
  next_long : length l.next ≡ length l.initial.next;
  going : Going l.macros l.initial.book l.len 15 (length l.initial.areas) (length l.initial.next) l.book l.n (15 - l.counter);
}
