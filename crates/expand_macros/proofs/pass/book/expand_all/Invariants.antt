use Rattle.std.proofs.Common.{◌≡◌, ℕ, List, length}
use Rattle.walker.specs.definitions.Listed.{all_of}
use Rattle.expand_macros.specs.pass.Left.{Listing}
use Rattle.expand_macros.proofs.pass.book.expand_all.Given as goal

abbrev pub invariant-loop-d : goal.invariant-loop-d
invariant-loop-d l = record {
  same_reference : l.w.buf.ghost_name ≡ l.initial.w.buf.ghost_name;
  out_long : length l.w.buf.now ≡ length l.fn.out;
  book : l.d-iterator.book.now ≡ l.book;
  listing : (out' : List ℕ) (r : ℕ) → Listing l.macros l.book l.areas l.marks l.w.buf.now l.d-iterator.ahead l.e l.w.at out' r
      → Listing l.macros l.book l.initial.areas l.initial.marks l.fn.out (all_of l.book) 2 l.bodies out' r;
}
