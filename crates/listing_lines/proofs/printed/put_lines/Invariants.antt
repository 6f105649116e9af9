use Prim.Native.Nat.{ℕ}
use mathlib.Core.List.{List}
use mathlib.Core.Path.{◌≡◌}
use Rattle.walker.specs.definitions.Listed.{all_of}
use Rattle.listing_lines.specs.printed.Lines.{Lines}
use Rattle.listing_lines.proofs.printed.put_lines.Given as goal

abbrev pub invariant-loop-e : goal.invariant-loop-e
invariant-loop-e l = (l.e-iterator.book.now ≡ l.s) × ((x : List ℕ) (r : ℕ) → Lines l.s l.e-iterator.ahead l.first l.out l.o x r → Lines l.s (all_of l.s) l.initial.first l.initial.out l.initial.o x r)
