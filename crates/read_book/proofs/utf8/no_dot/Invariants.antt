use mathlib.Core.Path.{◌≡◌}
use lib.ListN.{drop}
use Rattle.definition.specs.Read.{no_dot_of}
use Rattle.read_book.proofs.utf8.no_dot.Given as goal

abbrev pub invariant-loop-b : goal.invariant-loop-b
invariant-loop-b l = no_dot_of l.t ≡ no_dot_of (drop l.b-index l.t)
