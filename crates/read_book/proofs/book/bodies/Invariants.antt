use Rattle.read_book.proofs.book.Going.{Going}
use Rattle.read_book.proofs.book.bodies.Given as goal

abbrev pub invariant-loop : goal.invariant-loop
invariant-loop l = Going l.s l.more l.n l.counter l.want l.here
