use Rattle.name_table.specs.taken.Taken.{both, taken}
use Rattle.generated_name.proofs.fresh_name.FreeNames.{Trying}
use Rattle.generated_name.proofs.fresh_name.first_free.Given as goal

abbrev pub invariant-loop-number : goal.invariant-loop-number
invariant-loop-number l = Trying l.initial.path l.at (taken (both l.names.book.now l.names.made.now) l.names.places.now l.names.n) l.names.n l.first l.path l.number
