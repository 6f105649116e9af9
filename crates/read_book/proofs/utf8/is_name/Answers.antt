use mathlib.Core.Path.{sym}
use Rattle.definition.specs.Read.{dot_allowed, undotted}
use Rattle.read_book.proofs.utf8.Dots.{not_name}
use Rattle.read_book.proofs.utf8.is_name.Goals as goal

pub returns-then-dots : goal.returns-then-dots
unfolding dot_allowed
returns-then-dots c = rw c.if-dots.true c.if-utf8.ensures

pub returns-else-dots : goal.returns-else-dots
unfolding dot_allowed undotted
returns-else-dots c = rw (c.if-dots.false, ← c.if-utf8.ensures) c.no_dot.ensures

pub returns-else-utf8 : goal.returns-else-utf8
returns-else-utf8 c = rw c.if-utf8.false (not_name c.args.dots _ (sym c.if-utf8.ensures))
