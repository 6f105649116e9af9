use mathlib.Core.Path.{refl}
use borrow.Author.Tests.{ne_eqb}
use Rattle.lift_tables.proofs.tables.Parts.{order_stored}
use Rattle.lift_combinator.specs.done.Done.{closed_of, order_of}
use Rattle.lift_combinator.proofs.done.close_node.Goals as goal

pub returns-then-f-ne0 : goal.returns-then-f-ne0
unfolding closed_of order_of
returns-then-f-ne0 c = rw (ne_eqb _ _ c.if-f-ne0.true, c.saturating_sub.ensures) (refl, order_stored c.store_in.ensures)
