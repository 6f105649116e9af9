use mathlib.Core.Path.{sym, ◌∙◌}
use native.Mathlib.Omega.{arith}
use Rattle.buffer.proofs.writes.Rest.{wrote_as}
use Rattle.write_result.proofs.lifted.Steps.{type_own, type_passed, type_called}
use Rattle.write_result.proofs.lifted.put_type.Goals as goal

pub returns-then-p : goal.returns-then-p
returns-then-p c = wrote_as (type_own _ _ c.if-p.true _ (rw c.from-from.ensures at c.inner_end-to.ensures)) (rw c.from-from.ensures at c.put_part.ensures)

pub returns-in-0 : goal.returns-in-0
returns-in-0 c = wrote_as (type_passed _ _ c.if-p.false _ (sym c.in-0.is ∙ (rw c.from-from.ensures at c.item.ensures)) (rw c.from-from.ensures at c.inner_end-to-in-0.ensures)) c.put_spliced.ensures

pub returns-in_default : goal.returns-in_default
returns-in_default c = wrote_as (type_called _ _ c.if-p.false _ (rw c.from-from.ensures at c.item.ensures) (λ z. omega arith)) c.put_called.ensures
