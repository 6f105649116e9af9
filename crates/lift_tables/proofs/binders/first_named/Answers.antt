use mathlib.Core.Path.{sym, ◌∙◌}
use native.Mathlib.Omega.{arith}
use Rattle.lift_tables.proofs.binders.Found.{no_binder, here, on, none}
use Rattle.lift_tables.proofs.binders.first_named.Goals as goal

pub returns-then-same_name : goal.returns-then-same_name
returns-then-same_name c = here _ _ _ _ c.loop-binder.invariant _ c.loop-binder-test.true (rw (← c.from.ensures, ← c.name_at.ensures) (sym c.same_name.ensures ∙ c.if-same_name.true))

pub loop-binder-preserved : goal.loop-binder-preserved
loop-binder-preserved c = on _ _ _ _ c.loop-binder.invariant no_binder c.loop-binder-test.true (rw (← c.from.ensures, ← c.name_at.ensures) (sym c.same_name.ensures ∙ c.if-same_name.false))

pub returns : goal.returns
returns c = none _ _ _ _ c.loop-binder.invariant (omega arith)
