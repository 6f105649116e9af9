use mathlib.Core.Path.{refl, sym, ◌∙◌}
use native.Mathlib.Omega.{arith}
use borrow.Author.Tests.{eqb-true, eqb-false}
use Rattle.collect_params.proofs.params.Once.{once_none, dropping_all, dropping_done, drop_one, keep_one}
use Rattle.collect_params.proofs.params.each_once.Goals as goal
use Rattle.collect_params.proofs.params.each_once.Goals.{then-not-same_use, else-not-same_use}

pub returns-then-is_empty : goal.returns-then-is_empty
returns-then-is_empty c = once_none _ _ (eqb-true _ 0 (sym c.is_empty.ensures ∙ c.if-is_empty.true))

pub loop-i-init : goal.loop-i-init
loop-i-init c = dropping_all _ _ _ (eqb-false _ 0 (sym c.is_empty.ensures ∙ c.if-is_empty.false)) (omega arith)

pub loop-i-preserved : goal.loop-i-preserved
loop-i-preserved c =
    elim c.if-not-same_use.branch [
      | then-not-same_use w ↦ rw (w.uses-is, w.last-is, w.m-is) (keep_one c.loop-i.invariant (omega arith) (omega arith) (sym w.if-not-same_use.true ∙ c.same_use.ensures))
      | else-not-same_use w ↦ rw (w.uses-is, w.last-is, w.m-is) (drop_one c.loop-i.invariant (omega arith) (omega arith) (sym w.if-not-same_use.false ∙ c.same_use.ensures))
    ]

pub returns : goal.returns
returns c = dropping_done c.loop-i.invariant refl (omega arith)
