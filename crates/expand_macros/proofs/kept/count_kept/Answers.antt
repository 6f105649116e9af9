use native.Mathlib.Omega.{arith}
use Rattle.expand_macros.proofs.kept.Counting.{counting_none, counting_kept, counting_macro, counted}
use Rattle.expand_macros.proofs.kept.count_kept.Goals as goal
use Rattle.expand_macros.proofs.kept.count_kept.Goals.{then-kind-ne-MACRO, else-kind-ne-MACRO}

pub loop-preserved : goal.loop-preserved
loop-preserved c = (
  omega arith,
  λ r p. c.loop.invariant.1 r (elim c.if-kind-ne-MACRO.branch [
    | then-kind-ne-MACRO w ↦ counting_kept (omega arith) c.byte-kind.ensures c.past-entry-in-loop.ensures w.if-kind-ne-MACRO.true (rw w.n-is at p)
    | else-kind-ne-MACRO w ↦ counting_macro (omega arith) c.byte-kind.ensures c.past-entry-in-loop.ensures w.if-kind-ne-MACRO.false (rw w.n-is at p)
  ]),
)

pub returns : goal.returns
returns c = counted c.number-all.ensures c.past-entry.ensures (c.loop.invariant.1 _ (counting_none (omega arith)))
