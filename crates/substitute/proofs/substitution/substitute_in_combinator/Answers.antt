use mathlib.Core.Path.{◌∙◌, sym}
use native.Mathlib.Omega.{arith}
use Rattle.substitute.proofs.substitution.Copied.{copied_none, copied_all, paired_call, paired_other}
use Rattle.substitute.proofs.substitution.substitute_in_combinator.Goals as goal
use Rattle.substitute.proofs.substitution.substitute_in_combinator.Goals.{then-calls_name, else-calls_name}

pub loop-call-init : goal.loop-call-init
loop-call-init c = copied_none _ _ _ _ _

pub loop-call-preserved : goal.loop-call-preserved
loop-call-preserved c =
    elim c.if-calls_name.branch [
      | then-calls_name w ↦ rw (w.areas-is, w.at-is, w.o-is) (paired_call _ _ _ _ _ c.loop-call.invariant c.as_chunks.ensures.front c.loop-call-test.true c.as_chunks.ensures.front_len c.from-place.ensures (sym (c.calls_name.ensures ∙ rw c.first_area.ensures) ∙ w.if-calls_name.true) w.put_across-q.ensures w.put_bytes-o.ensures w.from-at.ensures)
      | else-calls_name w ↦ rw (w.areas-is, w.at-is, w.o-is) (paired_other _ _ _ _ _ c.loop-call.invariant c.as_chunks.ensures.front c.loop-call-test.true c.as_chunks.ensures.front_len c.from-place.ensures (sym (c.calls_name.ensures ∙ rw c.first_area.ensures) ∙ w.if-calls_name.false))
    ]

pub returns : goal.returns
returns c = copied_all _ _ _ _ _ c.loop-call.invariant (omega arith) c.put_across.ensures
