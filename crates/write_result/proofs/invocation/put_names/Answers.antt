use mathlib.Core.Path.{◌∙◌}
use native.Mathlib.Nat.{add-sub_cancel_left}
use Rattle.buffer.proofs.writes.Wrote.{glue, place_within}
use Rattle.buffer.proofs.writes.Rest.{rest_all, rest_on, rest_end, rest_same}
use Rattle.write_result.proofs.invocation.Names.{names_more, names_done}
use Rattle.write_result.proofs.invocation.put_names.Goals as goal

pub loop-j-init : goal.loop-j-init
loop-j-init c = record { within = place_within c.put_u16-o.ensures; rest = rest_same (rest_all _ _ _) (rw (c.from-start.ensures, add-sub_cancel_left)) }

pub loop-j-preserved : goal.loop-j-preserved
loop-j-preserved c =
    let w = c.put_name-o.ensures in
    record { within = place_within w; rest = rest_on _ c.loop-j.invariant.rest (names_more _ _ _ _ (rw (c.from-start.ensures, c.from.ensures) at c.loop-j-test.true) (c.param_name.ensures ∙ rw c.param-p.ensures)) w }

pub returns : goal.returns
returns c = glue c.put_u16-o.ensures (rest_end c.loop-j.invariant.rest (names_done _ _ _ _ (rw (c.from-start.ensures, c.from.ensures) at c.loop-j-test.false)) c.loop-j.invariant.within)
