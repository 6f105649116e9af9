use mathlib.Core.Path.{◌∙◌}
use native.Mathlib.Omega.{arith}
use Rattle.name_table.proofs.kinds.Rows.{back_none, back_step, back_all}
use Rattle.name_table.proofs.kinds.take_kinds.Goals as goal

pub loop-i-init : goal.loop-i-init
loop-i-init c = back_none (c.from-count.ensures ∙ c.number.ensures)

pub loop-i-preserved : goal.loop-i-preserved
loop-i-preserved c = back_step c.loop-i.invariant (omega arith) c.past-entry.ensures c.take_entry-n.auto.places c.take_entry-n.auto.ways c.take_entry-n.ensures

pub returns : goal.returns
returns c = back_all c.loop-i.invariant c.loop-i-test.false
