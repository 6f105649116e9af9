use mathlib.Core.Path.{◌∙◌}
use native.Mathlib.Omega.{arith}
use Rattle.name_table.specs.taken.Taken.{row}
use Rattle.name_table.proofs.find.Rows.{found_none, found_here, found_other}
use Rattle.name_table.proofs.find.Names.find.Goals as goal

pub returns-in_err-row : goal.returns-in_err-row
returns-in_err-row c = rw c.from_residual.ensures (found_none c.args.self.table _ c.slot_of-x.ensures c.in_err-row.ensures (omega arith))

pub bounds-self-row : goal.bounds-self-row
bounds-self-row c = let l = c.args.self.table.places_long in omega arith

pub returns-then-same_name : goal.returns-then-same_name
unfolding row
returns-then-same_name c = found_here c.args.self.table _ c.slot_of-x.ensures c.in_ok-row.ensures.1 (c.name_of.ensures ∙ rw c.from-place.ensures) c.same_name.ensures c.in_ok-row.ensures.0 c.if-same_name.true

pub returns : goal.returns
unfolding row
returns c = found_other c.args.self.table _ c.slot_of-x.ensures c.in_ok-row.ensures.1 (c.name_of.ensures ∙ rw c.from-place.ensures) c.same_name.ensures c.in_ok-row.ensures.0 c.if-same_name.false
