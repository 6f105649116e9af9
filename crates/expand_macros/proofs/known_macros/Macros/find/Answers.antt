use mathlib.Core.Path.{◌∙◌}
use Rattle.expand_macros.proofs.known_macros.Rows.{finds_none, finds_far, finds_here, finds_other}
use Rattle.expand_macros.proofs.known_macros.Macros.find.Goals as goal

pub returns-in_err-row : goal.returns-in_err-row
returns-in_err-row c = rw c.from_residual.ensures (finds_none c.args.name.now c.args.self c.slot_of-x.ensures c.in_err-row.ensures)

pub returns-in_err-get : goal.returns-in_err-get
returns-in_err-get c =
    let k = c.in_ok-row.ensures in
    rw c.from_residual-in_err-get.ensures (finds_far c.args.name.now c.args.self c.slot_of-x.ensures k.1 k.0 c.in_err-get.ensures.lookup.3)

pub returns-then-same_name : goal.returns-then-same_name
returns-then-same_name c =
    let k = c.in_ok-row.ensures in
    finds_here c.args.name.now c.args.self c.slot_of-x.ensures k.1 k.0 (c.from-at.ensures ∙ c.in_ok-get.ensures.lookup.3.1 0) c.name_at.ensures c.same_name.ensures c.if-same_name.true

pub returns : goal.returns
returns c =
    let k = c.in_ok-row.ensures in
    finds_other c.args.name.now c.args.self c.slot_of-x.ensures k.1 k.0 (c.from-at.ensures ∙ c.in_ok-get.ensures.lookup.3.1 0) c.name_at.ensures c.same_name.ensures c.if-same_name.false
