use native.Mathlib.Omega.{arith}
use Rattle.expand_macros.proofs.pass.Format.{formatted_cut, formatted_deep, formatted_done}
use Rattle.expand_macros.proofs.pass.book.expand_format.Goals as goal

pub returns-then-out-r : goal.returns-then-out-r
returns-then-out-r c =
    formatted_cut c.name_past-params.ensures c.params_past-body.ensures c.put_part-q.ensures _ c.params_past-body.auto.marks _ c.walk_over-w.ensures.0 c.walk_over-w.ensures.1
    c.first-calls.ensures c.expand_macros_in_combinator-r.ensures c.expand_macros_in_combinator-r.auto.out c.if-out-r.true

pub returns-then-v-lt65 : goal.returns-then-v-lt65
returns-then-v-lt65 c =
    formatted_deep c.name_past-params.ensures c.params_past-body.ensures c.put_part-q.ensures _ c.params_past-body.auto.marks _ c.walk_over-w.ensures.0 c.walk_over-w.ensures.1
    c.first-calls.ensures c.expand_macros_in_combinator-r.ensures c.expand_macros_in_combinator-r.auto.out c.if-out-r.false _ _ c.walk_over-v.ensures.0 c.if-v-lt65.true (omega arith)

pub returns : goal.returns
returns c =
    formatted_done c.name_past-params.ensures c.params_past-body.ensures c.put_part-q.ensures _ c.params_past-body.auto.marks _ c.walk_over-w.ensures.0 c.walk_over-w.ensures.1
    c.first-calls.ensures c.expand_macros_in_combinator-r.ensures c.expand_macros_in_combinator-r.auto.out c.if-out-r.false _ _ c.walk_over-v.ensures.0 c.if-v-lt65.false
