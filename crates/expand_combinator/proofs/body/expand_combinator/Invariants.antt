use Rattle.lift_tables.specs.tables.Parts.{order_in, rows_in_of, params_in, made_in}
use Rattle.expand_combinator.proofs.body.Rounds.{Round, left}
use Rattle.expand_combinator.proofs.body.expand_combinator.Given as goal

abbrev pub invariant-loop-e : goal.invariant-loop-e
invariant-loop-e l =
    Round l.s l.at l.initial.path l.len l.initial.binders l.b (made_in l.initial.sheet) l.initial.places (rows_in_of l.initial.sheet) (params_in l.initial.sheet) (order_in l.initial.sheet) l.initial.named.counts l.initial.named.finished l.path l.binders l.bound l.uses l.spare (made_in l.sheet) l.places l.ways l.hints (rows_in_of l.sheet) (params_in l.sheet) l.number (order_in l.sheet) l.waiters.frames l.f l.waiters.depth l.named.counts l.named.finished

abbrev pub decreases-loop-e : goal.decreases-loop-e
decreases-loop-e l =
    left l.s l.waiters.frames l.f l.waiters.depth
