use mathlib.Core.Path.{◌≡◌}
use Rattle.lift_tables.specs.tables.Parts.{order_in, rows_in_of, params_in, made_in}
use Rattle.expand_definitions.proofs.in_order.Order.{Going}
use Rattle.expand_definitions.proofs.in_order.expand_in_order.Given as goal

abbrev pub invariant-loop-d : goal.invariant-loop-d
invariant-loop-d l = record {
  book : l.d-iterator.book.now ≡ l.s;
  going : Going l.s (made_in l.initial.sheet) l.initial.taken.places (rows_in_of l.initial.sheet) (params_in l.initial.sheet) (order_in l.initial.sheet) l.initial.named.counts (made_in l.sheet) l.taken.places l.taken.ways l.taken.hints (rows_in_of l.sheet) (params_in l.sheet) l.number (order_in l.sheet) l.named.counts l.named.finished l.d-iterator.ahead;
}
