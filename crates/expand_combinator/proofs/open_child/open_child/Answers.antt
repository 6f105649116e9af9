use mathlib.Core.Path.{refl, sym, ◌∙◌}
use Rattle.std.proofs.lemmas.Result.{err_from_is_err_and}
use native.Mathlib.Omega.{arith}
use Rattle.lift_combinator.proofs.frames.Ends.{end_past, stood, follows}
use Rattle.expand_combinator.proofs.open_child.Children.{whole_of, child_walked, child_refused, child_lifted}
use Rattle.expand_combinator.proofs.open_child.open_child.Goals as goal

pub end_of-end-requires : goal.end_of-end-requires
end_of-end-requires c = let p = c.requires in (p.6, stood (omega (arith, p.0.source)) p.1)

pub combinator_past-last-requires : goal.combinator_past-last-requires
combinator_past-last-requires c = let p = c.requires in (p.6, follows (omega (arith, p.0.source)) p.1 c.end_of-end.ensures)

pub lift_anonymous_combinator-requires : goal.lift_anonymous_combinator-requires
lift_anonymous_combinator-requires c =
    let p = c.requires in
    let w = p.1 in
    (p.0, record { what = w.what; whole = whole_of w.what p.0.source w.stands w.deep (end_past _ _ c.end_of-end.ensures c.combinator_past-last.ensures) }, p.2, p.3, p.4, p.5)

pub returns-in_err-lift : goal.returns-in_err-lift
returns-in_err-lift c = let p = err_from_is_err_and c.from_residual.result c.from_residual.ensures.1 in rw (p.1, p.2) (child_refused c.requires.0.source (end_past _ _ c.end_of-end.ensures c.combinator_past-last.ensures) (sym c.contains_anonymous_format-anonymous.ensures ∙ c.if-anonymous.true) c.lift_anonymous_combinator.ensures.0 _ c.in_err-lift.was, c.lift_anonymous_combinator.ensures.1)

pub open_node-frame-requires : goal.open_node-frame-requires
open_node-frame-requires c = c.end_of-end.ensures

pub returns-then-anonymous : goal.returns-then-anonymous
returns-then-anonymous c = (child_lifted c.requires.0.source (end_past _ _ c.end_of-end.ensures c.combinator_past-last.ensures) (sym c.contains_anonymous_format-anonymous.ensures ∙ c.if-anonymous.true) c.lift_anonymous_combinator.ensures.0 c.in_ok-lift.was refl c.open_node-frame.ensures c.lift_anonymous_combinator.auto.path, c.lift_anonymous_combinator.ensures.1)

pub open_node-frame-requires-2 : goal.open_node-frame-requires-2
open_node-frame-requires-2 c = c.end_of-end.ensures

pub returns : goal.returns
returns c = (child_walked c.requires.0.source (end_past _ _ c.end_of-end.ensures c.combinator_past-last.ensures) (sym c.contains_anonymous_format-anonymous.ensures ∙ c.if-anonymous.false) c.open_node-frame-2.ensures, refl)
