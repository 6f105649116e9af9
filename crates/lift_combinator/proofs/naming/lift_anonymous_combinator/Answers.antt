use mathlib.Core.Path.{refl, sym, ◌∙◌}
use native.Mathlib.Omega.{arith}
use lib.ListN.{length-take}
use Rattle.std.proofs.lemmas.Result.{err_from_is_err_and}
use Rattle.std.specs.Prelude.{Ok, Err}
use Rattle.lift_combinator.proofs.naming.Lifting.{clear, left_over, left_code, count_short, are_sorted, tables_hinted, whole_within, refused_name, refused_macro, entered_lift}
use Rattle.lift_tables.proofs.tables.Parts.{made_lent}
use Rattle.lift_tables.proofs.enter_lift.Rows.{sheet_long}
use Rattle.lift_combinator.proofs.naming.lift_anonymous_combinator.Goals as goal

pub slice_bounds-names-count : goal.slice_bounds-names-count
slice_bounds-names-count c = omega (arith, sheet_long c.args.sheet.now c.requires.0.made_long)

pub slice_bounds-names-start : goal.slice_bounds-names-start
slice_bounds-names-start c = omega (arith, sheet_long c.args.sheet.now c.requires.0.made_long)

pub invariant_of-names : goal.invariant_of-names
invariant_of-names c = record { table = rw (made_lent c.args.sheet.now) c.requires.0.table }

pub fresh_generated_name-n-requires : goal.fresh_generated_name-n-requires
fresh_generated_name-n-requires c =
    let t = c.requires.0 in
    rw (made_lent c.args.sheet.now) (t.hinted, omega (arith, c.requires.3), omega (arith, t.few.1, t.defns_most))

pub returns-then-path-n : goal.returns-then-path-n
returns-then-path-n c =
    let f = c.fresh_generated_name-n in
    let g = rw (made_lent c.args.sheet.now) at f.ensures.fresh in
    (refused_name g.named g.kept (omega (arith, c.requires.3, f.auto.path)) (omega (arith, c.requires.3, f.auto.path, c.if-path-n.true)), refl)

pub returns-in_err-k : goal.returns-in_err-k
returns-in_err-k c =
    let p = c.requires in
    let f = c.fresh_generated_name-n in
    let g = rw (made_lent c.args.sheet.now) at f.ensures.fresh in
    let r = err_from_is_err_and c.from_residual.result c.from_residual.ensures.1 in
    let e = sym c.lift_params.ensures.0 ∙ c.in_err-k.was in
    let d = left_code p.1.whole c.args.bound.now c.args.uses.now c.args.spare.now p.2 p.0.source e in
    rw (r.1, r.2, d) (
      refused_macro g.named g.kept (omega (arith, p.3, f.auto.path)) (omega (arith, p.3, f.auto.path, c.if-path-n.false)) (λ a w. left_over w c.args.bound.now c.args.uses.now c.args.spare.now p.2 p.0.source e),
      refl,
    )

pub slice_bounds-enter_lift-end-3 : goal.slice_bounds-enter_lift-end-3
slice_bounds-enter_lift-end-3 c =
    let p = c.requires in
    let k = count_short p.1.whole c.args.bound.now c.args.uses.now c.args.spare.now p.2 p.0.source (sym c.lift_params.ensures.0 ∙ c.in_ok-k.was) in
    omega (arith, p.2.uses_long, c.lift_params.auto.uses)

pub slice_bounds-enter_lift-end-4 : goal.slice_bounds-enter_lift-end-4
slice_bounds-enter_lift-end-4 c =
    let p = c.requires in
    let k = count_short p.1.whole c.args.bound.now c.args.uses.now c.args.spare.now p.2 p.0.source (sym c.lift_params.ensures.0 ∙ c.in_ok-k.was) in
    simp length-take (omega (arith, p.2.uses_long, c.lift_params.auto.uses))

pub enter_lift-requires : goal.enter_lift-requires
enter_lift-requires c =
    let p = c.requires in
    let f = c.fresh_generated_name-n in
    let k = count_short p.1.whole c.args.bound.now c.args.uses.now c.args.spare.now p.2 p.0.source (sym c.lift_params.ensures.0 ∙ c.in_ok-k.was) in
    let m = whole_within p.1.whole in (
      tables_hinted p.0 (rw (made_lent c.args.sheet.now) at f.ensures.hints) (omega (arith, f.auto.hints)),
      omega (arith, p.1.whole.is.reach, p.0.source),
      omega (arith, p.0.source),
      simp length-take (omega (arith, p.3, f.auto.path, c.if-path-n.false)),
      simp length-take (omega (arith, p.0.source)),
      p.4,
      p.5,
    )

pub returns-in_err-call : goal.returns-in_err-call
returns-in_err-call c =
    let p = c.requires in
    let f = c.fresh_generated_name-n in
    let g = rw (made_lent c.args.sheet.now) at f.ensures.fresh in
    let u = c.lift_params.ensures in
    let e = sym u.0 ∙ c.in_ok-k.was in
    let r = err_from_is_err_and c.from_residual-in_err-call.result c.from_residual-in_err-call.ensures.1 in
    rw (r.1, r.2) (
      entered_lift g.named g.kept (omega (arith, p.3, f.auto.path)) (omega (arith, p.3, f.auto.path, c.if-path-n.false)) _ (Err c.in_err-call.field-0.0)
          (λ a w. (clear w c.args.bound.now c.args.uses.now c.args.spare.now p.2 p.0.source e, rw u.2 (are_sorted w c.args.bound.now c.args.uses.now c.args.spare.now p.2 p.0.source e)))
          c.in_err-call.ensures.0,
      c.in_err-call.ensures.1,
    )

pub returns : goal.returns
returns c =
    let p = c.requires in
    let f = c.fresh_generated_name-n in
    let g = rw (made_lent c.args.sheet.now) at f.ensures.fresh in
    let u = c.lift_params.ensures in
    let e = sym u.0 ∙ c.in_ok-k.was in (
      entered_lift g.named g.kept (omega (arith, p.3, f.auto.path)) (omega (arith, p.3, f.auto.path, c.if-path-n.false)) _ (Ok c.in_ok-call.field-0)
          (λ a w. (clear w c.args.bound.now c.args.uses.now c.args.spare.now p.2 p.0.source e, rw u.2 (are_sorted w c.args.bound.now c.args.uses.now c.args.spare.now p.2 p.0.source e)))
          c.in_ok-call.ensures.0,
      c.in_ok-call.ensures.1,
    )
