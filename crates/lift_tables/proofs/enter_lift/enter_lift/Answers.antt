use mathlib.Core.Path.{◌≡◌, ◌∙◌}
use Prim.Native.Nat.{◌+◌}
use native.Mathlib.Omega.{arith}
use lib.ListN.{length}
use Rattle.std.proofs.lemmas.Result.{err_from_is_err_and}
use Rattle.what_comes_back.specs.declared.Code.TheVariants.{NoBinder}
use Rattle.lift_tables.proofs.enter_lift.Params.{all_uses, built, unbuilt}
use Rattle.lift_tables.proofs.enter_lift.Entered.{refused_binder, refused_bytes, refused_defns, made_in_parts}
use Rattle.lift_tables.proofs.enter_lift.Rows.{sheet_long}
use Rattle.lift_tables.proofs.enter_lift.enter_lift.Goals as goal
use Rattle.lift_tables.proofs.enter_lift.enter_lift.Goals.{then-bytes-gt16384-via-then-bytes-gt16384, then-bytes-gt16384-via-else-bytes-gt16384+then-w-ge512}

pub returns-in_err-sizes : goal.returns-in_err-sizes
returns-in_err-sizes c =
    let p = err_from_is_err_and c.from_residual.result c.from_residual.ensures.1 in
    let none = rw c.in_err-sizes.was at c.ok_or.ensures.ok_part in
    let code : c.in_err-sizes.field-0.0 ≡ NoBinder = grind (arith, c.in_err-sizes.ensures.value, none) in
    rw (p.1, p.2, code) (refused_binder (rw (all_uses c.args.s.now c.args.uses.now) at (unbuilt _ _ _ _ _ _ _ (rw none at c.build_param_defns.ensures.0))), c.build_param_defns.ensures.1.order)

pub returns-then-bytes-gt16384 : goal.returns-then-bytes-gt16384
returns-then-bytes-gt16384 c =
    let some = rw c.in_ok-sizes.was at c.ok_or.ensures.ok_part in
    let b = (built _ (rw some at c.build_param_defns.ensures.0)).0 in
    let e = all_uses c.args.s.now c.args.uses.now in
    elim c.then-bytes-gt16384.branch [
      | then-bytes-gt16384-via-then-bytes-gt16384 w ↦ (refused_bytes b.of (rw e at b.all) (omega (arith, rw e at b.names_size, b.types_size_of, w.if-bytes-gt16384.true)), c.build_param_defns.ensures.1.order)
      | then-bytes-gt16384-via-else-bytes-gt16384+then-w-ge512 w ↦ (refused_defns b.of (rw e at b.all) w.if-w-ge512.true, c.build_param_defns.ensures.1.order)
    ]

pub add_row-counts-requires : goal.add_row-counts-requires
add_row-counts-requires c =
    let p = c.requires in
    let t = p.0 in
    let some = rw c.in_ok-sizes.was at c.ok_or.ensures.ok_part in
    let b = (built _ (rw some at c.build_param_defns.ensures.0)).1 in
    (p.3, p.1, p.2, omega (arith, t.room), omega (arith, t.room, t.bytes_most), omega (arith, t.room, sheet_long c.args.sheet.now t.made_long, c.build_param_defns.auto.sheet), omega (arith, t.few.0), omega arith, omega (arith, t.few.1), t.places_long, t.hints_long)

pub returns : goal.returns
returns c =
    let p = c.requires in
    let some = rw c.in_ok-sizes.was at c.ok_or.ensures.ok_part in
    let b = built _ (rw some at c.build_param_defns.ensures.0) in
    let k = c.build_param_defns.ensures.1 in
    let a = c.add_row-counts.ensures in
    (rw (all_uses c.args.s.now c.args.uses.now) at (made_in_parts c.args.sheet.now c.build_param_defns.new.sheet c.add_row-counts.new.sheet k a.2 p.0 b.0 b.1 p.3 (c.args.w.bytes + 6 + (length c.args.name.now + 3 + c.in_ok-sizes.sizes.names + c.in_ok-sizes.sizes.types) + (length c.args.name.now + c.in_ok-sizes.sizes.names + 5)) (omega arith) (omega (arith, c.if-bytes-gt16384.false)) (omega (arith, c.if-w-ge512.false)) a.0), a.1 ∙ k.order)
