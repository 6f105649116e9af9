use mathlib.Core.Path.{◌≡◌, refl, ap, sym, ◌∙◌}
use Prim.Native.Nat.{◌+◌}
use native.Mathlib.Omega.{arith}
use lib.ListN.{length}
use Rattle.lift_tables.specs.enter_lift.Bound.{Builds}
use Rattle.lift_tables.proofs.enter_lift.Binders.{first_found, found_sized}
use Rattle.lift_tables.proofs.enter_lift.Params.{filled_none, filled_missing, filled_more, use-short}
use Rattle.lift_tables.proofs.enter_lift.build_param_defns.Goals as goal

pub loop-i-init : goal.loop-i-init
loop-i-init c = record {
  within = record { names_least = omega arith; names_most = omega arith; types_least = omega arith; types_most = omega arith };
  filled = filled_none _ _ _ _ _;
  parts = record { order = refl; rows = refl; params = refl; made = refl };
  long = refl;
}

pub returns-in_err-binder : goal.returns-in_err-binder
unfolding Builds
returns-in_err-binder c =
    let l = c.loop-i in
    let n = c.name_of_use-name in
    rw c.from_residual.ensures (
      filled_missing l.invariant.filled c.loop-i-test.true (length c.args.uses.now) c.loop-i-test.true (omega arith)
          (rw (← n.ensures) (first_found c.args.s.now c.args.binders.now n.result.now 0 c.args.b ∙ (rw (← c.find_binder.ensures, c.in_err-binder.was)))),
      l.invariant.parts,
    )

pub loop-i-preserved : goal.loop-i-preserved
loop-i-preserved c =
    let l = c.loop-i in
    let w = l.invariant.within in
    let n = c.name_of_use-name in
    let u = c.put_param.ensures in
    let d = c.in_ok-binder.binder in
    let e = sym c.find_binder.ensures ∙ c.in_ok-binder.was in
    let q = ap length n.ensures in
    let z = c.from-types.ensures in
    let short = use-short _ _ n.ensures in
    let sized = found_sized _ _ _ 0 _ d e (λ j h. c.requires.3 j (omega arith)) in
    let m : l.names + (1 + length n.result.now) ≡ l.names + 1 + length n.result.now = omega arith in
    record {
      within = record { names_least = omega (arith, w.names_least); names_most = omega (arith, w.names_most); types_least = omega (arith, w.types_least); types_most = omega (arith, w.types_most) };
      filled = rw (m, z) (filled_more l.invariant.filled c.loop-i-test.true d
          (rw (← n.ensures) (first_found c.args.s.now c.args.binders.now n.result.now 0 c.args.b ∙ (rw e)))
          u.params q);
      parts = record { order = u.order ∙ l.invariant.parts.order; rows = u.rows ∙ l.invariant.parts.rows; params = refl; made = u.made ∙ l.invariant.parts.made };
      long = c.put_param.auto.sheet ∙ l.invariant.long;
    }

pub returns : goal.returns
unfolding Builds
returns c =
    let l = c.loop-i in
    let e : l.i ≡ length c.args.uses.now = omega arith in
    ((rw e at l.invariant.filled, rw e at l.invariant.within), l.invariant.parts)
