use mathlib.Core.Path.{◌≡◌, refl, ◌∙◌}
use Prim.Native.Nat.{◌+◌, ◌-◌}
use native.Mathlib.Numerals.{unary_clauses}
use native.Mathlib.Omega.{arith}
use Rattle.substitute.proofs.instance.Making.{instanced_none, instanced_stop, instanced_step}
use Rattle.substitute.proofs.instance.instance.Goals as goal

pub loop-init : goal.loop-init
loop-init c = record { areas_long = refl; marks_long = refl; goes = λ a m r i. simp unary_clauses at i }

pub loop-preserved : goal.loop-preserved
loop-preserved c =
    let l = c.loop.invariant in
    let e : c.args.pairs - c.loop.counter - 1 ≡ c.args.pairs - (c.loop.counter + 1) = omega arith in
    record {
      areas_long = c.substitute_next.auto.areas ∙ l.areas_long;
      marks_long = c.substitute_next.auto.marks ∙ l.marks_long;
      goes = λ a m r i. l.goes a m r (instanced_step c.in_ok-here.ensures (omega arith) c.substitute_next.auto.areas c.substitute_next.auto.marks (rw e i));
    }

pub returns-in_err-here : goal.returns-in_err-here
returns-in_err-here c = rw c.from_residual.ensures (c.loop.invariant.goes _ _ _ (instanced_stop c.in_err-here.ensures (omega arith)))

pub returns : goal.returns
returns c = c.loop.invariant.goes _ _ _ (instanced_none _ (omega arith))
