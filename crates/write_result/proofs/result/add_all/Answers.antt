use Rattle.std.proofs.Common.{refl, ◌≡◌, ◌+◌, ◌∙◌, ap, arith}
use Rattle.buffer.specs.declared.writer.Writer.{Writer}
use Rattle.write_result.proofs.result.Adds.{left_all, left_end, all_done, left_kept, left_lifted}
use Rattle.write_result.proofs.result.add_all.Goals as goal

pub loop-i-init : goal.loop-i-init
loop-i-init c = let e = c.new-w.ensures.value in rw (ap (λ (w : Writer). w.buf.now) e, ap (λ (w : Writer). w.at) e) (left_all refl refl)

pub loop-i-preserved : goal.loop-i-preserved
loop-i-preserved c = left_kept _ _ _ _ _ c.loop-i.invariant c.loop-i-test.true c.add_kept.ensures

pub loop-i-2-init : goal.loop-i-2-init
loop-i-2-init c = let e : c.loop-i.i ≡ c.args.kept + 0 = omega arith in rw e at c.loop-i.invariant

pub loop-i-2-preserved : goal.loop-i-2-preserved
loop-i-2-preserved c = left_lifted _ _ _ _ _ c.loop-i-2.invariant (omega arith) c.add_lifted.ensures

pub returns : goal.returns
returns c =
    let last = c.out-1.given.1.1 (cc) ∙ c.drop-w.ensures in
    rw last (left_end c.loop-i-2.invariant (all_done _ _ _ _ _ (omega arith) (omega arith)))
