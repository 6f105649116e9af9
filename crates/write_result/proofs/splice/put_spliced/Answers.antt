use mathlib.Core.Path.{◌≡◌, refl, sym, ◌∙◌}
use native.Mathlib.Omega.{arith}
use Rattle.buffer.proofs.writes.Rest.{wrote_as, rest_all, rest_on, rest_same}
use Rattle.write_result.proofs.splice.Steps.{gap_next, gap_call, gap_end, spliced_is}
use Rattle.write_result.proofs.next_lift.Next.{next_is}
use Rattle.write_result.proofs.splice.put_spliced.Goals as goal

pub loop-p-init : goal.loop-p-init
loop-p-init c = let e = rw c.from-gap.ensures at c.next_lift-p.ensures in let n = next_is _ _ _ _ e in
    record { behind = omega (arith, n.0, c.from-gap.ensures); begins = n.1; rest = rw c.from-gap.ensures (rest_same (rest_same (rest_all _ _ _) (spliced_is _ _ _)) (gap_next _ _ _ _ _ (omega arith) e)) }

pub overflow_sub-i : goal.overflow_sub-i
overflow_sub-i c = let f : c.item-i.result ≡ 0 → ⊥ = λ z. c.loop-p.invariant.begins c.loop-p-test.true (sym c.item-i.ensures ∙ z) in omega arith

pub loop-p-smaller : goal.loop-p-smaller
loop-p-smaller c = let n = next_is _ _ _ _ c.next_lift-p-in-loop-p.ensures in omega (arith, n.0)

pub loop-p-preserved : goal.loop-p-preserved
loop-p-preserved c =
    let l = c.loop-p in
    let t = c.loop-p-test.true in
    let k = c.item-i.ensures in
    let e = c.next_lift-p-in-loop-p.ensures in
    let n = next_is _ _ _ _ e in
    record {
      behind = n.0;
      begins = n.1;
      rest = rest_same (rest_on _ (rest_on _ l.invariant.rest (gap_call _ _ _ _ _ t (sym k) (λ z. l.invariant.begins t (sym k ∙ z)) _ _ c.row.ensures (rw c.from.ensures at c.max-gap.ensures)) c.put_part-a.ensures) refl c.put_call-o.ensures) (gap_next _ _ _ _ _ (omega arith) e);
    }

pub returns : goal.returns
returns c = c.loop-p.invariant.rest.then _ _ (wrote_as (gap_end _ _ _ _ c.loop-p-test.false) c.put_part.ensures)
