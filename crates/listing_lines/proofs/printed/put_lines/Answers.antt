use mathlib.Core.Path.{refl}
use native.Mathlib.Omega.{arith}
use Rattle.listing_lines.proofs.printed.Lines.{lines_none, lines_step, all_lines}
use Rattle.listing_lines.proofs.printed.put_lines.Goals as goal

pub loop-e-init : goal.loop-e-init
loop-e-init c =
    let e = c.into_iter-e-iterator.ensures.into_iter_gives in
    let d = c.each_definition-e-items.ensures in
    (rw e d.book, λ x r p. rw (e, d.ahead) at p)

pub loop-e-preserved : goal.loop-e-preserved
loop-e-preserved c =
    let l = c.loop-e.invariant in
    let n = rw l.0 at c.in-Some.ensures.steps in
    let w = rw n.1.at at c.put_line-o.ensures in
    (n.0, λ x r p. l.1 x r (lines_step n.1.some n.1.kind w n.1.others c.saturating_sub-first.ensures p))

pub returns : goal.returns
returns c = all_lines refl c.put_byte-o.ensures (c.loop-e.invariant.1 _ _ (lines_none (omega (arith, c.in-None.ensures.steps.1))))
