use Rattle.std.proofs.Common.{◌+◌, length, refl, sym, ap, ◌∙◌, arith}
use Rattle.buffer.specs.writes.Buf.{part}
use Rattle.buffer.proofs.writes.Put.{length-put}
use Rattle.buffer.proofs.zeroing.Zero.{put-zeros_none, zeros_more, zeros_there, zeros_end, zeros_filled, zeros_whole}
use Rattle.buffer.proofs.zeroing.zero_range.Goals as goal

pub returns-then-end-a : goal.returns-then-end-a
returns-then-end-a c = sym (put-zeros_none _ _) ∙ zeros_end _ _ _ _ (omega arith) (omega (arith, c.min-end.ensures))

pub loop-p-init : goal.loop-p-init
loop-p-init c = (omega arith, omega arith, refl, sym (put-zeros_none _ _))

pub loop-p-preserved-then-some_in : goal.loop-p-preserved-then-some_in
loop-p-preserved-then-some_in c =
    let i = c.loop-p.invariant in
    let p = c.loop-p.p in
    let e = zeros_filled c.loop-p.dst p (p + 1024) (omega arith) (omega arith) (c.fill.ensures.after (λ y h. h)) in
    (omega arith, omega arith, ap length e ∙ length-put _ _ _ ∙ i.2, e ∙ rw i.3 (zeros_more _ _ _ _ (omega arith) (omega arith)))

pub loop-p-preserved : goal.loop-p-preserved
unfolding part
loop-p-preserved c =
    let i = c.loop-p.invariant in
    let p = c.loop-p.p in
    (omega arith, omega arith, i.2, sym (zeros_there _ p (p + 1024) (omega arith) (omega arith) (sym c.some_in.ensures ∙ c.if-some_in.false)) ∙ rw i.3 (zeros_more _ _ _ _ (omega arith) (omega arith)))

pub returns : goal.returns
returns c =
    let i = c.loop-p.invariant in
    let e = zeros_filled c.loop-p.dst c.loop-p.p c.min-end.result i.1 (omega arith) (c.fill-2.ensures.after (λ y h. h)) in
    let g = c.args in
    e ∙ zeros_whole g.dst.now g.a c.loop-p.p g.e c.min-end.result i.3 i.0 i.1 (omega (arith, c.min-end.ensures))
