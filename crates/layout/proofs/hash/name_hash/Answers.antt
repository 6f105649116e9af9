use Rattle.std.proofs.Common.{arith, refl, sym, ◌∙◌}
use Rattle.layout.specs.hash.Hash.{spread, fours}
use Rattle.layout.proofs.hash.Hash.{words_on, words_end, bytes_on, bytes_end}
use Rattle.layout.proofs.hash.name_hash.Goals as goal

pub loop-four-init : goal.loop-four-init
loop-four-init c = (omega arith, omega arith, refl)

pub loop-four-preserved : goal.loop-four-preserved
unfolding spread
loop-four-preserved c =
    let l = c.loop-four in
    let a = c.as_chunks.ensures in
    (c.mix-g.ensures.1, omega arith, rw c.mix-g.ensures.0 (words_on _ _ l.four-index l.g l.h _ a.front a.front_len c.loop-four-test.true c.from_le_bytes-word.ensures l.invariant.2))

pub loop-b-init : goal.loop-b-init
unfolding fours
loop-b-init c =
    let l = c.loop-four in
    let a = c.as_chunks.ensures in
    (c.mix-h.ensures.1, rw (c.mix-h.ensures.0, a.back) (words_end _ l.four-index l.g l.h (omega (arith, a.front_len)) l.invariant.2))

pub loop-b-preserved : goal.loop-b-preserved
loop-b-preserved c =
    let l = c.loop-b in
    (c.mix-h-in-loop-b.ensures.1, rw c.mix-h-in-loop-b.ensures.0 (l.invariant.1 ∙ bytes_on _ l.b-index l.h c.loop-b-test.true))

pub returns : goal.returns
returns c = let l = c.loop-b in sym (l.invariant.1 ∙ bytes_end _ l.b-index l.h c.loop-b-test.false)
