use mathlib.Core.Path.{◌≡◌, sym, ◌∙◌}
use Prim.Native.Nat.{◌+◌, ◌-◌}
use native.Mathlib.Omega.{arith}
use borrow.Author.Tests.{eq-eqb, ne_eqb}
use Rattle.lift_combinator.proofs.frames.Ends.{end_more, end_last, end_none, stood, follows}
use Rattle.lift_combinator.proofs.frames.combinator_end.Goals as goal

pub end_of-e-requires : goal.end_of-e-requires
end_of-e-requires c = let p = c.requires in (p.0, stood p.2 c.loop.invariant.standing)

pub returns-then-byte-ne-MORE : goal.returns-then-byte-ne-MORE
returns-then-byte-ne-MORE c =
    let l = c.loop in
    sym (l.invariant.left ∙ end_last _ l.here (c.args.levels - l.counter) (omega arith) (rw (← c.end_of-e.ensures, ← c.byte.ensures) (ne_eqb _ _ c.if-byte-ne-MORE.true)) ∙ sym (rw (← c.end_of-e.ensures) c.past-here.ensures))

pub loop-preserved : goal.loop-preserved
loop-preserved c =
    let l = c.loop in
    let e = c.end_of-e.ensures in
    let n : c.args.levels - l.counter - 1 ≡ c.args.levels - (l.counter + 1) = omega arith in
    record {
      left = l.invariant.left ∙ end_more _ l.here (c.args.levels - l.counter) (omega arith) (rw (← e, ← c.byte.ensures) (eq-eqb _ _ c.if-byte-ne-MORE.false)) ∙ (rw (n, ← e, ← c.past-here.ensures));
      standing = rw c.past-here.ensures ((follows c.requires.2 l.invariant.standing e).chain (sym c.byte.ensures ∙ c.if-byte-ne-MORE.false));
    }

pub returns : goal.returns
returns c = let l = c.loop in sym (l.invariant.left ∙ end_none _ l.here (c.args.levels - l.counter) (omega arith))
