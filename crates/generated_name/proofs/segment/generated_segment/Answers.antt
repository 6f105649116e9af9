use Rattle.generated_name.proofs.segment.Segment.{tested, keeps, drops, segment_none, segment_all}
use Rattle.generated_name.specs.segment.Kept.{kept}
use Rattle.definition.specs.Names.{eq_name, letter, letters}
use Rattle.buffer.proofs.writes.Wrote.{wrote_past, wrote_none}
use borrow.Author.Tests.{eqb-true, eqb-false}
use mathlib.Core.Path.{refl, sym, ◌∙◌}
use native.Mathlib.Omega.{arith}
use Rattle.generated_name.proofs.segment.generated_segment.Goals as goal
use Rattle.generated_name.proofs.segment.generated_segment.Goals.{then-x-ne0, else-x-ne0}

pub returns-then-dst-at : goal.returns-then-dst-at
returns-then-dst-at c = wrote_past _ _ _ (omega arith) (omega arith)

pub returns-then-is_empty : goal.returns-then-is_empty
returns-then-is_empty c = rw (segment_none _ (eqb-true _ 0 (sym c.is_empty.ensures ∙ c.if-is_empty.true))) c.put_bytes.ensures

pub loop-b-init : goal.loop-b-init
unfolding eq_name kept letter letters
loop-b-init c = (tested _ refl tt, wrote_none _ _ (omega arith))

pub loop-b-preserved : goal.loop-b-preserved
loop-b-preserved c =
    let l = c.loop-b in
    elim c.if-x-ne0.branch [
      | then-x-ne0 w ↦ (l.invariant.0, rw (w.dst-is, w.o-is) (keeps _ _ _ _ _ l.b-index _ c.loop-b-test.true (rw c.from.ensures (l.invariant.0.rule _ (omega (arith, c.type_inv.label l.b-index)))) l.invariant.1 w.if-x-ne0.true w.put_item-o.ensures))
      | else-x-ne0 w ↦ (l.invariant.0, rw (w.dst-is, w.o-is) (drops _ _ _ _ _ l.b-index _ c.loop-b-test.true (rw c.from.ensures (l.invariant.0.rule _ (omega (arith, c.type_inv.label l.b-index)))) l.invariant.1 w.if-x-ne0.false))
    ]

pub returns : goal.returns
returns c =
    let l = c.loop-b in
    let label = c.args.label.now in
    rw (segment_all label l.b-index (eqb-false _ 0 (sym c.is_empty.ensures ∙ c.if-is_empty.false)) c.loop-b-test.false) l.invariant.1
