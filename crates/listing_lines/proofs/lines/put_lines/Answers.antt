use native.Mathlib.Omega.{arith}
use lib.ListN.{length-replicate}
use Rattle.open_book.proofs.begin.Beginning.{all_bytes}
use Rattle.listing_lines.proofs.lines.Whole.{tells, tells_nested, in-nested, in-plain}
use Rattle.listing_lines.proofs.lines.put_lines.Goals as goal
use Rattle.listing_lines.proofs.lines.put_lines.Goals.{then-nested, else-nested}

pub returns : goal.returns
returns c =
    let b = all_bytes c.args.book.now (λ i. omega (arith, c.type_inv.book i)) in
    elim c.if-nested.branch [
      | then-nested w ↦ let e = w.elaborate_nested-answer.ensures in in-nested _ _ w.if-nested.true (tells_nested _ _ _ b (simp length-replicate (omega arith)) (simp length-replicate (omega arith)) e.value e.out_after (rw (w.answer-is, w.out-is) at c.put_answer.ensures))
      | else-nested w ↦ let e = w.elaborate-answer.ensures in in-plain _ _ w.if-nested.false (tells _ _ _ b (simp length-replicate (omega arith)) (simp length-replicate (omega arith)) e.value e.out_after (rw (w.answer-is, w.out-is) at c.put_answer.ensures))
    ]
