use Rattle.std.proofs.Common.{refl, ◌∙◌, arith}
use Rattle.expand_macros.proofs.pass.Leftover.{listing_none, listing_macro, listing_stop, listing_step, booked}
use Rattle.expand_macros.proofs.pass.book.expand_all.Goals as goal

pub loop-d-preserved-then-d-eq-MACRO : goal.loop-d-preserved-then-d-eq-MACRO
loop-d-preserved-then-d-eq-MACRO c =
    let l = c.loop-d.invariant in
    let s = c.in-Some.ensures.steps in
    record {
      same_reference = refl;
      out_long = l.out_long;
      book = s.0 ∙ l.book;
      listing = λ out' r x. l.listing out' r (listing_macro (rw l.book at s.1) c.if-d-eq-MACRO.true x);
    }

pub returns-then-w-r : goal.returns-then-w-r
returns-then-w-r c =
    let l = c.loop-d.invariant in
    let last = c.out-1.given.1.1 (cc) ∙ c.drop-w.ensures in
    rw last (booked refl (l.listing _ _ (listing_stop (rw l.book at c.in-Some.ensures.steps.1) c.if-d-eq-MACRO.false c.expand_definition-r.ensures c.expand_definition-r.auto.out c.if-w-r.true)))

pub loop-d-preserved : goal.loop-d-preserved
loop-d-preserved c =
    let l = c.loop-d.invariant in
    let s = c.in-Some.ensures.steps in
    record {
      same_reference = refl;
      out_long = c.put_entry-e.auto.out ∙ c.expand_definition-r.auto.out ∙ l.out_long;
      book = s.0 ∙ l.book;
      listing = λ out' r x. l.listing out' r (listing_step (rw l.book at s.1) c.if-d-eq-MACRO.false c.expand_definition-r.ensures c.expand_definition-r.auto.out c.if-w-r.false
          c.put_entry-e.ensures c.expand_definition-r.auto.areas c.expand_definition-r.auto.marks x);
    }

pub returns : goal.returns
returns c =
    let l = c.loop-d.invariant in
    let last = c.out-2-1.given.1.1 (cc) ∙ c.drop-w-2.ensures in
    rw last (booked refl (l.listing _ _ (listing_none (omega (arith, c.in-None.ensures.steps.1)))))
