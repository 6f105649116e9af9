use mathlib.Core.Path.{refl}
use Rattle.read_book.proofs.cursor.Laws.{handed}
use Rattle.read_book.proofs.contents.Rows.{r-begins, r-more, r_none, r_left, r_end, start_row}
use Rattle.read_book.proofs.contents.row.Goals as goal

pub loop-init : goal.loop-init
loop-init c = rw c.from-width.ensures (c.requires.1, start_row _ c.args.more c.args.n c.requires.1, r-begins _ c.args.more _ _)

pub returns-in_err-e : goal.returns-in_err-e
returns-in_err-e c = rw (handed _ c.from_residual.ensures.1) (c.loop.invariant.2 _ (r_none _ c.args.more _ _ c.loop-test.true c.in_err-e.ensures))

pub loop-preserved : goal.loop-preserved
loop-preserved c = let t = c.in_ok-e.ensures.told in (t.within, λ z. t.fits, λ r e. c.loop.invariant.2 r (r-more _ c.args.more _ _ c.loop-test.true c.in_ok-e.ensures r e))

pub returns-then-want-s : goal.returns-then-want-s
returns-then-want-s c = c.loop.invariant.2 _ (r_left _ c.args.more _ _ c.loop-test.false c.loop.invariant.0 c.if-want-s.true)

pub returns : goal.returns
returns c = c.loop.invariant.2 _ (r_end _ c.args.more _ _ c.loop-test.false _ refl c.if-want-s.false (c.loop.invariant.1 c.loop-test.false))
