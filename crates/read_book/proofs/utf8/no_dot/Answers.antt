use mathlib.Core.Path.{refl, sym, ◌∙◌}
use Rattle.read_book.proofs.utf8.Dots.{d_end, d_dot, d_next}
use Rattle.read_book.proofs.utf8.no_dot.Goals as goal

pub loop-b-init : goal.loop-b-init
loop-b-init c = refl

pub returns-then-b-eq46 : goal.returns-then-b-eq46
returns-then-b-eq46 c = sym (c.loop-b.invariant ∙ d_dot _ _ c.loop-b-test.true c.if-b-eq46.true)

pub loop-b-preserved : goal.loop-b-preserved
loop-b-preserved c = c.loop-b.invariant ∙ d_next _ _ c.loop-b-test.true c.if-b-eq46.false

pub returns : goal.returns
returns c = sym (c.loop-b.invariant ∙ d_end _ _ c.loop-b-test.false)
