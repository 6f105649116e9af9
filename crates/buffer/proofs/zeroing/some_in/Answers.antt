use mathlib.Core.Path.{sym, ◌∙◌}
use Rattle.buffer.proofs.zeroing.Some.{some_on, some_end}
use Rattle.buffer.proofs.zeroing.some_in.Goals as goal

pub loop-b-preserved : goal.loop-b-preserved
loop-b-preserved c = let l = c.loop-b in l.invariant ∙ some_on _ _ _ c.loop-b-test.true

pub returns : goal.returns
returns c = let l = c.loop-b in sym (l.invariant ∙ some_end _ _ _ c.loop-b-test.false)
