use Rattle.buffer.proofs.zeroing.Zero.{all_zero}
use mathlib.Core.Path.{refl}
use Rattle.premise.proofs.test.premise.Goals as goal

pub returns : goal.returns
returns c = record { value = c.test-answer.ensures; work_after = all_zero _ _ _ _ c.test-answer.auto.work refl c.zero_range.ensures }
