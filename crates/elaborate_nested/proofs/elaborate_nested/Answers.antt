use mathlib.Core.Path.{refl}
use Rattle.buffer.proofs.zeroing.Zero.{all_zero}
use Rattle.elaborate_nested.proofs.elaborate_nested.Goals as goal

pub returns-clause-work_after : goal.returns-clause-work_after
returns-clause-work_after c = all_zero _ _ _ _ c.attempt_nested-answer.auto.work refl c.zero_range.ensures
