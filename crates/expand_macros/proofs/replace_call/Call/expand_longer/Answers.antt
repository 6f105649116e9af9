use mathlib.Core.Path.{sym, ◌∙◌}
use Prim.Native.Nat.{ℕ}
use native.Mathlib.Omega.{arith}
use lib.ListN.{length-replicate}
use Rattle.expand_macros.proofs.replace_call.Opening.{called_grown, called_done}
use Rattle.expand_macros.proofs.replace_call.Call.expand_longer.Goals as goal

pub returns-then-is_some : goal.returns-then-is_some
returns-then-is_some c = called_done c.make_instance.ensures (sym c.is_some.ensures ∙ c.if-is_some.true) c.make_instance.auto.areas c.put_inner.ensures

pub returns : goal.returns
returns c = called_grown c.make_instance.ensures (omega (arith, length-replicate {0} {A = ℕ} 8192 0)) (sym c.is_some.ensures ∙ c.if-is_some.false) (omega arith)
