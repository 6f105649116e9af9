use mathlib.Core.Path.{sym, ◌∙◌}
use native.Mathlib.Omega.{arith}
use Rattle.layout.proofs.hash.Hash.{bit_mixed, own_bit}
use Rattle.layout.proofs.hash.Hashed.bit.Goals as goal

pub returns-then-d-lt32 : goal.returns-then-d-lt32
returns-then-d-lt32 c = (sym (bit_mixed _ _ c.if-d-lt32.true ∙ rw (← c.args.self.is)), omega arith)

pub returns : goal.returns
returns c = (own_bit _ _ c.if-d-lt32.false c.byte-x.ensures, omega arith)
