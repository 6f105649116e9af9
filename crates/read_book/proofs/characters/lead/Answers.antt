use native.Mathlib.Omega.{arith}
use Rattle.read_book.proofs.characters.Leads.{of_one, of_none, of_two, of_e0, of_ed, of_three, of_f0, of_four, of_f4, of_last}
use Rattle.read_book.proofs.characters.lead.Goals as goal
use Rattle.read_book.proofs.characters.lead.Goals.{in_default-via-then-b-lt194, in_default-via-else-b-lt194+else-b-lt224+else-b-lt240+else-b-lt244}

pub returns-in-224 : goal.returns-in-224
returns-in-224 c = of_e0 _ c.wants-in-224.ensures c.in-224.is

pub returns-in-237 : goal.returns-in-237
returns-in-237 c = of_ed _ c.wants-in-237.ensures c.in-237.is

pub returns-in-240 : goal.returns-in-240
returns-in-240 c = of_f0 _ c.wants-in-240.ensures c.in-240.is

pub returns-in-244 : goal.returns-in-244
returns-in-244 c = of_f4 _ c.wants-in-244.ensures c.in-244.is

pub returns-then-b-lt128 : goal.returns-then-b-lt128
returns-then-b-lt128 c = of_one _ c.wants.ensures c.if-b-lt128.true

pub returns-in-194-to-223 : goal.returns-in-194-to-223
returns-in-194-to-223 c = of_two _ c.wants-in-194-to-223.ensures (omega arith) (omega arith)

pub returns-in-225-to-239 : goal.returns-in-225-to-239
returns-in-225-to-239 c = of_three _ c.wants-in-225-to-239.ensures (omega arith) (omega arith) (λ e. omega arith) (λ e. omega arith)

pub returns-in-241-to-243 : goal.returns-in-241-to-243
returns-in-241-to-243 c = of_four _ (omega arith) (λ e. omega arith) c.wants-in-241-to-243.ensures (omega arith)

pub returns-in_default : goal.returns-in_default
returns-in_default c =
    elim c.in_default.branch [
      | in_default-via-then-b-lt194 w ↦ of_none _ c.wants-in_default.ensures (omega arith) (omega arith)
      | in_default-via-else-b-lt194+else-b-lt224+else-b-lt240+else-b-lt244 w ↦ of_last _ (omega arith) (λ e. omega arith) c.wants-in_default.ensures (omega arith) (λ e. omega arith)
    ]
