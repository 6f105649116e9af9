use mathlib.Core.Path.{refl}
use native.Mathlib.Omega.{arith}
use Rattle.name_table.proofs.forks.Steps.{apart_mixed, apart_own}
use Rattle.name_table.proofs.forks.apart.Goals as goal

pub returns-then-d-lt32 : goal.returns-then-d-lt32
returns-then-d-lt32 c = apart_mixed _ _ (rw (← c.of-g.ensures, ← c.of-h.ensures) c.bits_apart-d.ensures) c.if-d-lt32.true

pub overflow_mul-first : goal.overflow_mul-first
overflow_mul-first c = omega (arith, c.byte_apart.ensures.1, c.requires)

pub overflow_add-first : goal.overflow_add-first
overflow_add-first c = omega (arith, c.byte_apart.ensures.1, c.requires)

pub bits_apart-requires : goal.bits_apart-requires
bits_apart-requires c = omega (arith, c.byte_apart.ensures.1, c.requires)

pub returns : goal.returns
returns c = apart_own _ _ (rw (← c.of-g.ensures, ← c.of-h.ensures) c.bits_apart-d.ensures) c.if-d-lt32.false (rw (← c.byte_apart.ensures.0) c.byte_apart.ensures.1) (λ j. omega (arith, c.type_inv.a j)) (λ j. omega (arith, c.type_inv.b j)) c.byte_apart.ensures.0 refl (rw (← c.of-g.ensures, ← c.of-h.ensures) c.bits_apart.ensures)
