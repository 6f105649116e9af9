use native.Mathlib.Omega.{arith}
use Rattle.lift_book.proofs.room.Tables.{lent}
use Rattle.lift_book.proofs.room.lift_in.Goals as goal

pub lift_with-requires : goal.lift_with-requires
lift_with-requires g c = let p = c.requires in (p.0, lent _ _ p.3 p.1 (λ i. omega (arith, c.type_inv.s i)) c.measure_book.ensures, p.4)
