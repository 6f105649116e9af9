use mathlib.Core.Path.{refl}
use native.Mathlib.Omega.{arith}
use Rattle.what_comes_back.proofs.Reporting.{expanded_short}
use Rattle.lift_book.proofs.room.lift_longer.Goals as goal

pub lift_in-requires-2 : goal.lift_in-requires-2
lift_in-requires-2 c = let p = c.requires in (p.0, expanded_short p.0, omega arith, refl, p.1)
