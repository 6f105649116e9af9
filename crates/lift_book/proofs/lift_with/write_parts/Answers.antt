use native.Mathlib.Omega.{arith}
use lib.ListN.{length-take}
use Rattle.lift_tables.specs.tables.Parts.{order_in, rows_in_of, params_in}
use Rattle.lift_tables.proofs.tables.Parts.{made_lent}
use Rattle.lift_book.proofs.lift_with.write_parts.Goals as goal

pub slice_bounds-write_result-end : goal.slice_bounds-write_result-end
slice_bounds-write_result-end c = simp length-take (omega (arith, c.requires))

pub returns : goal.returns
unfolding order_in rows_in_of params_in
returns c = rw (made_lent c.args.sheet.now) at c.write_result.ensures
