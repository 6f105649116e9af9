use native.Mathlib.Omega.{arith}
use Rattle.std.proofs.lemmas.Result.{err_from_is_err_and}
use Rattle.lift_book.proofs.lift_with.Lifting.{starts, lifts_refused, lifts_short, lifts_written, small}
use Rattle.lift_book.proofs.lift_with.lift_with.Goals as goal

pub expand_definitions-requires : goal.expand_definitions-requires
expand_definitions-requires c =
    let p = c.requires in
    let q = p.1 in
    (starts c.args.sheet.now p.0 q p.2, q.scratch, q.binders_long, q.right)

pub returns-in_err-counts : goal.returns-in_err-counts
returns-in_err-counts c =
    let p = err_from_is_err_and c.from_residual.result c.from_residual.ensures.1 in
    rw (p.1, p.2) (lifts_refused c.in_err-counts.ensures)

pub returns-then-out-counts : goal.returns-then-out-counts
returns-then-out-counts c = rw c.from.ensures (lifts_short c.in_ok-counts.ensures c.if-out-counts.true)

pub overflow_cast-lifted : goal.overflow_cast-lifted
overflow_cast-lifted c = omega (arith, (small c.in_ok-counts.ensures c.requires.0).lifts)

pub overflow_cast-result : goal.overflow_cast-result
overflow_cast-result c = omega (arith, (small c.in_ok-counts.ensures c.requires.0).bytes)

pub overflow_cast-result-2 : goal.overflow_cast-result-2
overflow_cast-result-2 c = omega (arith, (small c.in_ok-counts.ensures c.requires.0).defns)

pub returns : goal.returns
returns c = lifts_written c.in_ok-counts.ensures c.if-out-counts.false c.write_parts.ensures
