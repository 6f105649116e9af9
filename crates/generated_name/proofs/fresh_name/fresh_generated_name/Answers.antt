use Rattle.generated_name.proofs.fresh_name.Chosen.{chosen_base, chosen_long, chosen_number, hints_kept}
use Prim.Native.Nat.{◌<◌}
use native.Mathlib.Omega.{arith}
use Rattle.generated_name.proofs.fresh_name.fresh_generated_name.Goals as goal

pub returns-then-path-at : goal.returns-then-path-at
returns-then-path-at c = let p = c.requires in record { fresh = chosen_long c.args.names.table p.1 c.if-path-at.true; hints = p.0 }

pub returns-in_default-clause-fresh : goal.returns-in_default-clause-fresh
returns-in_default-clause-fresh c = chosen_base c.in_default.ensures c.if-path-at.false

pub first_free-free-requires : goal.first_free-free-requires
first_free-free-requires c =
    let p = c.requires in
    let f : c.in-Some.row < c.args.names.n = c.in-Some.ensures.bound in
    (p.1, omega arith, rw c.from.ensures (p.0.low _ f))

pub returns : goal.returns
returns c =
    let f = c.in-Some.ensures in
    let w = rw c.from.ensures at c.first_free-free.ensures in
    record { fresh = chosen_number c.requires.0 f w (omega arith); hints = hints_kept c.requires.0 f w }
