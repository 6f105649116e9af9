use Prim.Native.Nat.{◌%◌, ◌/◌, min}
use native.Mathlib.Omega.{arith}
use Rattle.lift_tables.proofs.tables.Parts.{stored_in}
use Rattle.lift_tables.proofs.tables.store_in.Goals as goal

pub returns : goal.returns
returns c =
    let a = c.args in
    let y = c.min-y.result in
    let e = c.min-y.ensures in
    rw c.to_le_bytes.ensures (stored_in a.t.now a.from a.n a.i (min a.x 65535) (y % 256) (y / 256 % 256) (omega (arith, e)) (omega arith) (omega arith))
