use native.Mathlib.Omega.{arith}
use Rattle.buffer.proofs.writes.Wrote.{wrote_one, wrote_past}
use Rattle.buffer.proofs.writes.put_item.Goals as goal

pub returns-then-dst-at : goal.returns-then-dst-at
returns-then-dst-at g c = wrote_past _ _ _ (omega arith) (omega arith)

pub returns : goal.returns
returns g c = wrote_one _ _ _ (omega arith)
