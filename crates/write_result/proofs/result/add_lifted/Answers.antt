use Rattle.write_result.proofs.result.Adds.{adds_one, adds_as, lifted_of}
use Rattle.write_result.proofs.result.add_lifted.Goals as goal

pub returns : goal.returns
returns c = adds_as (lifted_of _ _ _ _ (rw c.from.ensures at c.pair-k.ensures)) (adds_one c.put_lifted-end.ensures (rw (c.from-2.ensures, c.from-3.ensures) at c.put_entry.ensures))
