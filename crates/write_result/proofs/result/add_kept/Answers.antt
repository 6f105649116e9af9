use Rattle.write_result.proofs.result.Adds.{adds_one, adds_as, kept_of}
use Rattle.write_result.proofs.result.add_kept.Goals as goal

pub returns : goal.returns
returns c = adds_as (kept_of _ _ _ (rw c.from.ensures at c.byte-kind.ensures)) (adds_one c.put_kept-end.ensures (rw c.from.ensures at c.put_entry.ensures))
