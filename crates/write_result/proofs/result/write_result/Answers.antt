use Rattle.write_result.proofs.result.Adds.{result_is}
use Rattle.write_result.proofs.result.Result.{writes}
use Rattle.write_result.proofs.result.write_result.Goals as goal

pub returns : goal.returns
returns c = writes _ _ _ (result_is _ _ _ _ c.number-kept.ensures (rw (c.from.ensures, c.from-2.ensures) at c.put_u16.ensures) (rw (c.from.ensures, c.from-2.ensures) at c.add_all.ensures))
