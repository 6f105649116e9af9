use Rattle.buffer.proofs.writes.Wrote.{glue}
use Rattle.write_result.specs.invocation.Invocation.{call_bytes}
use Rattle.write_result.proofs.invocation.put_call.Goals as goal

pub returns : goal.returns
unfolding call_bytes
returns c = glue c.put_called-a.ensures c.put_byte.ensures
