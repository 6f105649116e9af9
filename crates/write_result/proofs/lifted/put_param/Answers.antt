use mathlib.Core.Path.{sym, ap}
use Rattle.buffer.specs.writes.Buf.{name_bytes}
use Rattle.buffer.proofs.writes.Wrote.{glue}
use Rattle.buffer.proofs.writes.Rest.{wrote_as}
use Rattle.write_result.proofs.lifted.put_param.Goals as goal

pub returns : goal.returns
returns c = rw c.param-p.ensures at (glue (wrote_as (ap name_bytes (sym c.param_name.ensures)) c.put_name-a.ensures) c.put_type.ensures)
