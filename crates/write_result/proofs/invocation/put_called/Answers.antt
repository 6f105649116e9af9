use Rattle.buffer.proofs.writes.Wrote.{glue}
use Rattle.buffer.proofs.writes.Rest.{wrote_as}
use Rattle.write_result.specs.tables.Lent.{tables_of}
use Rattle.write_result.proofs.invocation.Names.{called_is}
use Rattle.write_result.proofs.invocation.put_called.Goals as goal

pub returns : goal.returns
returns c = wrote_as (called_is (tables_of c.args.t) _ c.row-r.ensures (rw c.from.ensures at c.name_at-name.ensures)) (glue c.put_byte-a.ensures (glue c.put_name-b.ensures c.put_names.ensures))
