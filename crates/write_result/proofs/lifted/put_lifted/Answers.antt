use Rattle.buffer.proofs.writes.Wrote.{glue}
use Rattle.buffer.proofs.writes.Rest.{wrote_as}
use Rattle.write_result.specs.tables.Lent.{tables_of}
use Rattle.write_result.proofs.lifted.Steps.{lifted_is}
use Rattle.write_result.proofs.lifted.put_lifted.Goals as goal

pub returns : goal.returns
returns c = wrote_as (lifted_is (tables_of c.args.t) _ c.row-r.ensures (rw c.from.ensures at c.name_at-name.ensures)) (glue c.put_name-a.ensures (glue c.put_params-b.ensures (rw c.from-2.ensures at c.put_spliced.ensures)))
