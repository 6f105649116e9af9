use Rattle.buffer.proofs.writes.Wrote.{glue}
use Rattle.definition.specs.Listing.{count}
use Rattle.listing_lines.proofs.shown.put_count.Goals as goal

pub returns : goal.returns
unfolding count
returns c = glue c.put_byte-a.ensures c.put_decimal.ensures
