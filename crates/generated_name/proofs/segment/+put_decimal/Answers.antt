use Rattle.buffer.proofs.writes.Wrote.{glue}
use Rattle.generated_name.proofs.segment.Decimal.{decimal_small, decimal_large}
use Rattle.generated_name.proofs.segment.+put_decimal.Goals as goal

pub returns-then-n-lt10 : goal.returns-then-n-lt10
returns-then-n-lt10 t c = rw (decimal_small _ c.if-n-lt10.true) c.put_item.ensures

pub returns : goal.returns
returns t c = rw (decimal_large _ c.if-n-lt10.false) (glue c.put_decimal-o.ensures c.put_item-2.ensures)
