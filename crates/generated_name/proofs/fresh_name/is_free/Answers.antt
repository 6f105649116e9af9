use Rattle.generated_name.proofs.fresh_name.FreeNames.{tells_long, tells_found}
use borrow.Author.Tests.{lt-ltb}
use Rattle.generated_name.proofs.fresh_name.is_free.Goals as goal

pub returns-then-path-len : goal.returns-then-path-len
returns-then-path-len c = rw (lt-ltb _ _ c.if-path-len.true) (tells_long c.args.names.table c.requires c.if-path-len.true)

pub returns-else-path-len : goal.returns-else-path-len
returns-else-path-len c = tells_found _ c.is_none.ensures c.find.ensures c.if-path-len.false
