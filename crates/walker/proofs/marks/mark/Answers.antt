use Rattle.walker.proofs.marks.Marks.{marked}
use Rattle.walker.proofs.marks.mark.Goals as goal

pub returns : goal.returns
returns c = marked c.args.w c.args.at c.args.end c.put_item-next.ensures c.put_item-n.ensures
