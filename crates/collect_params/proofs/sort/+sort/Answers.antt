use Rattle.std.proofs.Common.{arith}
use Rattle.collect_params.proofs.sort.Sorting.{sort_none, sort_both, spare_long}
use Rattle.collect_params.proofs.sort.+sort.Goals as goal

pub returns-then-halvings-eq0 : goal.returns-then-halvings-eq0
returns-then-halvings-eq0 t c = sort_none _ _ _ _ c.then-halvings-eq0.either

pub returns : goal.returns
returns t c = sort_both _ _ _ c.if-halvings-eq0.false c.if-uses-lt2.false c.sort.ensures.0 c.sort-2.ensures.0 c.split_at.ensures.front c.split_at.ensures.back c.args.spare.now c.requires (spare_long _ _ _ _ (omega arith) c.sort.auto.spare c.sort-2.auto.spare) c.merge.ensures c.copy_from_slice.ensures.after
