use Rattle.collect_params.proofs.params.Whole.{sorted_front}
use Rattle.collect_params.proofs.params.sorted_params.Goals as goal

pub returns : goal.returns
returns c = sorted_front _ _ _ _ _ _ _ _ _ _ c.min.ensures c.min-end.ensures c.sort.ensures.0 c.sort.ensures.1 c.each_once.ensures.0 c.each_once.ensures.1
