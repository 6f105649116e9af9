use Rattle.walker.proofs.definitions.Params.{param_past}
use Rattle.walker.proofs.definitions.param_past.Goals as goal

pub returns : goal.returns
returns c = param_past _ c.name_past.ensures _ c.skip_over.ensures.0
