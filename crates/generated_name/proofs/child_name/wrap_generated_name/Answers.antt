use Rattle.definition.specs.Names.{shell_segment}
use Rattle.generated_name.proofs.child_name.Held.{extend}
use Rattle.generated_name.proofs.child_name.wrap_generated_name.Goals as goal

pub returns : goal.returns
unfolding shell_segment
returns c = extend c.put_bytes.ensures
