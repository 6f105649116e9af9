use mathlib.Core.Path.{refl}
use native.Mathlib.Omega.{arith}
use Rattle.layout.specs.hash.Hash.{mixed, folded}
use Rattle.layout.proofs.hash.mix.Goals as goal

pub returns : goal.returns
unfolding mixed folded
returns c = (refl, omega arith)
