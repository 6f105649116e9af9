use mathlib.Core.Path.{◌≡◌}
use mathlib.Core.Bool.{true, cond}
use lib.Dec.{eqb}
use lib.ListN.{drop}
use Rattle.buffer.specs.zeroing.Zeros.{some_in_of}
use Rattle.buffer.proofs.zeroing.some_in.Given as goal

abbrev pub invariant-loop-b : goal.invariant-loop-b
invariant-loop-b l = some_in_of l.bytes ≡ cond (eqb l.all 0) (some_in_of (drop l.b-index l.bytes)) true
