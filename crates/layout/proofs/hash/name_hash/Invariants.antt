use mathlib.Core.Path.{◌≡◌}
use Prim.Native.Nat.{◌*◌, ◌<◌}
use lib.ListN.{drop}
use Rattle.layout.specs.hash.Hash.{bytes_from, hash_from, hash_of}
use Rattle.layout.proofs.hash.name_hash.Given as goal

abbrev pub invariant-loop-four : goal.invariant-loop-four
invariant-loop-four l = (l.g < 4294967296) × (l.h < 4294967296) × (hash_of l.name ≡ hash_from l.g l.h (drop (4 * l.four-index) l.name))

abbrev pub invariant-loop-b : goal.invariant-loop-b
invariant-loop-b l = (l.h < 4294967296) × (hash_of l.name ≡ bytes_from l.h (drop l.b-index l.rest))
