-- The bodies of the expanded book: where each begins no record stands.
use mathlib.Core.Path.{◌≡◌}
use mathlib.Core.List.{List}
use Prim.Native.Nat.{ℕ, ◌+◌, ◌<◌}
use native.Mathlib.Omega.{arith}
use Rattle.definition.specs.Res.{absent}
use Rattle.definition.specs.Tree.{Definition, format, constant, byte_order, macro}
use Rattle.definition.specs.Write.{w_u16, w_name, w_text, w_definition, size_of}
use Rattle.laws.proofs.Sizes.{head}
use Rattle.lifting.specs.Records.{Record, find}
use Rattle.lifting.specs.After.{lifts_d, Stands}
use Rattle.lifting.proofs.Ranges.{in-range}
use Rattle.lifting.proofs.Written.{WholeD}

pub body_some : (d : Definition) → 0 < size_of d
unfolding size_of w_definition w_name w_text w_u16
body_some (format n ps c) = omega arith
body_some (constant n x) = omega arith
body_some (byte_order x) = omega arith
body_some (macro n ps c) = omega arith

module _ (s : List ℕ) (rs : List Record) where
  not_first : (d : Definition) (p : ℕ) → Stands p (lifts_d d p) → ⊥
  unfolding lifts_d
  not_first (format n ps c) p k = let r = (in-range c (p + head n ps)).range p k in omega arith
  not_first (constant n x) p k = k
  not_first (byte_order x) p k = k
  not_first (macro n ps c) p k = k

  pub first_clear : (d : Definition) (p : ℕ) → WholeD s rs d p → find rs p ≡ absent
  first_clear d p t = t.clear p (omega arith) (omega (arith, body_some d)) (not_first d p)
