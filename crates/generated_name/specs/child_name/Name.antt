-- Generated names as the code keeps them: in a buffer's first bytes, beside their length. The buffer is as long as a name may be, so a place past
-- its end says that the name is too long.
-- Assumes nothing.
use Rattle.std.specs.Prelude.{◌≡◌, List, ◌∷◌, ℕ, suc, min, length, take}
use Rattle.definition.specs.Tree.{Name}
use Rattle.definition.specs.Names.{child}
use Rattle.buffer.specs.writes.Buf.{Wrote}

-- d and a place hold a name: as far as d reaches, and the place is the name's length, or one past d's end where the name is longer
pub record Held (d : List ℕ) (at : ℕ) (name : Name) : Type 0 where
  pub place : at ≡ min (suc (length d)) (length name)
  pub bytes : take at d ≡ take (length d) name

-- "Children take the node's name, '_' and a segment"
pub record Child (d : List ℕ) (at : ℕ) (seg : Name) (d' : List ℕ) (r : ℕ) : Type 0 where
  pub wrote : Wrote d at (95 ∷ seg) d' r
  pub named : (name : Name) → Held d at name → Held d' r (child name seg)
