-- The first free name, and the search for it.
-- Assumes nothing.
use Rattle.std.specs.Prelude.{◌≡◌, List, ◌∷◌, Bool, true, false, not, ℕ, suc, ◌≤◌, ◌<◌, length, take}
use Rattle.definition.specs.Tree.{Name}
use Rattle.definition.specs.Names.{elem, decimal, numbered, fresh}
use Rattle.buffer.specs.writes.Buf.{Wrote}
use Rattle.generated_name.specs.child_name.Name.{Held}
use Rattle.name_table.specs.taken.Taken.{Store, taken}

-- whether the name that d holds is free
pub record Tells (d : List ℕ) (at : ℕ) (names : List Name) (r : Bool) : Type 0 where
  pub says : (name : Name) → Held d at name → elem name names ≡ not r

-- k is the first number from some number on, and below n, whose numbered name is free, or n; that name was written
pub record FirstFree (d : List ℕ) (at : ℕ) (names : Store) (places : List ℕ) (n first : ℕ) (d' : List ℕ) (k r : ℕ) : Type 0 where
  pub from : first ≤ k
  pub last : k ≤ n
  pub passed : (j : ℕ) → first ≤ j → j < k → elem (numbered (take at d) j) (taken names places n) ≡ true
  pub free : k < n → elem (numbered (take at d) k) (taken names places n) ≡ false
  pub wrote : Wrote d at (95 ∷ decimal k) d' r

-- "The name is the base if free, else base_0, base_1.. first free." A base that has no room is longer than any name that is taken, and stays
pub record Fresh (d : List ℕ) (at : ℕ) (names : Store) (places : List ℕ) (n : ℕ) (d' : List ℕ) (r : ℕ) : Type 0 where
  pub within : at ≤ length d → Wrote d 0 (fresh (take at d) (taken names places n)) d' r
  pub beyond : length d < at → (r ≡ suc (length d)) × (d' ≡ d)
  pub named : (base : Name) → Held d at base → Held d' r (fresh base (taken names places n))
  pub kept : take at d' ≡ take at d
