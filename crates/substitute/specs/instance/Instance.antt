-- What turns one after the other say of the trees that stand in the bytes.
use Rattle.std.specs.Prelude.{◌≡◌, List, [], ◌∷◌, Option, IsNone, IsSomeAnd, ℕ, ◌≤◌, min, length}
use Rattle.definition.specs.Tree.{Name, Combinator, Inners, no_inner, inner}
use Rattle.definition.specs.Out.{Out, refused, done, ◌>>=◌}
use Rattle.definition.specs.Write.{w_name, w_all, w_inners, count_a}
use Rattle.definition.specs.Size.{levels_a}
use Rattle.definition.specs.Macros.{subst}
use Rattle.layout.specs.items.Here.{Here}
use Rattle.buffer.specs.areas.First.{first}
use Rattle.substitute.specs.declared.substitution.Turn.{Turn}
use Rattle.substitute.specs.substitution.Turned.{Areas, Holds, limited_by}

-- rule 4 with a row that has room for k marks of what each turn makes
unfoldable pub instance_by : ℕ → List Name → Inners → Combinator → Out Combinator
instance_by k [] xs c = done c
instance_by k (p ∷ ps) no_inner c = done c
instance_by k (p ∷ ps) (inner a xs) c = do
  d ← limited_by k (subst c p a)
  instance_by k ps xs d

abbrev pub Made : List ℕ → List ℕ → Option Turn → Out Combinator → Type 0
Made a marks r (refused k) = IsNone r
Made a marks r (done d) = IsSomeAnd r (λ t. Holds a marks t.len t.n d)

-- rule 4: "one parameter after the other", of so many pairs that are left
pub record Instanced (macros book areas marks : List ℕ) (t : Turn) (left : ℕ) (areas' marks' : List ℕ) (r : Option Turn) : Type 0 where
  pub says : Areas macros book areas → (ps : List Name) (xs : Inners) (c : Combinator) (z y : List ℕ) → Here macros t.param (w_all w_name ps z) → Here book t.arg (w_inners xs y) → levels_a xs ≤ 64
      → left ≡ min (length ps) (count_a xs) → Holds (first areas) marks t.len t.n c → Made (first areas') marks' r (instance_by (length marks) ps xs c)
