-- Demand 3: "each lifted parameter list is the shortest possible: every use in its put-back body has a binder, and without any one of the parameters some use has none".
use Rattle.std.specs.Prelude.{◌≡◌}
use mathlib.Core.List.{List, [], ◌∷◌, ◌++◌, Memᴰ}
use Rattle.definition.specs.Tree.{Name, Combinator}
use Rattle.demand3.specs.Words.{Unbound}

-- a use that has no binder among these names and none in the combinator
pub record Loose (c : Combinator) (ns : List Name) : Type 0 where
  pub name : Name
  pub stands : Unbound c name
  pub none : Memᴰ name ns → ⊥

-- no parameter is named twice
abbrev pub NoneTwice : List Name → Type 0
NoneTwice [] = Unit {0}
NoneTwice (n ∷ ns) = (Memᴰ n ns → ⊥) × NoneTwice ns

pub record Shortest (ns : List Name) (c : Combinator) : Type 0 where
  pub once : NoneTwice ns
  -- "every use in its put-back body has a binder": there, or a parameter
  pub enough : (u : Name) → Unbound c u → Memᴰ u ns
  -- "without any one of the parameters some use has none"
  pub needed : (before : List Name) (p : Name) (after : List Name) → ns ≡ before ++ (p ∷ after) → Loose c (before ++ after)
