-- Demand 3: "no struct, choice, enum or bits stands below the root of a definition's body, macro arguments aside".
use Rattle.std.specs.Prelude.{List, [], ◌∷◌}
use Rattle.definition.specs.Tree.{Leaf, constraint_int, constraint_enum, bits, enum, tail, nothing, never, Combinator, plain, chained, Inner, leaf, struct, choice, shell, bytes, invocation, macro_invocation, Fields, no_field, field, const, Cases, no_case, case, Definition, format, constant, byte_order, macro}

-- enum and bits, by name
abbrev pub CalmLeaf : Leaf → Type 0
CalmLeaf constraint_int = Unit {0}
CalmLeaf constraint_enum = Unit {0}
CalmLeaf bits = ⊥
CalmLeaf enum = ⊥
CalmLeaf tail = Unit {0}
CalmLeaf nothing = Unit {0}
CalmLeaf never = Unit {0}

-- a combinator in which none of these stands, at its root or below
abbrev mutual
  pub Calm : Combinator → Type 0
  Calm (plain i) = CalmI i
  Calm (chained i c) = CalmI i × Calm c

  pub CalmI : Inner → Type 0
  CalmI (leaf k x) = CalmLeaf k
  CalmI (struct f) = ⊥
  CalmI (choice s k f) = ⊥
  CalmI (shell x c) = Calm c
  CalmI (bytes l) = Unit {0}
  CalmI (invocation n a) = Unit {0}
  CalmI (macro_invocation n a) = Unit {0}

abbrev pub CalmF : Fields → Type 0
CalmF no_field = Unit {0}
CalmF (field k l c f) = Calm c × CalmF f
CalmF (const l x f) = CalmF f

abbrev pub CalmC : Cases → Type 0
CalmC no_case = Unit {0}
CalmC (case l c f) = Calm c × CalmC f

-- one of them may be the root
abbrev pub FlatI : Inner → Type 0
FlatI (leaf k x) = Unit {0}
FlatI (struct f) = CalmF f
FlatI (choice s k f) = CalmC f
FlatI (shell x c) = Calm c
FlatI (bytes l) = Unit {0}
FlatI (invocation n a) = Unit {0}
FlatI (macro_invocation n a) = Unit {0}

abbrev pub Flat : Combinator → Type 0
Flat (plain i) = FlatI i
Flat (chained i c) = FlatI i × Calm c

-- "a definition's body"; a kind 4 definition is none of an accepted result's
abbrev pub FlatAll : List Definition → Type 0
FlatAll [] = Unit {0}
FlatAll (format n ps c ∷ ds) = Flat c × FlatAll ds
FlatAll (constant n x ∷ ds) = FlatAll ds
FlatAll (byte_order x ∷ ds) = FlatAll ds
FlatAll (macro n ps c ∷ ds) = ⊥
