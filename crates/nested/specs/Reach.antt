-- Document 02 b: "no known macro call stands where the pass reaches", spelled out from the two documents and not taken from the test that ends the passes.
use Rattle.std.specs.Prelude.{◌≡◌, ◌⊎◌, List, [], ◌∷◌}
use Rattle.definition.specs.Tree.{Name, Combinator, plain, chained, Inner, leaf, struct, choice, shell, bytes, invocation, macro_invocation, Fields, no_field, field, const, Cases, no_case, case, Definition, format, constant, byte_order, macro}
use Rattle.definition.specs.Macros.{Macro}

-- a macro call of this name stands where the pass reaches: "Format bodies are walked: chain, fields, choices, Wrap, Vec, Array, Option. Parameter types and macro arguments are not."
abbrev mutual
  pub Stands : Combinator → Name → Type 0
  Stands (plain i) n = StandsI i n
  Stands (chained i c) n = StandsI i n ⊎ Stands c n

  pub StandsI : Inner → Name → Type 0
  StandsI (leaf k x) n = ⊥
  StandsI (struct f) n = StandsF f n
  StandsI (choice s k f) n = StandsC f n
  StandsI (shell x c) n = Stands c n
  StandsI (bytes l) n = ⊥
  StandsI (invocation m a) n = ⊥
  StandsI (macro_invocation m a) n = n ≡ m

  pub StandsF : Fields → Name → Type 0
  StandsF no_field n = ⊥
  StandsF (field k l c f) n = Stands c n ⊎ StandsF f n
  StandsF (const l x f) n = StandsF f n

  pub StandsC : Cases → Name → Type 0
  StandsC no_case n = ⊥
  StandsC (case l c f) n = Stands c n ⊎ StandsC f n

abbrev pub StandsIn : List Definition → Name → Type 0
StandsIn [] n = ⊥
StandsIn (format m ps c ∷ ds) n = Stands c n ⊎ StandsIn ds n
StandsIn (constant m x ∷ ds) n = StandsIn ds n
StandsIn (byte_order x ∷ ds) n = StandsIn ds n
StandsIn (macro m ps c ∷ ds) n = StandsIn ds n

-- "known": one of the macros has this name
abbrev pub IsKnown : List Macro → Name → Type 0
IsKnown [] n = ⊥
IsKnown (m ∷ ms) n = (n ≡ m.name) ⊎ IsKnown ms n

-- a known macro call that stands there
pub record KnownCall (ms : List Macro) (ds : List Definition) : Type 0 where
  pub name : Name
  pub known : IsKnown ms name
  pub stands : StandsIn ds name
