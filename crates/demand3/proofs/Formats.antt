-- Laws of lists of formats, as the lifted definitions are.
use mathlib.Core.Path.{◌≡◌, refl}
use mathlib.Core.Logic.{◌⊎◌, inl, inr}
use mathlib.Core.List.{List, [], ◌∷◌, ◌++◌}
use Rattle.definition.specs.Tree.{Name, Combinator, Param, Definition, format, constant, byte_order, macro}
use Rattle.demand3.specs.Words.{EachFormat}

-- one of these has this name and these parameters
abbrev pub Has : Name → List Param → List Definition → Type 0
Has n ps [] = ⊥
Has n ps (format m qs c ∷ ds) = ((n ≡ m) × (ps ≡ qs)) ⊎ Has n ps ds
Has n ps (constant m x ∷ ds) = Has n ps ds
Has n ps (byte_order x ∷ ds) = Has n ps ds
Has n ps (macro m qs c ∷ ds) = Has n ps ds

module _ (P : Name → List Param → Combinator → Type 0) where
  pub each_snoc : (ds : List Definition) (n : Name) (ps : List Param) (c : Combinator) → EachFormat P ds → P n ps c → EachFormat P (ds ++ (format n ps c ∷ []))
  each_snoc [] n ps c h p = (p, tt)
  each_snoc (format m qs d ∷ ds) n ps c h p = (h.0, each_snoc ds n ps c h.1 p)
  each_snoc (constant m x ∷ ds) n ps c h p = absurd h
  each_snoc (byte_order x ∷ ds) n ps c h p = absurd h
  each_snoc (macro m qs d ∷ ds) n ps c h p = absurd h

  -- what follows from it for those that are there holds of each
  module _ (Q : Name → List Param → Combinator → Type 0) where
    pub fewer_formats : (ds : List Definition) → EachFormat P ds → ((n : Name) (ps : List Param) (c : Combinator) → Has n ps ds → P n ps c → Q n ps c) → EachFormat Q ds
    fewer_formats [] p h = tt
    fewer_formats (format n ps c ∷ ds) p h = (h n ps c (inl (refl, refl)) p.0, fewer_formats ds p.1 (λ m qs d w q. h m qs d (inr w) q))
    fewer_formats (constant n x ∷ ds) p h = absurd p
    fewer_formats (byte_order x ∷ ds) p h = absurd p
    fewer_formats (macro n ps c ∷ ds) p h = absurd p
