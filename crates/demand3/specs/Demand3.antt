-- Demand 3, for the expanded list `ds`, and what the result keeps of it and what is lifted.
use Rattle.std.specs.Prelude.{List, [], ◌∷◌, ◌++◌}
use Rattle.definition.specs.Tree.{Name, Definition, format, constant, byte_order, macro}
use Rattle.laws.specs.Lists.{param_names}
use Rattle.demand3.specs.Words.{Named, EachBody, EachFormat, EachCall, PlainChains}
use Rattle.demand3.specs.Flat.{FlatAll}
use Rattle.demand3.specs.PutBack.{PutsBack, PutsAllBack, put_back}
use Rattle.demand3.specs.Called.{calls_of, Once, Handed}
use Rattle.demand3.specs.Shortest.{Shortest}

-- "every name called in those bodies is a format or constant of the list"
abbrev pub CallsKnown : List Definition → Type 0
CallsKnown ds = EachBody (λ c. EachCall c (λ n. Named n ds)) ds

-- "chained formats stand only on bytes and tail"
abbrev pub ChainsPlain : List Definition → Type 0
ChainsPlain ds = EachBody PlainChains ds

-- no two of these have one name
abbrev pub Apart : List Definition → Type 0
Apart [] = Unit {0}
Apart (format n ps c ∷ ds) = (Named n ds → ⊥) × Apart ds
Apart (constant n x ∷ ds) = (Named n ds → ⊥) × Apart ds
Apart (byte_order x ∷ ds) = Apart ds
Apart (macro n ps c ∷ ds) = Apart ds

-- each lifted name is called once in the bodies of the result
abbrev pub AllCalled : List Definition → List Definition → Type 0
AllCalled kept lifted = EachFormat (λ n ps c. Once (calls_of n (kept ++ lifted))) lifted

-- and is handed its parameters' names in their order
abbrev pub AllHanded : List Definition → List Definition → Type 0
AllHanded kept lifted = EachFormat (λ n ps c. Handed (param_names ps) (calls_of n (kept ++ lifted))) lifted

-- putting back ends in each lifted body
abbrev pub AllPutBack : List Definition → Type 0
AllPutBack lifted = EachFormat (λ n ps c. PutsBack lifted c (put_back lifted c)) lifted

-- each lifted parameter list is the shortest for its put-back body
abbrev pub AllShortest : List Definition → Type 0
AllShortest lifted = EachFormat (λ n ps c. Shortest (param_names ps) (put_back lifted c)) lifted

pub record Demand3 (ds kept lifted : List Definition) : Type 0 where
  -- "no struct, choice, enum or bits stands below the root of a definition's body, macro arguments aside", and no kind 4 definition is left in which one could hide
  pub flat : FlatAll (kept ++ lifted)
  -- "if two nested layouts come out under one name": they do not, and none comes out under the name of a format or constant
  pub apart : Apart lifted
  pub fresh : (n : Name) → Named n ds → Named n lifted → ⊥
  -- "If after macro expansion every name called in those bodies is a format or constant of the list, putting each lifted body back at its call, and dropping the lifted definitions, gives exactly that expanded list."
  pub restored : CallsKnown ds → PutsAllBack lifted kept ds
  -- "each lifted body back at its call": it has one, with its parameters for arguments. A parameter's type no sentence of demand 3 names: demand 2 alone fixes it
  pub called : CallsKnown ds → AllCalled kept lifted
  pub handed : CallsKnown ds → AllHanded kept lifted
  -- "its put-back body": the lifted bodies have one too
  pub put_back_of : CallsKnown ds → AllPutBack lifted
  -- "If, besides, chained formats stand only on bytes and tail, each lifted parameter list is the shortest possible"
  pub shortest : CallsKnown ds → ChainsPlain ds → AllShortest lifted
