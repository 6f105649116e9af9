-- Small books that show what each premise of demand 3 is needed for (docs/READINGS.md, 15 and 1).
use Rattle.std.specs.Prelude.{◌≡◌, List, [], ◌∷◌, map, ℕ, ◌≤◌}
use Prim.Native.String.{String}
use Rattle.definition.specs.Out.{Out, done}
use Rattle.definition.specs.Tree.{struct, no_field, Combinator, plain, chained, Definition}
use Rattle.definition.specs.Write.{w_book}
use Rattle.definition.specs.Names.{eq_name}
use Rattle.definition.specs.Lift.{lift_book_of}
use Rattle.definition.specs.Answer.{Result, elaborated}
use Rattle.definition.specs.Premise.{PremiseAnswer, premise}
use Rattle.definition.specs.Notation.{Int, Enum, Nothing, Bytes, Vec, Call, ord, dep, one, param, fmt}
use Rattle.demand3.specs.Words.{EachBody}
use Rattle.demand3.specs.PutBack.{whole_of, put_at, put, put_all, times, rounds_all, NoneLeft, PutsAllBack}
use Rattle.demand3.specs.Demand3.{CallsKnown, ChainsPlain, AllShortest}

-- a list as it stands after expansion, what it becomes, and what so many rounds of putting back give
pub record Row : Type 0 where
  pub list : List Definition
  pub kept : List Definition
  pub lifted : List Definition
  pub rounds : ℕ
  pub after : List Definition

abbrev call : String → Combinator
call n = plain (Call n [])

-- "putting back may never end": the format "" is a Vec of a struct that calls `_item`, which nothing is named. That becomes the struct's own name: the call in it is of itself.
-- After one round the list stands there, by accident and with a lifted call in it; the next round goes on
abbrev pub endless : Row
endless = record {
  list = fmt "" [] (plain (Vec (one "x" (call "_item")))) ∷ [];
  kept = fmt "" [] (plain (Vec (call "_item"))) ∷ [];
  lifted = fmt "_item" [] (one "x" (call "_item")) ∷ [];
  rounds = 2;
  after = fmt "" [] (plain (Vec (one "x" (one "x" (call "_item"))))) ∷ [];
}

-- "a call of an undefined name may meet a lifted name": the format's own call of `m_a` is taken for the lifted one, and an Enum is put there
abbrev pub mistaken : Row
mistaken = record {
  list = fmt "m" [] (plain (struct (ord "a" (plain Enum) (ord "b" (call "m_a") no_field)))) ∷ [];
  kept = fmt "m" [] (plain (struct (ord "a" (call "m_a") (ord "b" (call "m_a") no_field)))) ∷ [];
  lifted = fmt "m_a" [] (plain Enum) ∷ [];
  rounds = 1;
  after = fmt "m" [] (plain (struct (ord "a" (plain Enum) (ord "b" (plain Enum) no_field)))) ∷ [];
}

-- "a call with a chain has no put-back": it is left
abbrev pub unmoved : Row
unmoved = record {
  list = fmt "m" [] (plain (struct (ord "a" (plain Enum) (ord "b" (chained (Call "m_a" []) (plain Nothing)) no_field)))) ∷ [];
  kept = fmt "m" [] (plain (struct (ord "a" (call "m_a") (ord "b" (chained (Call "m_a" []) (plain Nothing)) no_field)))) ∷ [];
  lifted = fmt "m_a" [] (plain Enum) ∷ [];
  rounds = 9;
  after = fmt "m" [] (plain (struct (ord "a" (plain Enum) (ord "b" (chained (Call "m_a" []) (plain Nothing)) no_field)))) ∷ [];
}

-- "is accepted, though `m_s` has no n": the chain stands on an Enum and is not collected, so that its use of n has neither binder nor parameter in `m_s`
abbrev pub loose : Row
loose = record {
  list = fmt "m" [] (plain (struct (dep "n" (plain (Int "i")) (ord "s" (chained Enum (one "b" (plain (Bytes ("n" ∷ []))))) no_field)))) ∷ [];
  kept = fmt "m" [] (plain (struct (dep "n" (plain (Int "i")) (ord "s" (call "m_s") no_field)))) ∷ [];
  lifted = fmt "m_s_0" (param "n" (Int "i") ∷ []) (one "b" (plain (Bytes ("n" ∷ []))))
      ∷ fmt "m_s" [] (chained Enum (plain (Call "m_s_0" ("n" ∷ [])))) ∷ [];
  rounds = 2;
  after = fmt "m" [] (plain (struct (dep "n" (plain (Int "i")) (ord "s" (chained Enum (one "b" (plain (Bytes ("n" ∷ []))))) no_field)))) ∷ [];
}

pub record Seen : Type 0 where
  pub result : Out Result
  pub told : PremiseAnswer
  pub back : List Definition

unfoldable pub seen : Row → Seen
unfolding w_book elaborated lift_book_of premise eq_name whole_of put_at put put_all times
seen r = record { result = elaborated (w_book r.list); told = premise (w_book r.list) 65536; back = rounds_all r.rounds r.kept r.lifted }

-- each of them is accepted, and for each the premise test says no
unfoldable pub expected : Row → Seen
expected r = record { result = done (record { kept = r.kept; lifted = r.lifted }); told = record { code = 0; holds = 0; at = 0 }; back = r.after }

unfoldable pub table : List Row
table = endless ∷ mistaken ∷ unmoved ∷ loose ∷ []

abbrev pub Computed : Type 0
Computed = map seen table ≡ map expected table

-- without the premise on called names, with that on chains
pub record WithoutCalls : Type 0 where
  -- putting back need not end
  pub plain_endless : ChainsPlain endless.list
  pub never_ends : (k : ℕ) → EachBody (NoneLeft endless.lifted) (rounds_all k endless.kept endless.lifted) → ⊥
  -- it may end with another list
  pub plain_mistaken : ChainsPlain mistaken.list
  pub ends_elsewhere : PutsAllBack mistaken.lifted mistaken.kept mistaken.after
  pub another : mistaken.after ≡ mistaken.list → ⊥

-- with neither: a call of a lifted name that has a chain stays, and it is one that is left
pub record Unmoving : Type 0 where
  pub stays : (k : ℕ) → 1 ≤ k → rounds_all k unmoved.kept unmoved.lifted ≡ unmoved.after
  pub left : EachBody (NoneLeft unmoved.lifted) unmoved.after → ⊥

-- without the premise on chains, with that on called names: putting back gives the list, and a parameter list is not the shortest possible
pub record WithoutChains : Type 0 where
  pub known_loose : CallsKnown loose.list
  pub ends_there : PutsAllBack loose.lifted loose.kept loose.list
  pub not_shortest : AllShortest loose.lifted → ⊥
