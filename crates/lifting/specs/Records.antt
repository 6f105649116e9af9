-- Records of lifts, by place in the expanded book. Document 01, "Lifting rules".
use Rattle.std.specs.Prelude.{cond, List, [], ◌∷◌, ℕ, eqb}
use Rattle.definition.specs.Res.{Maybe, absent, just}
use Rattle.definition.specs.Tree.{Name, Combinator, plain, Inner, invocation}

-- what types a parameter: "the definition's own parameters, then the Dependent fields passed on the way".
-- A parameter's type and a field's combinator, each with its place
pub data Ref : Type 0 where
  own : Inner → ℕ → Ref
  passed : Combinator → ℕ → Ref

-- a lift: where the combinator moved begins and ends, its name, its parameters, and what types each of them
pub record Record : Type 0 where
  pub at : ℕ
  pub end : ℕ
  pub name : Name
  pub params : List Name
  pub types : List Ref

-- the record of the lift at a place: the last one, so that a table by place takes a new record as it comes. No two stand at one place
unfoldable pub or_else : Maybe Record → Maybe Record → Maybe Record
or_else absent m = m
or_else (just r) m = just r

unfoldable pub find : List Record → ℕ → Maybe Record
unfolding or_else
find [] x = absent
find (r ∷ rs) x = or_else (find rs x) (cond (eqb r.at x) (just r) absent)

-- "replaced by a call without a chain"
unfoldable pub call : Record → Combinator
call r = plain (invocation r.name r.params)
