-- Demand 3 about the bytes: "In every accepted result ..", for every book that is handed in.
use Rattle.std.specs.Prelude.{◌≡◌, ◌↔◌, List, [], ℕ, ◌-◌, ◌≤◌, length, take, drop}
use Rattle.definition.specs.Res.{ok}
use Rattle.definition.specs.Out.{Out, done}
use Rattle.definition.specs.Tree.{Definition}
use Rattle.definition.specs.Contents.{read_book_of}
use Rattle.definition.specs.Answer.{expanded, Answer, answer, output}
use Rattle.definition.specs.Premise.{premise}
use Rattle.laws.specs.Book.{Bytes}
use Rattle.demand3.specs.Demand3.{CallsKnown, ChainsPlain, Demand3}

-- what the answer counts of the output reads as a book. Its last definitions, as many as the answer says, are the lifted ones; with these it meets demand 3 for the book's expanded list.
-- Whichever way it was expanded: document 02 b has a second one
pub record DeliveredFrom (expansion : Out (List Definition)) (a : Answer) (after : List ℕ) : Type 0 where
  -- "after macro expansion"
  pub list : List Definition
  pub expands : expansion ≡ done list
  -- "the result fills the output's first bytes"
  pub result : List Definition
  pub reads : read_book_of (take a.size after) ≡ ok result []
  pub counted : length result ≡ a.definitions
  pub lifts : a.lifts ≤ a.definitions
  pub meets : Demand3 list (take (a.definitions - a.lifts) result) (drop (a.definitions - a.lifts) result)

abbrev pub Delivered : List ℕ → Answer → List ℕ → Type 0
Delivered book a after = DeliveredFrom (expanded book) a after

-- for an answer and an output that are the definition's, as the contract of `elaborate` says of its own
abbrev pub AcceptedIsDelivered : Type 0
AcceptedIsDelivered = (book out : List ℕ) (workLength : ℕ) → Bytes book → (a : Answer) (after : List ℕ) → a ≡ answer book (length out) workLength → after ≡ output book out workLength → a.code ≡ 0 → Delivered book a after

-- the premises of demand 3 together
pub record Premises (book : List ℕ) : Type 0 where
  pub list : List Definition
  pub expands : expanded book ≡ done list
  pub calls : CallsKnown list
  pub chains : ChainsPlain list

-- the premise test answers 0 and yes exactly where they hold, and the work area is long enough to be asked
abbrev pub YesIsPremises : Type 0
YesIsPremises = (book : List ℕ) (workLength : ℕ) → (((premise book workLength).code ≡ 0) × ((premise book workLength).holds ≡ 1)) ↔ ((65536 ≤ workLength) × Premises book)
