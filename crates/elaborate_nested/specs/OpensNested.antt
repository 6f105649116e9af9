-- Codes 1 to 6 and 12, and the list "after the last pass".
use Rattle.std.specs.Prelude.{List, ℕ, leb, Result}
use Rattle.definition.specs.Code.{work_short}
use Rattle.definition.specs.Out.{Out, ◌>>=◌, given}
use Rattle.definition.specs.Tree.{Definition}
use Rattle.definition.specs.Answer.{fault_at}
use Rattle.nested.specs.Nested.{expanded_nested}
use Rattle.what_comes_back.specs.declared.Refusal.{Refusal}
use Rattle.open_book.specs.opened.Opens.{OpensBy, PlacedBy}

-- 1, then 2 to 6 and 12
unfoldable pub opened_nested : List ℕ → ℕ → Out (List Definition)
opened_nested book workLength = given (leb 65536 workLength) work_short book >>= λ b. expanded_nested b

pub record OpensNested (book : List ℕ) (workLength : ℕ) (out : List ℕ) (r : Result ℕ Refusal) : Type 0 where
  pub by : OpensBy (opened_nested book workLength) out r
  pub placed : PlacedBy (fault_at book workLength) r
