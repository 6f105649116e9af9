-- Premise test: "yes exactly when after macro expansion every Invocation in a format body, macro arguments aside, names a kind 1 or 2 definition, and every chain there stands on Bytes or Tail" (reading 14, docs/READINGS.md).
use Rattle.std.specs.Prelude.{List, Bool, true, false, ◌&&◌, ℕ, leb}
use Rattle.definition.specs.Code.{number, work_short}
use Rattle.definition.specs.Out.{Out, refused, done, ◌>>=◌, given}
use Rattle.definition.specs.Tree.{Definition}
use Rattle.definition.specs.Names.{eq_name, elem}
use Rattle.definition.specs.Collect.{bytes_or_tail, is_tail}
use Rattle.definition.specs.Bodies.{every_invocation, chains_ok, every_body}
use Rattle.definition.specs.Lift.{names}
use Rattle.definition.specs.Contents.{read_book_of}
use Rattle.definition.specs.Macros.{expand_book}
use Rattle.definition.specs.Answer.{expanded, fault_at}

-- "every Invocation in a format body, macro arguments aside, names a kind 1 or 2 definition"
unfoldable pub calls_known : List Definition → Bool
calls_known ds = every_body (λ c. every_invocation c (λ n. elem n (names ds))) ds

-- "every chain there stands on Bytes or Tail"
unfoldable pub chains_plain : List Definition → Bool
chains_plain ds = every_body chains_ok ds

-- "takes a book and a work area, gives 1 to 6 as above, else yes or no"
unfoldable pub tested : List ℕ → ℕ → Out Bool
tested book workLength = do
  b ← given (leb 65536 workLength) work_short book
  ds ← expanded b
  done (calls_known ds && chains_plain ds)

-- the answer in numbers: the code, 1 for yes, and the offset of the item at fault (document 02 a)
pub record PremiseAnswer : Type 0 where
  pub code : ℕ
  pub holds : ℕ
  pub at : ℕ

unfoldable pub told : ℕ → Out Bool → PremiseAnswer
told p (refused k) = record { code = number k; holds = 0; at = p }
told p (done true) = record { code = 0; holds = 1; at = 0 }
told p (done false) = record { code = 0; holds = 0; at = 0 }

-- "The work area is all zero afterwards": `zeroed` of Answer
unfoldable pub premise : List ℕ → ℕ → PremiseAnswer
unfolding number every_invocation chains_ok every_body calls_known chains_plain expanded read_book_of expand_book eq_name elem bytes_or_tail is_tail names tested told fault_at
premise book workLength = told (fault_at book workLength) (tested book workLength)
