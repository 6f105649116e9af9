-- The elaboration's answer in document 01's numbers, and what it leaves in the output.
use Rattle.std.specs.Prelude.{◌≡◌, List, ℕ, leb, length, Result, Ok, Err}
use Rattle.definition.specs.Code.{output_short}
use Rattle.definition.specs.Out.{Out, refused, done, ◌>>=◌, given}
use Rattle.definition.specs.Tree.{Definition}
use Rattle.definition.specs.Write.{w_book}
use Rattle.definition.specs.Lift.{lift_book_of}
use Rattle.definition.specs.Answer.{Result as Resulting, all, outcome, Answer, filled}
use Rattle.laws.specs.Book.{IsBook}
use Rattle.what_comes_back.specs.declared.Elaborated.{Elaborated}
use Rattle.what_comes_back.specs.declared.Refusal.{Refusal}
use Rattle.what_comes_back.specs.declared.Report.{Report}
use Rattle.what_comes_back.specs.Codes.{code_of, number_of}

-- what comes back: a result's length and counts, or a code and the place of the item at fault
unfoldable pub elaborated_as : ℕ → Out Resulting → Result Elaborated Refusal
elaborated_as p (refused k) = Err (record { code = code_of k; at = p })
elaborated_as p (done q) = Ok (record { length = length (w_book (all q)); definitions = length (all q); lifted = length q.lifted })

-- in numbers: "It answers a code, the result's length, its count of definitions and the count lifted."; "On a refusal the three numbers are 0"
unfoldable pub reported : Result Elaborated Refusal → Answer
reported (Ok e) = record { code = 0; size = e.length; definitions = e.definitions; lifts = e.lifted; at = 0 }
reported (Err f) = record { code = number_of f.code; size = 0; definitions = 0; lifts = 0; at = f.at }

-- a report with these numbers
abbrev pub InNumbers : Result Elaborated Refusal → Report → Type 0
InNumbers e r = (r.code ≡ (reported e).code) × (r.length ≡ (reported e).size) × (r.definitions ≡ (reported e).definitions) × (r.lifted ≡ (reported e).lifts) × (r.at ≡ (reported e).at)

-- the answer, with the place p where it is a refusal, and the bytes of the output before and after
pub record Reports (p : ℕ) (m : Out Resulting) (out out' : List ℕ) (r : Result Elaborated Refusal) : Type 0 where
  pub answers : r ≡ elaborated_as p m
  pub fills : out' ≡ filled m out

-- codes 7 to 11
unfoldable pub lifted : List Definition → ℕ → Out Resulting
lifted ds outLength = outcome (lift_book_of ds) >>= λ r. given (leb (length (w_book (all r))) outLength) output_short r

-- the bytes of an expanded book
pub record Expanded (s : List ℕ) : Type 0 where
  pub of : List Definition
  pub book : s ≡ w_book of
  pub is_book : IsBook of

-- what was read has no item at fault. The result of a book is a book: the laws say so
pub record Lifts (s out out' : List ℕ) (r : Result Elaborated Refusal) : Type 0 where
  pub lifts : (ds : List Definition) → s ≡ w_book ds → IsBook ds → ((q : Resulting) → outcome (lift_book_of ds) ≡ done q → IsBook (all q)) → Reports 0 (lifted ds (length out)) out out' r
