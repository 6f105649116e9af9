-- The first steps that all entry points share: codes 1 to 5.
use Rattle.std.specs.Prelude.{◌≡◌, List, ℕ, ◌≤◌, leb, length, take, Result, Ok, Err}
use Rattle.definition.specs.Code.{Code, work_short}
use Rattle.definition.specs.Out.{Out, refused, done, ◌>>=◌, given}
use Rattle.definition.specs.Tree.{Definition}
use Rattle.definition.specs.Write.{w_book}
use Rattle.definition.specs.Macros.{expand_book}
use Rattle.definition.specs.Answer.{expanded, fault_at}
use Rattle.laws.specs.Book.{IsBook}
use Rattle.what_comes_back.specs.declared.Code.{Code as CodeOf}
use Rattle.what_comes_back.specs.declared.Refusal.{Refusal}
use Rattle.what_comes_back.specs.Codes.{code_of}
use Rattle.open_book.specs.declared.begin.Begun.{Begun}
use Rattle.open_book.specs.declared.begin.Begun.TheVariants as begun

-- "Codes stand in this order": 1, then 2 to 6
unfoldable pub opened : List ℕ → ℕ → Out (List Definition)
opened book workLength = given (leb 65536 workLength) work_short book >>= λ b. expanded b

-- whichever way the list m is made: a code
pub record Refuses (m : Out (List Definition)) (code : CodeOf) : Type 0 where
  pub reason : Code
  pub is : m ≡ refused reason
  pub coded : code ≡ code_of reason

-- its book stands in the first bytes of the output
pub record Expands (m : Out (List Definition)) (out : List ℕ) (len : ℕ) : Type 0 where
  pub left : List Definition
  pub is : m ≡ done left
  pub is_book : IsBook left
  pub holds : take len out ≡ w_book left
  pub fits : len ≤ 16384

-- codes 1 to 5 are passed: the definitions that were read, with their expansion left
pub record Sound (book : List ℕ) (workLength : ℕ) : Type 0 where
  pub source : List Definition
  pub is : opened book workLength ≡ expand_book source
  pub is_book : IsBook source
  pub written : book ≡ w_book source
  pub wide : 65536 ≤ workLength
  pub faultless : fault_at book workLength ≡ 0

-- a book without macros is its own expansion
abbrev pub Begins : List ℕ → ℕ → Result Begun Refusal → Type 0
Begins book workLength (Ok begun.Plain) = Sound book workLength × Expands (opened book workLength) book (length book)
Begins book workLength (Ok begun.Macros) = Sound book workLength
Begins book workLength (Err f) = Refuses (opened book workLength) f.code × (f.at ≡ fault_at book workLength)
