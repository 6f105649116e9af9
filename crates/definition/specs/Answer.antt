-- Document 01, "What comes back": the code, the counts, the final bytes of output and work area.
use Rattle.std.specs.Prelude.{List, ◌++◌, Bool, true, false, ℕ, ◌-◌, leb, length, drop, replicate}
use Rattle.definition.specs.Code.{number, book_long, output_short, work_short}
use Rattle.definition.specs.Res.{Res, bad, ok}
use Rattle.definition.specs.Out.{Out, refused, done, ◌>>=◌, given}
use Rattle.definition.specs.Tree.{Definition}
use Rattle.definition.specs.Contents.{read_book_of}
use Rattle.definition.specs.Write.{w_book}
use Rattle.definition.specs.Macros.{expand_book}
use Rattle.definition.specs.Lift.{State, lift_book_of}

module _ {S A : Type 0} where
  unfoldable pub out : Res S A → Out A
  out (bad k s) = refused k
  out (ok a s) = done a

-- the definitions of a book: codes 2 to 5
unfoldable pub source : List ℕ → Out (List Definition)
unfolding out
source book = do
  b ← given (leb (length book) 16384) book_long book
  out (read_book_of b)

-- the result: the expanded list with its calls, and the definitions appended
pub record Result : Type 0 where
  pub kept : List Definition
  pub lifted : List Definition

unfoldable pub outcome : Res State (List Definition) → Out Result
outcome (bad k s) = refused k
outcome (ok ds s) = done (record { kept = ds; lifted = s.made })

abbrev pub all : Result → List Definition
all r = r.kept ++ r.lifted

-- "Codes stand in this order, but for 7 to 10". The three steps serve every way to expand macros: document 01's, and document 02 b's beside it.
-- Reading, 2 to 5, and then the expansion
abbrev pub expanded_by : (List Definition → Out (List Definition)) → List ℕ → Out (List Definition)
expanded_by expansion book = do
  ds ← source book
  expansion ds

-- of the expanded list the lifts, 7 to 10
abbrev pub lifted_from : Out (List Definition) → Out Result
lifted_from list = do
  ds ← list
  outcome (lift_book_of ds)

-- 1 before all that, and 11 after it
abbrev pub attempt_by : (List ℕ → Out Result) → List ℕ → ℕ → ℕ → Out Result
attempt_by elaboration book outLength workLength = do
  b ← given (leb 65536 workLength) work_short book
  r ← elaboration b
  given (leb (length (w_book (all r))) outLength) output_short r

-- document 01's way: code 6
unfoldable pub expanded : List ℕ → Out (List Definition)
unfolding source
expanded book = expanded_by expand_book book

unfoldable pub elaborated : List ℕ → Out Result
unfolding expanded outcome
elaborated book = lifted_from (expanded book)

unfoldable pub attempt : List ℕ → ℕ → ℕ → Out Result
attempt book outLength workLength = attempt_by elaborated book outLength workLength

-- document 02 a: "Codes 3, 4 and 5 should also give the offset of the item at fault": as many bytes stand before it as the book has more than are
-- left from there on
unfoldable pub place : List ℕ → Res (List ℕ) (List Definition) → ℕ
place book (bad k s) = length book - length s
place book (ok ds s) = 0

abbrev pub where_read : Bool → ℕ → ℕ
where_read true n = n
where_read false n = 0

-- "For all other codes, and on 0, the offset is 0": what code 2 refuses is not read, and what is read without fault has no such item, whatever is
-- refused later
unfoldable pub fault_of : List ℕ → ℕ
unfolding place read_book_of
fault_of book = where_read (leb (length book) 16384) (place book (read_book_of book))

-- nor is what code 1 refuses
unfoldable pub fault_at : List ℕ → ℕ → ℕ
unfolding fault_of
fault_at book workLength = where_read (leb 65536 workLength) (fault_of book)

-- "It answers a code, the result's length, its count of definitions and the count lifted."; "On a refusal the three numbers are 0"; and the offset
pub record Answer : Type 0 where
  pub code : ℕ
  pub size : ℕ
  pub definitions : ℕ
  pub lifts : ℕ
  pub at : ℕ

unfoldable pub answered : ℕ → Out Result → Answer
answered p (refused k) = record { code = number k; size = 0; definitions = 0; lifts = 0; at = p }
answered p (done r) = record { code = 0; size = length (w_book (all r)); definitions = length (all r); lifts = length r.lifted; at = 0 }

-- "On 0 the result fills the output's first bytes and the rest is as before. On a refusal .. the output is as before."
unfoldable pub filled : Out Result → List ℕ → List ℕ
filled (refused k) out = out
filled (done r) out = w_book (all r) ++ drop (length (w_book (all r))) out

-- the call: "a book, an output buffer and a work area"
unfoldable pub answer : List ℕ → ℕ → ℕ → Answer
unfolding number answered fault_at attempt elaborated read_book_of w_book expand_book lift_book_of
answer book outLength workLength = answered (fault_at book workLength) (attempt book outLength workLength)

-- what the output holds afterwards
unfoldable pub output : List ℕ → List ℕ → ℕ → List ℕ
unfolding filled attempt elaborated read_book_of w_book expand_book lift_book_of
output book out workLength = filled (attempt book (length out) workLength) out

-- "The work area, short or not, is all zero afterwards in each case."
unfoldable pub zeroed : List ℕ → List ℕ
zeroed work = replicate (length work) 0
