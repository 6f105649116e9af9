-- What the naming pass hands over: the tables hold the records of the walk over the expanded book.
use Rattle.std.specs.Prelude.{◌≡◌, List, ◌++◌, ℕ, suc, ◌≤◌, ◌<◌, length, get_or}
use Rattle.definition.specs.Res.{Maybe, absent, just, ok}
use Rattle.definition.specs.Out.{done}
use Rattle.definition.specs.Lift.{lift_book_of}
use Rattle.definition.specs.Answer.{Result, all, outcome}
use Rattle.definition.specs.Tree.{Definition}
use Rattle.definition.specs.Write.{w_book}
use Rattle.laws.specs.Book.{IsBook}
use Rattle.lifting.specs.Records.{Record, find}
use Rattle.lifting.specs.Trace.{Trace, tree_head, trace_book}
use Rattle.lift_tables.specs.tables.Rows.{row_of}
use Rattle.write_result.specs.splice.Model.{Tables, row}
use Rattle.write_result.specs.result.Adds.{Filled}

-- k is one more than the number of a row that is this record's
pub record Numbers (t : Tables) (r : Record) (k : ℕ) : Type 0 where
  pub of : ℕ
  pub is : k ≡ suc of
  pub holds : row t of ≡ row_of r

-- 0 where no record stands
abbrev pub Agrees : Tables → Maybe Record → ℕ → Type 0
Agrees t absent k = k ≡ 0
Agrees t (just r) k = Numbers t r k

-- the expanded book, whatever follows it, and the tables: the number at each place is that of the record found there, and the n numbers of
-- `order` are those of the lifts in the order in which they were finished
pub record Held (t : Tables) (order : List ℕ) (n : ℕ) (ds : List Definition) (z : List ℕ) (w : Trace) : Type 0 where
  pub book : t.book ≡ w_book ds ++ z
  pub short : length t.book ≤ 65535
  pub numbered : (p : ℕ) → p < length t.book → Agrees t (find w.records p) (get_or t.number p 0)
  pub count : n ≡ length w.finished
  pub ordered : (i : ℕ) → i < n → suc (get_or order i 0) ≡ get_or t.number (get_or w.finished i 0) 0

-- d' is d with document 01's result in its first bytes, and k is the result's length: for every list of definitions whose book and records
-- the tables hold, where the result is that of codes 7 to 10, a book (the laws say so), and d holds it
abbrev pub Writes : Tables → List ℕ → ℕ → List ℕ → List ℕ → ℕ → Type 0
Writes t order n d d' k = (ds : List Definition) (z : List ℕ) (w : Trace) (r : Result) → trace_book tree_head ds ≡ ok tt w → outcome (lift_book_of ds) ≡ done r → IsBook (all r) → Held t order n ds z w → Filled d (w_book (all r)) d' k
