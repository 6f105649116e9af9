-- What the code says of the contents.
use Rattle.std.specs.Prelude.{◌≡◌, List, [], ◌∷◌, cond, ℕ, ◌+◌, ◌*◌, ◌≤◌, eqb, length, drop, Result, Ok, Err}
use Rattle.definition.specs.Code.{not_a_book}
use Rattle.definition.specs.Res.{bad, ok, ◌>>=◌}
use Rattle.definition.specs.Tree.{Entry}
use Rattle.definition.specs.Read.{Reader}
use Rattle.definition.specs.Contents.{entries, contents, count, cut, whole, Body}
use Rattle.read_book.specs.cursor.Ends.{Fails}
use Rattle.read_book.specs.declared.cursor.Fault.{Fault}

-- the bytes of all bodies
unfoldable pub total : List Entry → ℕ
total [] = 0
total (e ∷ es) = e.size + total es

-- "the book ends with the last body", where the first starts at `at`
unfoldable pub filled : List ℕ → ℕ → List Entry → Reader (List Entry)
filled s at es z = cond (eqb (at + total es) (length s)) (ok es z) (bad not_a_book (drop (at + total es) s))

-- so many entries, whose bodies fill the rest of the book
unfoldable pub row_of : ℕ → List ℕ → ℕ → ℕ → Reader (List Entry)
row_of width s n at l = do
  (es, z) ← entries width (length s) n at l
  filled s at es z

-- the contents hold: so many entries, and their bodies end with the book
pub record Holds (s : List ℕ) (width n : ℕ) : Type 0 where
  pub rows : List Entry
  pub bodies : List Body
  pub counted : count s ≡ ok n (drop 2 s)
  pub few : n ≤ 512
  pub reads : entries width (length s) n (2 + width * n) (drop 2 s) ≡ ok rows (drop (2 + width * n) s)
  pub full : 2 + width * n + total rows ≡ length s
  pub cuts : whole (cut rows (drop (2 + width * n) s)) ≡ ok bodies []

-- "the contents are tested whole": the entries and where the bodies lie, before any body
unfoldable pub table : ℕ → Reader (List Body)
table width s = do
  (es, r) ← contents width s
  whole (cut es r)

abbrev pub TabledBy : List ℕ → ℕ → Result ℕ Fault → Type 0
TabledBy s width (Ok n) = Holds s width n
TabledBy s width (Err f) = Fails s 0 f (table width s)

pub record Tabled (s : List ℕ) (width : ℕ) (r : Result ℕ Fault) : Type 0 where
  pub told : TabledBy s width r
