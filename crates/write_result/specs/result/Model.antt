-- What the writing pass writes, from the expanded book and the tables of the naming pass: total on any bytes and any numbers.
-- That it is document 01's result where the tables are those of the book is shown in proofs/Result.antt.
use Rattle.std.specs.Prelude.{List, [], ◌∷◌, ◌++◌, ℕ, zero, suc, ◌+◌, ◌-◌, ◌*◌, ◌%◌, length, get_or}
use Rattle.definition.specs.Write.{w_u16}
use Rattle.buffer.specs.writer.Entry.{entry_bytes}
use Rattle.layout.specs.items.At.{byte_at, number_at}
use Rattle.write_result.specs.splice.Model.{row, spliced}
use Rattle.write_result.specs.lifted.Model.{lifted_bytes}
pub use Rattle.write_result.specs.splice.Model.{Tables, tables}

-- the body of kept definition i: entry i says where it stands. No lift begins in a format's head, nor in another body
unfoldable pub kept_bytes : Tables → ℕ → List ℕ
kept_bytes t i = spliced t (number_at t.book (2 + 6 * i + 2)) (number_at t.book (2 + 6 * i + 2) + number_at t.book (2 + 6 * i + 4))

-- a definition as a book holds it
pub record Piece : Type 0 where
  pub kind : ℕ
  pub bytes : List ℕ

unfoldable pub entries : ℕ → List Piece → List ℕ
entries at [] = []
entries at (p ∷ ps) = entry_bytes p.kind at (length p.bytes) ++ entries (at + length p.bytes) ps

unfoldable pub bodies : List Piece → List ℕ
bodies [] = []
bodies (p ∷ ps) = p.bytes ++ bodies ps

-- n kept definitions from number i on
unfoldable pub kept_from : Tables → ℕ → ℕ → List Piece
kept_from t i zero = []
kept_from t i (suc n) = record { kind = byte_at t.book (2 + 6 * i); bytes = kept_bytes t i } ∷ kept_from t (suc i) n

-- n lifted ones, from the i-th in the order of their definitions on
unfoldable pub lifted_from : Tables → List ℕ → ℕ → ℕ → List Piece
lifted_from t order i zero = []
lifted_from t order i (suc n) = record { kind = 1; bytes = lifted_bytes t (row t (get_or order i 0)) } ∷ lifted_from t order (suc i) n

-- all definitions of the result from number i on: those of the `kept` ones that are left, then those of the lifts
unfoldable pub definitions_from : Tables → List ℕ → ℕ → ℕ → ℕ → List Piece
definitions_from t order kept all i = kept_from t i (kept - i) ++ lifted_from t order (i - kept) (all - kept - (i - kept))

-- "Contents first .. Then the bodies in the same order, with no gap"
unfoldable pub book_bytes : ℕ → List Piece → List ℕ
book_bytes n ps = w_u16 (n % 65536) [] ++ (entries (2 + 6 * n) ps ++ bodies ps)

unfoldable pub result_bytes : Tables → List ℕ → ℕ → List ℕ
result_bytes t order n = book_bytes (number_at t.book 0 + n) (kept_from t 0 (number_at t.book 0) ++ lifted_from t order 0 n)
