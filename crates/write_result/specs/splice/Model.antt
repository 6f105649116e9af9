-- The bytes of a range of the expanded book with calls in the place of lifts, from the tables of the naming pass: total on any bytes and any
-- numbers.
use Rattle.std.specs.Prelude.{List, [], ◌++◌, ℕ, zero, suc, ◌-◌, min, get_or}
use Rattle.buffer.specs.writes.Buf.{part}
use Rattle.lift_tables.specs.tables.Rows.{Row, row_at}
use Rattle.write_result.specs.invocation.Invocation.{call_bytes}

-- the expanded book and the tables
pub record Tables : Type 0 where
  pub book : List ℕ
  pub names : List ℕ
  pub rows : List ℕ
  pub params : List ℕ
  pub number : List ℕ

abbrev pub tables : List ℕ → List ℕ → List ℕ → List ℕ → List ℕ → Tables
tables s names rows params number = record { book = s; names = names; rows = rows; params = params; number = number }

abbrev pub row : Tables → ℕ → Row
row t i = row_at t.book t.names t.rows t.params i

-- the byte at a place, or the call of the lift that begins there; `on` goes on after leaving out so many places
unfoldable pub placed : Tables → ℕ → ℕ → (ℕ → List ℕ) → List ℕ
placed t zero at on = part at (suc at) t.book ++ on 0
placed t (suc i) at on = call_bytes (row t i) ++ on ((row t i).end - suc at)

-- n places from `at` on, the first of them left out
unfoldable pub goes : Tables → ℕ → ℕ → ℕ → List ℕ
goes t zero at left = []
goes t (suc n) at (suc left) = goes t n (suc at) left
goes t (suc n) at zero = placed t (get_or t.number at 0) at (λ left. goes t n (suc at) left)

unfoldable pub on_from : Tables → ℕ → ℕ → List ℕ
on_from t from to = goes t (to - from) from 0

-- a range with the range of each lift that begins in it replaced by its call. The first place is not looked up: a lifted body begins at its own
unfoldable pub spliced : Tables → ℕ → ℕ → List ℕ
spliced t from to = part from (min (suc from) to) t.book ++ on_from t (suc from) to
