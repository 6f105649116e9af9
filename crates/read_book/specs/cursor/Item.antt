-- An item of the book that the code reads, where crate `definition` has it with a table handed in.
use Rattle.std.specs.Prelude.{◌&&◌, cond, ℕ, leb}
use Rattle.definition.specs.Res.{Maybe, absent, just, ◌>>=◌}
use Rattle.definition.specs.Read.{Reader, byte, known}

-- the numbers from low to high, as a table
abbrev pub between : ℕ → ℕ → ℕ → Maybe ℕ
between low high b = cond (leb low b && leb b high) (just b) absent

-- a byte from low to high; "not a book" where it is another
unfoldable pub among : ℕ → ℕ → Reader ℕ
among low high s = do
  (b, r) ← byte s
  known (between low high b) s r
