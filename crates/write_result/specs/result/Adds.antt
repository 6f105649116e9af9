-- What a buffer holds after definitions were added to the book in it.
use Rattle.std.specs.Prelude.{List, ◌++◌, ◌≡◌, ℕ, ◌+◌, ◌*◌, ◌≤◌, length, drop}
use Rattle.buffer.specs.writes.Buf.{put}
use Rattle.write_result.specs.result.Model.{Piece, entries, bodies}

-- definitions were added, the first of them the i-th, its body at o: where the buffer holds them all, it holds their entries and their bodies,
-- and the next body begins at o'
pub record Adds (d : List ℕ) (i o : ℕ) (ps : List Piece) (d' : List ℕ) (o' : ℕ) : Type 0 where
  pub long : length d' ≡ length d
  pub holds : 2 + 6 * (i + length ps) ≤ o → o + length (bodies ps) ≤ length d → d' ≡ put (put d (2 + 6 * i) (entries o ps)) o (bodies ps)
  pub place : 2 + 6 * (i + length ps) ≤ o → o + length (bodies ps) ≤ length d → o' ≡ o + length (bodies ps)

-- the book r was written into a buffer that holds it: "the result fills the output's first bytes and the rest is as before"
pub record Filled (d r d' : List ℕ) (n : ℕ) : Type 0 where
  pub holds : length r ≤ length d → d' ≡ r ++ drop (length r) d
  pub size : length r ≤ length d → n ≡ length r
