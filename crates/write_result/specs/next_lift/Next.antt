-- The next place at which a lift begins, by the table that has a number for each place, and how it is looked for.
use Rattle.std.specs.Prelude.{cond, List, ℕ, zero, suc, ◌+◌, ◌-◌, ◌/◌, min, eqb, length, take, drop, get_or}
use Rattle.buffer.specs.zeroing.Zeros.{some_in_of}

-- the first of n places from `at` on whose entry is not 0, or the place behind them
unfoldable pub next_of : List ℕ → ℕ → ℕ → ℕ
next_of number zero at = at
next_of number (suc n) at = cond (eqb (get_or number at 0) 0) (next_of number n (suc at)) at

-- the first place from `from` on and below `to` whose entry is not 0, or the end of this range
unfoldable pub next_lift_of : List ℕ → ℕ → ℕ → ℕ
next_lift_of number from to = next_of number (to - from) from

-- the first of n blocks of 64 entries from `at` on that has one that is not 0, or the place behind them
unfoldable pub block_of : List ℕ → ℕ → ℕ → ℕ
block_of number zero at = at
block_of number (suc n) at = cond (some_in_of (take 64 (drop at number))) at (block_of number n (at + 64))

-- over all empty blocks that fit into the table between two places
unfoldable pub past_empty_of : List ℕ → ℕ → ℕ → ℕ
past_empty_of number from to = block_of number ((min to (length number) - from) / 64) from
