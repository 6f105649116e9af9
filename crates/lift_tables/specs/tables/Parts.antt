-- The naming pass's sheet, in bytes that the caller lends: `order`, `rows` and `params` (Rows.antt), two bytes for each number, and behind them the
-- generated names. Each table that a call hands down to be written costs the checker seconds, with the cube of their count.
use Rattle.std.specs.Prelude.{◌≡◌, List, [], ◌∷◌, ℕ, ◌+◌, ◌*◌, take, drop, set}

-- the numbers that stand in bytes, two for each, the lower first
unfoldable pub pairs : List ℕ → List ℕ
pairs [] = []
pairs (x ∷ []) = []
pairs (x ∷ y ∷ t) = (x + y * 256) ∷ pairs t

-- a number for each of 512 lifts
unfoldable pub order_in : List ℕ → List ℕ
order_in t = pairs (take 1024 t)

-- five for each
unfoldable pub rows_in_of : List ℕ → List ℕ
rows_in_of t = pairs (take 5120 (drop 1024 t))

-- four for each parameter: code 10 lets there be 3,276, a fifth of 16,384
unfoldable pub params_in : List ℕ → List ℕ
params_in t = pairs (take 26216 (drop 6144 t))

-- the names, each behind a byte with its length
unfoldable pub made_in : List ℕ → List ℕ
made_in t = drop 32360 t

-- what stands in each part
pub record Parts (t o r p m : List ℕ) : Type 0 where
  pub order : order_in t ≡ o
  pub rows : rows_in_of t ≡ r
  pub params : params_in t ≡ p
  pub made : made_in t ≡ m

-- the part of n numbers from byte a on has x at i, as far as it reaches; what stands before it and behind it is as it was
pub record StoredIn (t : List ℕ) (a n i x : ℕ) (t' : List ℕ) : Type 0 where
  pub part : pairs (take (2 * n) (drop a t')) ≡ set (pairs (take (2 * n) (drop a t))) i x
  pub before : take a t' ≡ take a t
  pub behind : drop (a + 2 * n) t' ≡ drop (a + 2 * n) t
