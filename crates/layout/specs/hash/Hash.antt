-- A hash of a name, and the bits that tell names apart.
-- Assumes nothing.
use Rattle.std.specs.Prelude.{[], ◌∷◌, ℕ, ◌+◌, ◌*◌, ◌-◌, ◌/◌, ◌%◌, ◌^◌, ltb, length, get_or}
use Rattle.definition.specs.Tree.{Name}
use Rattle.layout.specs.items.At.{pick}

-- the two halves of a product, added
unfoldable pub folded : ℕ → ℕ
folded p = (p + p / 4294967296) % 4294967296

-- a number of 32 bits and another mixed into it; each of its bytes moves the high bits
unfoldable pub mixed : ℕ → ℕ → ℕ
mixed h w = folded ((h + w + 1) * 1640531527)

-- the same with the product's low half alone
unfoldable pub spread : ℕ → ℕ → ℕ
spread h w = (h + w + 1) % 4294967296 * 2654435761 % 4294967296

-- bytes mixed in one by one
unfoldable pub bytes_from : ℕ → Name → ℕ
bytes_from h [] = h
bytes_from h (a ∷ s) = bytes_from (mixed h a) s

-- a number of 32 bits for a name: words of four bytes, each mixed into two numbers in two ways, so that no word makes up for another in both; these
-- two mixed; then the last one to three bytes, one by one
unfoldable pub hash_from : ℕ → ℕ → Name → ℕ
hash_from g h [] = mixed g h
hash_from g h (a ∷ []) = bytes_from (mixed g h) (a ∷ [])
hash_from g h (a ∷ b ∷ []) = bytes_from (mixed g h) (a ∷ b ∷ [])
hash_from g h (a ∷ b ∷ c ∷ []) = bytes_from (mixed g h) (a ∷ b ∷ c ∷ [])
hash_from g h (a ∷ b ∷ c ∷ d ∷ s) = hash_from (mixed g (a + 256 * b + 65536 * (c + 256 * d))) (spread h (a + 256 * b + 65536 * (c + 256 * d))) s

-- how many bytes of a name are taken four at a time
unfoldable pub fours : Name → ℕ
fours n = length n / 4 * 4

abbrev pub hash_of : Name → ℕ
hash_of n = hash_from 0 0 n

-- the bits of the hash, the highest first, and behind them the name's own; behind its end all are 0
unfoldable pub bit_at : Name → ℕ → ℕ
bit_at n d = pick (ltb d 32) (hash_of n / 2 ^ (31 - d) % 2) (get_or n ((d - 32) / 8) 0 / 2 ^ ((d - 32) % 8) % 2)
