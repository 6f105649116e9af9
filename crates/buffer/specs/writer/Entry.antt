-- An entry of the contents.
use Rattle.std.specs.Prelude.{List, [], ◌∷◌, ℕ, ◌%◌}
use Rattle.definition.specs.Write.{w_u16}

-- "entries of 6 bytes: kind, a zero byte, u16 offset, u16 length". Of a number that is longer it tells the remainder
unfoldable pub entry_bytes : ℕ → ℕ → ℕ → List ℕ
entry_bytes kind at n = kind ∷ 0 ∷ w_u16 (at % 65536) (w_u16 (n % 65536) [])
