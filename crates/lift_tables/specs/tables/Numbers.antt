-- Numbers as tables keep them.
use Rattle.std.specs.Prelude.{ℕ, ◌+◌, min}

-- sizes after lifting are kept in 16 bits: where one is larger, 65,535 stands for it, and a lift that has it among its types is over code 10's limit
unfoldable pub plus : ℕ → ℕ → ℕ
plus a b = min (a + b) 65535
