-- The rows of the table of well-formed byte sequences, by the first byte.
-- Assumes nothing.
use mathlib.Core.Path.{◌≡◌}
use mathlib.Core.List.{List}
use Prim.Native.Nat.{ℕ, ◌≤◌, ◌<◌}
use native.Mathlib.Omega.{arith}
use borrow.Author.Tests.{lt-ltb, le-ltb, ne_eqb}
use Rattle.definition.specs.Utf8.{Range, range, behind}
use Rattle.read_book.specs.characters.Ranges.{ranges_by}

module _ (b : ℕ) {q : List Range} where
  pub of_one : q ≡ ranges_by 0 (range 0x80 0xBF) → b < 0x80 → behind b ≡ q
  unfolding behind ranges_by
  of_one e h = rw (e, lt-ltb b 0x80 h)

  pub of_none : q ≡ ranges_by 1 (range 1 0) → 0x80 ≤ b → b < 0xC2 → behind b ≡ q
  unfolding behind ranges_by
  of_none e g h = rw (e, le-ltb b 0x80 g, lt-ltb b 0xC2 h)

  pub of_two : q ≡ ranges_by 1 (range 0x80 0xBF) → 0xC2 ≤ b → b < 0xE0 → behind b ≡ q
  unfolding behind ranges_by
  of_two e g h = rw (e, le-ltb b 0x80 (omega arith), le-ltb b 0xC2 g, lt-ltb b 0xE0 h)

  pub of_e0 : q ≡ ranges_by 2 (range 0xA0 0xBF) → b ≡ 0xE0 → behind b ≡ q
  unfolding behind ranges_by
  of_e0 e h = rw (e, h)

  pub of_ed : q ≡ ranges_by 2 (range 0x80 0x9F) → b ≡ 0xED → behind b ≡ q
  unfolding behind ranges_by
  of_ed e h = rw (e, h)

  pub of_three : q ≡ ranges_by 2 (range 0x80 0xBF) → 0xE0 ≤ b → b < 0xF0 → (b ≡ 0xE0 → ⊥) → (b ≡ 0xED → ⊥) → behind b ≡ q
  unfolding behind ranges_by
  of_three e g h m n = rw (e, le-ltb b 0x80 (omega arith), le-ltb b 0xC2 (omega arith), le-ltb b 0xE0 g, ne_eqb b 0xE0 m, ne_eqb b 0xED n, lt-ltb b 0xF0 h)

  pub of_f0 : q ≡ ranges_by 3 (range 0x90 0xBF) → b ≡ 0xF0 → behind b ≡ q
  unfolding behind ranges_by
  of_f0 e h = rw (e, h)

  module _ (g : 0xF0 ≤ b) (n : b ≡ 0xF0 → ⊥) where
    pub of_four : q ≡ ranges_by 3 (range 0x80 0xBF) → b < 0xF4 → behind b ≡ q
    unfolding behind ranges_by
    of_four e h = rw (e, le-ltb b 0x80 (omega arith), le-ltb b 0xC2 (omega arith), le-ltb b 0xE0 (omega arith), ne_eqb b 0xE0 (λ i. omega arith), ne_eqb b 0xED (λ i. omega arith), le-ltb b 0xF0 g, ne_eqb b 0xF0 n, lt-ltb b 0xF4 h)

    pub of_last : q ≡ ranges_by 1 (range 1 0) → 0xF4 ≤ b → (b ≡ 0xF4 → ⊥) → behind b ≡ q
    unfolding behind ranges_by
    of_last e h m = rw (e, le-ltb b 0x80 (omega arith), le-ltb b 0xC2 (omega arith), le-ltb b 0xE0 (omega arith), ne_eqb b 0xE0 (λ i. omega arith), ne_eqb b 0xED (λ i. omega arith), le-ltb b 0xF0 g, ne_eqb b 0xF0 n, le-ltb b 0xF4 h, ne_eqb b 0xF4 m)

  pub of_f4 : q ≡ ranges_by 3 (range 0x80 0x8F) → b ≡ 0xF4 → behind b ≡ q
  unfolding behind ranges_by
  of_f4 e h = rw (e, h)
