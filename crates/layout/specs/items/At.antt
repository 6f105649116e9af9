-- Bytes by position, total on any bytes: past the end a byte is 0, and no place lies past the end.
-- Items as document 01's "The definition book" lays them out.
use Rattle.std.specs.Prelude.{List, ℕ, zero, suc, ◌+◌, ◌*◌, min, Bool, true, false, eqb, length, get_or}

unfoldable pub byte_at : List ℕ → ℕ → ℕ
byte_at s at = get_or s at 0

-- the place n bytes further
unfoldable pub past_at : List ℕ → ℕ → ℕ → ℕ
past_at s at n = min (at + n) (length s)

-- "All numbers little-endian."
unfoldable pub number_at : List ℕ → ℕ → ℕ
number_at s at = byte_at s at + byte_at s (past_at s at 1) * 256

-- "`name` = one length byte, then that many bytes": the place behind it
unfoldable pub name_past_of : List ℕ → ℕ → ℕ
name_past_of s at = past_at s (past_at s at 1) (byte_at s at)

-- "`text` = u16 length, then bytes"
unfoldable pub text_past_of : List ℕ → ℕ → ℕ
text_past_of s at = past_at s (past_at s at 2) (number_at s at)

unfoldable pub names_past_of : List ℕ → ℕ → ℕ → ℕ
names_past_of s zero at = at
names_past_of s (suc n) at = names_past_of s n (name_past_of s at)

-- a u16 count, and as many names
unfoldable pub list_past_of : List ℕ → ℕ → ℕ
list_past_of s at = names_past_of s (number_at s at) (past_at s at 2)

-- "A length is u16 count, root names .., text."
unfoldable pub length_past_of : List ℕ → ℕ → ℕ
length_past_of s at = text_past_of s (list_past_of s at)

abbrev pub pick : {A : Type 0} → Bool → A → A → A
pick true a b = a
pick false a b = b

-- "byte 0, or 1 and a selector"
unfoldable pub selector_past_of : List ℕ → ℕ → ℕ
selector_past_of s at = pick (eqb (byte_at s at) 1) (name_past_of s (past_at s at 1)) (past_at s at 1)

-- "each case a label (Enums) or text"
unfoldable pub label_past_of : List ℕ → ℕ → ℕ → ℕ
label_past_of s at kind = pick (eqb kind 1) (name_past_of s at) (text_past_of s at)

-- "every chain there stands on Bytes or Tail": the tag of the inner that a chain stands on
unfoldable pub stands_on_of : ℕ → Bool
stands_on_of tag = pick (eqb tag 10) true (eqb tag 11)
