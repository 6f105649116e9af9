-- The way of a name to its row, in one table of numbers, total on any table.
-- Assumes nothing.
use Rattle.std.specs.Prelude.{◌≡◌, List, ℕ, zero, suc, ◌+◌, ◌*◌, ◌-◌, ◌/◌, ◌%◌, ◌≤◌, ◌<◌, eqb, leb, ltb, length, get_or, set}
use Rattle.definition.specs.Tree.{Name}
use Rattle.layout.specs.items.At.{pick}
use Rattle.layout.specs.hash.Hash.{bit_at}

-- which number follows for a name at a fork: w is 4,096 times the row whose two numbers follow, and the bit that says which
unfoldable pub fork_at : Name → ℕ → ℕ
fork_at n w = 256 + 2 * (w / 4096) + bit_at n (w % 4096)

-- where the way of a name ends that has come to x, with k steps left
unfoldable pub slot_from : List ℕ → Name → ℕ → ℕ → ℕ
slot_from t n zero x = x
slot_from t n (suc k) x =
    let v = get_or t x 0 in
    let on = slot_from t n k (fork_at n (v - 65536)) in
    pick (ltb v 65536) x on

-- it starts at the head of the name's length
unfoldable pub slot_of : List ℕ → Name → ℕ → ℕ
slot_of t n rows = slot_from t n rows (length n % 256)

-- the row that follows at an end, or the number of rows
unfoldable pub row_at : List ℕ → ℕ → ℕ → ℕ
row_at t x rows = let v = get_or t x 0 in pick (eqb v 0) rows (pick (ltb rows v) rows (v - 1))

-- the first byte from i on in which two names differ, with k bytes left
unfoldable pub byte_from : Name → Name → ℕ → ℕ → ℕ
byte_from a b zero i = i
byte_from a b (suc k) i = let on = byte_from a b k (i + 1) in pick (eqb (get_or a i 0) (get_or b i 0)) on i

unfoldable pub byte_apart_of : Name → Name → ℕ
byte_apart_of a b = byte_from a b (length a) 0

-- the first bit from d on in which they differ, with k bits left
unfoldable pub bit_from : Name → Name → ℕ → ℕ → ℕ
bit_from a b zero d = d
bit_from a b (suc k) d = let on = bit_from a b k (d + 1) in pick (eqb (bit_at a d) (bit_at b d)) on d

-- one of their hashes, or of the first byte in which they differ
unfoldable pub apart_at : Name → Name → ℕ
apart_at a b = let d = bit_from a b 32 0 in pick (ltb d 32) d (bit_from a b 8 (32 + 8 * byte_apart_of a b))

-- it tells two names of bytes apart, if they are not the same
pub record Apart (a b : Name) : Type 0 where
  pub differ : apart_at a b < 32 + 8 * length a → bit_at a (apart_at a b) ≡ bit_at b (apart_at a b) → ⊥
  pub same : 32 + 8 * length a ≤ apart_at a b → length a ≡ length b → a ≡ b

-- the table when the row behind the others has a name whose way ended at x, where another name's row followed, or none
unfoldable pub entered_at : List ℕ → Name → Name → ℕ → ℕ → List ℕ
entered_at t n other x rows =
    let v = get_or t x 0 in
    let d = apart_at n other in
    let side = bit_at n d in
    pick (eqb v 0) (set t x (rows + 1))
    (pick (leb (32 + 8 * length n) d) t
    (set (set (set t (256 + 2 * rows + side) (rows + 1)) (257 + 2 * rows - side) v) x (65536 + 4096 * rows + d)))
