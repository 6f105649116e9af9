-- The readers of single items, at a place of a list.
use mathlib.Core.Path.{◌≡◌, refl}
use mathlib.Core.List.{List, [], ◌∷◌}
use Prim.Native.Nat.{ℕ, zero, suc, ◌+◌, ◌-◌, ◌*◌, ◌≤◌, ◌<◌}
use native.Mathlib.Nat.{add-sub_cancel_left}
use native.Mathlib.Numerals.{add-one}
use native.Mathlib.Omega.{arith}
use lib.ListN.{length, get_or, take, drop, drop_of_length-le, length-drop}
use lib.Seq.{drop-cons, drop-drop}
use Rattle.definition.specs.Code.{Code, not_a_book}
use Rattle.definition.specs.Res.{bad, ok}
use Rattle.definition.specs.Read.{byte, u16, part}
use Rattle.read_book.specs.cursor.Ends.{Along}

module _ (s : List ℕ) (p : ℕ) where
  pub along : (n : ℕ) → p + n ≤ length s → Along s p (p + n)
  along n h = simp length-drop (omega arith)

  pub byte_end : length s ≤ p → byte (drop p s) ≡ bad not_a_book (drop p s)
  unfolding byte
  byte_end h = rw (drop_of_length-le s h)

  pub byte_at : p < length s → byte (drop p s) ≡ ok (get_or s p 0) (drop (p + 1) s)
  unfolding byte
  byte_at h = rw (add-one, drop-cons s p 0 h)

  pub u16_none : length s ≤ p → u16 (drop p s) ≡ bad not_a_book (drop p s)
  unfolding u16
  u16_none h = rw (drop_of_length-le s h)

  pub u16_one : p < length s → length s ≤ p + 1 → u16 (drop p s) ≡ bad not_a_book (drop p s)
  unfolding u16
  u16_one h g = rw (drop-cons s p 0 h, ← add-one, drop_of_length-le s g)

  pub u16_at : p + 1 < length s → u16 (drop p s) ≡ ok (get_or s p 0 + 256 * get_or s (p + 1) 0) (drop (p + 2) s)
  unfolding u16
  u16_at h =
      let g : p < length s = omega arith in
      let q : suc (p + 1) ≡ p + 2 = omega arith in
      rw (drop-cons s p 0 g, ← add-one p, drop-cons s (p + 1) 0 h, q)

-- n bytes, where there are so many and where not
pub part_is : (n : ℕ) (l : List ℕ) → n ≤ length l → part n l ≡ ok (take n l) (drop n l)
unfolding part
part_is zero l h = refl
part_is (suc n) [] h = absurd (omega arith)
part_is (suc n) (b ∷ l) h = rw (part_is n l (omega arith))

pub part_short : (n : ℕ) (l : List ℕ) → length l < n → part n l ≡ bad not_a_book []
unfolding part
part_short zero l h = absurd (omega arith)
part_short (suc n) [] h = refl
part_short (suc n) (b ∷ l) h = rw (part_short n l (omega arith))

module _ (s : List ℕ) (p n : ℕ) where
  pub part_at : p + n ≤ length s → part n (drop p s) ≡ ok (take (p + n - p) (drop p s)) (drop (p + n) s)
  part_at h = rw (part_is n (drop p s) (simp length-drop (omega arith)), drop-drop, add-sub_cancel_left)

  pub part_past : length s - p < n → part n (drop p s) ≡ bad not_a_book []
  part_past h = part_short n (drop p s) (simp length-drop (omega arith))

-- a number that is missing is at fault from its first byte on, and one that is there has two bytes
pub u16_whole : (l : List ℕ) (k : Code) (r : List ℕ) → u16 l ≡ bad k r → r ≡ l
unfolding u16
u16_whole [] k r e = cc
u16_whole (a ∷ []) k r e = cc
u16_whole (a ∷ b ∷ l) k r e = let z : ◌≡◌ {A = ℕ} 0 1 = cc in absurd (omega arith)

-- the same of a byte
pub byte_whole : (l : List ℕ) (k : Code) (r : List ℕ) → byte l ≡ bad k r → r ≡ l
unfolding byte
byte_whole [] k r e = cc
byte_whole (a ∷ l) k r e = let z : ◌≡◌ {A = ℕ} 0 1 = cc in absurd (omega arith)

byte-length : (l : List ℕ) (n : ℕ) (r : List ℕ) → byte l ≡ ok n r → length l ≡ 1 + length r
unfolding byte
byte-length [] n r e = let z : ◌≡◌ {A = ℕ} 0 1 = cc in absurd (omega arith)
byte-length (a ∷ l) n r e = let z : l ≡ r = cc in rw z (omega arith)

pub byte_one : (s : List ℕ) (p n q : ℕ) → byte (drop p s) ≡ ok n (drop q s) → Along s p q → (q ≡ p + 1) × (q ≤ length s)
byte_one s p n q e a =
    let z = byte-length (drop p s) n (drop q s) e in
    (omega arith, omega (arith, length-drop p s))

u16-length : (l : List ℕ) (n : ℕ) (r : List ℕ) → u16 l ≡ ok n r → length l ≡ 2 + length r
unfolding u16
u16-length [] n r e = let z : ◌≡◌ {A = ℕ} 0 1 = cc in absurd (omega arith)
u16-length (a ∷ []) n r e = let z : ◌≡◌ {A = ℕ} 0 1 = cc in absurd (omega arith)
u16-length (a ∷ b ∷ l) n r e = let z : l ≡ r = cc in rw z (omega arith)

pub u16_two : (s : List ℕ) (p n q : ℕ) → u16 (drop p s) ≡ ok n (drop q s) → Along s p q → (q ≡ p + 2) × (q ≤ length s)
u16_two s p n q e a =
    let z = u16-length (drop p s) n (drop q s) e in
    (omega arith, omega (arith, length-drop p s))
