-- Ways, bits and what tells two names apart.
-- Assumes nothing.
use mathlib.Core.Path.{◌≡◌, refl, sym, ap, ◌∙◌}
use mathlib.Core.Logic.{◌⊎◌, ⊎_elim}
use mathlib.Core.List.{List}
use mathlib.Core.Bool.{true, false}
use Prim.Native.Nat.{ℕ, zero, suc, ◌+◌, ◌*◌, ◌-◌, ◌/◌, ◌%◌, ◌^◌, ◌≤◌, ◌<◌}
use native.Mathlib.Omega.{arith}
use native.Mathlib.Nat.{eq-or-lt_of_le, pow-suc, div-div-eq-div-mul, mul_comm}
use lib.Dec.{eqb}
use lib.ListN.{length, get_or, set, drop}
use borrow.Author.Tests.{lt-ltb, le-ltb, le-leb, lt-leb, eq-eqb, ne_eqb, eqb-true, eqb-false}
use Rattle.definition.specs.Tree.{Name}
use Rattle.definition.specs.Names.{eq_name}
use Rattle.name_table.proofs.forks.Ways.{le-or-lt}
use Rattle.layout.proofs.lookup.Names.{yes_no, same_on, same_end, eq_name-true}
use Rattle.layout.specs.hash.Hash.{bit_at}
use Rattle.layout.proofs.hash.Hash.{bit_own}
use Rattle.name_table.specs.forks.Forks.{fork_at, slot_from, slot_of, row_at, byte_from, byte_apart_of, bit_from, apart_at, Apart, entered_at}

-- ---- the way
module _ (t : List ℕ) (m : Name) where
  pub way_end : (k x : ℕ) {v : ℕ} → v ≡ get_or t x 0 → v < 65536 → slot_from t m k x ≡ x
  unfolding slot_from
  way_end zero x e h = refl
  way_end (suc k) x {v} e h = rw (← e, lt-ltb v 65536 h)

  pub way_on : (rows k x : ℕ) {v : ℕ} → v ≡ get_or t x 0 → 65536 ≤ v → k < rows → {y : ℕ} → y ≡ fork_at m (v - 65536) → slot_from t m (rows - k) x ≡ slot_from t m (rows - (k + 1)) y
  unfolding slot_from
  way_on rows k x {v} e h l {y} ey =
      let z : rows - k ≡ suc (rows - (k + 1)) = omega arith in
      rw (z, ← e, le-ltb v 65536 h, ← ey)

  pub way_head : (rows : ℕ) {v : ℕ} → v ≡ get_or t (length m % 256) 0 → v < 65536 → slot_of t m rows ≡ length m % 256
  unfolding slot_of
  way_head rows e h = way_end rows (length m % 256) e h

  pub way_start : (rows : ℕ) → slot_of t m rows ≡ slot_from t m (rows - 0) (length m % 256)
  unfolding slot_of
  way_start rows = let z : rows - 0 ≡ rows = omega arith in rw z

  pub way_done : (k x : ℕ) → k ≡ 0 → slot_from t m k x ≡ x
  unfolding slot_from
  way_done zero x e = refl
  way_done (suc k) x e = absurd (omega arith)

-- ---- bits
half_bit : (a k : ℕ) → a / 2 / 2 ^ k ≡ a / 2 ^ suc k
half_bit a k = div-div-eq-div-mul a 2 (2 ^ k) ∙ ap (λ (x : ℕ). a / x) (mul_comm 2 (2 ^ k) ∙ sym (pow-suc 2 k))

-- numbers below 2 ^ k with the same k bits are the same
bits_same : (k a b : ℕ) → a < 2 ^ k → b < 2 ^ k → ((i : ℕ) → i < k → a / 2 ^ i % 2 ≡ b / 2 ^ i % 2) → a ≡ b
bits_same zero a b ha hb f = omega arith
bits_same (suc k) a b ha hb f =
    let p = pow-suc 2 k in
    let x : a < 2 ^ k * 2 = rw p at ha in
    let y : b < 2 ^ k * 2 = rw p at hb in
    let r = bits_same k (a / 2) (b / 2) (omega arith) (omega arith) (λ i h. rw (half_bit a i, half_bit b i) (f (suc i) (omega arith))) in
    let z : a % 2 ≡ b % 2 = zeroth a b (f 0 (omega arith)) in
    omega arith
  where
    zeroth : (a b : ℕ) → a / 2 ^ 0 % 2 ≡ b / 2 ^ 0 % 2 → a % 2 ≡ b % 2
    zeroth a b e = omega arith

-- ---- the first byte in which two names differ
module _ (a b : Name) where
  pub byte_start : byte_apart_of a b ≡ byte_from a b (length a - 0) 0
  unfolding byte_apart_of
  byte_start = let z : length a - 0 ≡ length a = omega arith in rw z

  pub byte_here : (k i : ℕ) {x y : ℕ} → x ≡ get_or a i 0 → y ≡ get_or b i 0 → (x ≡ y → ⊥) → byte_from a b k i ≡ i
  unfolding byte_from
  byte_here zero i ex ey h = refl
  byte_here (suc k) i {x} {y} ex ey h = rw (← ex, ← ey, ne_eqb x y h)

  pub byte_on : (i : ℕ) {x y : ℕ} → x ≡ get_or a i 0 → y ≡ get_or b i 0 → x ≡ y → i < length a → byte_from a b (length a - i) i ≡ byte_from a b (length a - (i + 1)) (i + 1)
  unfolding byte_from
  byte_on i {x} {y} ex ey e h =
      let z : length a - i ≡ suc (length a - (i + 1)) = omega arith in
      rw (z, ← ex, ← ey, eq-eqb x y e)

  pub byte_done : (k i : ℕ) → k ≡ 0 → byte_from a b k i ≡ i
  unfolding byte_from
  byte_done zero i e = refl
  byte_done (suc k) i e = absurd (omega arith)

  -- the bytes before it are the same, and it is not
  apart_from : (k i : ℕ) → byte_from a b k i < i + k → get_or a (byte_from a b k i) 0 ≡ get_or b (byte_from a b k i) 0 → ⊥
  unfolding byte_from
  apart_from zero i h e = absurd (omega arith)
  apart_from (suc k) i h e = ⊎_elim
      (λ (q : eqb (get_or a i 0) (get_or b i 0) ≡ true). apart_from k (i + 1) (let z : byte_from a b k (i + 1) < i + suc k = rw q at h in omega arith) (rw q at e))
      (λ (q : eqb (get_or a i 0) (get_or b i 0) ≡ false). eqb-false _ _ q (rw q at e))
      (yes_no (eqb (get_or a i 0) (get_or b i 0)))

  same_from : (k i : ℕ) → i + k ≡ length a → length a ≡ length b → byte_from a b k i ≡ length a → eq_name (drop i a) (drop i b) ≡ true
  unfolding byte_from
  same_from zero i h l e = same_end a b i (omega arith) l
  same_from (suc k) i h l e = ⊎_elim
      (λ (q : eqb (get_or a i 0) (get_or b i 0) ≡ true). same_on a b i (omega arith) l (eqb-true _ _ q) ∙ same_from k (i + 1) (omega arith) l (rw q at e))
      (λ (q : eqb (get_or a i 0) (get_or b i 0) ≡ false). absurd (let z : i ≡ length a = rw q at e in omega arith))
      (yes_no (eqb (get_or a i 0) (get_or b i 0)))

  byte_differs : byte_apart_of a b < length a → get_or a (byte_apart_of a b) 0 ≡ get_or b (byte_apart_of a b) 0 → ⊥
  unfolding byte_apart_of
  byte_differs h = apart_from (length a) 0 (omega arith)

  names_same : length a ≤ byte_apart_of a b → byte_apart_of a b ≤ length a → length a ≡ length b → a ≡ b
  unfolding byte_apart_of
  names_same h k l = eq_name-true a b (same_from (length a) 0 (omega arith) l (omega arith))

-- ---- the first bit
bit_of : (m : Name) (i j : ℕ) → j < 8 → bit_at m (32 + 8 * i + j) ≡ get_or m i 0 / 2 ^ j % 2
bit_of m i j h =
    let q : (32 + 8 * i + j - 32) / 8 ≡ i = omega arith in
    let r : (32 + 8 * i + j - 32) % 8 ≡ j = omega arith in
    bit_own m (32 + 8 * i + j) (omega arith) ∙ rw (q, r)

module _ (a b : Name) where
  pub bits_on : (end d : ℕ) {x y : ℕ} → x ≡ bit_at a d → y ≡ bit_at b d → x ≡ y → d < end → bit_from a b (end - d) d ≡ bit_from a b (end - (d + 1)) (d + 1)
  unfolding bit_from
  bits_on end d {x} {y} ex ey e h =
      let z : end - d ≡ suc (end - (d + 1)) = omega arith in
      rw (z, ← ex, ← ey, eq-eqb x y e)

  pub bits_here : (k d : ℕ) {x y : ℕ} → x ≡ bit_at a d → y ≡ bit_at b d → (x ≡ y → ⊥) → bit_from a b k d ≡ d
  unfolding bit_from
  bits_here zero d ex ey h = refl
  bits_here (suc k) d {x} {y} ex ey h = rw (← ex, ← ey, ne_eqb x y h)

  pub bits_done : (k d : ℕ) → k ≡ 0 → bit_from a b k d ≡ d
  unfolding bit_from
  bits_done zero d e = refl
  bits_done (suc k) d e = absurd (omega arith)

  -- one in which they differ, or all are the same
  found_apart : (k d : ℕ) → bit_from a b k d < d + k → bit_at a (bit_from a b k d) ≡ bit_at b (bit_from a b k d) → ⊥
  unfolding bit_from
  found_apart zero d h e = absurd (omega arith)
  found_apart (suc k) d h e = ⊎_elim
      (λ (q : eqb (bit_at a d) (bit_at b d) ≡ true). found_apart k (d + 1) (let z : bit_from a b k (d + 1) < d + suc k = rw q at h in omega arith) (rw q at e))
      (λ (q : eqb (bit_at a d) (bit_at b d) ≡ false). eqb-false _ _ q (rw q at e))
      (yes_no (eqb (bit_at a d) (bit_at b d)))

  none_apart : (k d : ℕ) → d + k ≤ bit_from a b k d → (j : ℕ) → j < k → bit_at a (d + j) ≡ bit_at b (d + j)
  unfolding bit_from
  none_apart zero d h j l = absurd (omega arith)
  none_apart (suc k) d h j l = ⊎_elim
      (λ (q : eqb (bit_at a d) (bit_at b d) ≡ true). ⊎_elim
      (λ (z : 0 ≡ j). let y : d + j ≡ d = omega arith in rw y (eqb-true _ _ q))
      (λ (z : 0 < j). let y : d + 1 + (j - 1) ≡ d + j = omega arith in let w : d + suc k ≤ bit_from a b k (d + 1) = rw q at h in rw y at (none_apart k (d + 1) (omega arith) (j - 1) (omega arith)))
      (eq-or-lt_of_le {n = 0} {m = j} (omega arith)))
      (λ (q : eqb (bit_at a d) (bit_at b d) ≡ false). absurd (let z : d + suc k ≤ d = rw q at h in omega arith))
      (yes_no (eqb (bit_at a d) (bit_at b d)))

  -- a bit of the hashes
  module _ {d : ℕ} (ed : d ≡ bit_from a b 32 0) where
    pub apart_mixed : d < 32 → (d ≡ apart_at a b) × Apart a b
    unfolding apart_at
    apart_mixed h =
        let w : apart_at a b ≡ d = rw (← ed, lt-ltb d 32 h) in (
          sym w,
          record {
            differ = λ l z. found_apart 32 0 (omega arith) (rw (w, ed) at z);
            same = λ l z. absurd (omega arith);
          },
        )

    -- one of their own
    pub apart_own : 32 ≤ d → byte_apart_of a b ≤ length a → ((j : ℕ) → get_or a j 0 < 256) → ((j : ℕ) → get_or b j 0 < 256) → {i first r : ℕ} → i ≡ byte_apart_of a b → first ≡ 32 + 8 * i → r ≡ bit_from a b 8 first → (r ≡ apart_at a b) × Apart a b
    unfolding apart_at
    apart_own h li la lb {i} {first} {r} ei ef er =
        let o : ℕ = bit_from a b 8 (32 + 8 * byte_apart_of a b) in
        let w : apart_at a b ≡ o = rw (← ed, le-ltb d 32 h) in
        let q : r ≡ o = er ∙ rw (ef, ei) in (
          q ∙ sym w,
          record {
            differ = λ l z. ⊎_elim
                (λ (k : 32 + 8 * byte_apart_of a b + 8 ≤ o). different (omega arith) k)
                (λ (k : o < 32 + 8 * byte_apart_of a b + 8). found_apart 8 (32 + 8 * byte_apart_of a b) k (rw w at z))
                (le-or-lt (32 + 8 * byte_apart_of a b + 8) o);
            same = λ l z. ⊎_elim
                (λ (k : byte_apart_of a b ≡ length a). names_same a b (omega arith) li z)
                (λ (k : byte_apart_of a b < length a). absurd (different k (omega arith)))
                (eq-or-lt_of_le li);
          },
        )
      where
        different : byte_apart_of a b < length a → 32 + 8 * byte_apart_of a b + 8 ≤ bit_from a b 8 (32 + 8 * byte_apart_of a b) → ⊥
        different k l = byte_differs a b k (bits_same 8 _ _ (la (byte_apart_of a b)) (lb (byte_apart_of a b)) (λ j m. sym (bit_of a (byte_apart_of a b) j m) ∙ none_apart 8 (32 + 8 * byte_apart_of a b) l j m ∙ bit_of b (byte_apart_of a b) j m))

-- ---- the row at an end
module _ (t : List ℕ) (x n : ℕ) {v : ℕ} (e : v ≡ get_or t x 0) where
  pub row_none : v ≡ 0 → row_at t x n ≡ n
  unfolding row_at
  row_none h = rw (← e, eq-eqb v 0 h)

  pub row_over : n < v → row_at t x n ≡ n
  unfolding row_at
  row_over h = rw (← e, ne_eqb v 0 (λ q. omega arith), lt-ltb n v h)

  pub row_absent : (v ≡ 0) ⊎ ((v ≡ 0 → ⊥) × (n < v)) → row_at t x n ≡ n
  row_absent = ⊎_elim row_none (λ (h : (v ≡ 0 → ⊥) × (n < v)). row_over h.1)

  pub row_is : 0 < v → v ≤ n → row_at t x n ≡ v - 1
  unfolding row_at
  row_is h k = rw (← e, ne_eqb v 0 (λ q. omega arith), le-ltb n v k)

-- ---- a row more
module _ (t : List ℕ) (m other : Name) (x rows : ℕ) {v d : ℕ} (ev : v ≡ get_or t x 0) (ed : d ≡ apart_at m other) where
  pub entered_none : v ≡ 0 → entered_at t m other x rows ≡ set t x (rows + 1)
  unfolding entered_at
  entered_none h = rw (← ev, eq-eqb v 0 h)

  pub entered_same : (v ≡ 0 → ⊥) → 32 + 8 * length m ≤ d → entered_at t m other x rows ≡ t
  unfolding entered_at
  entered_same h k = rw (← ev, ne_eqb v 0 h, ← ed, le-leb (32 + 8 * length m) d k)

  pub entered_fork : (v ≡ 0 → ⊥) → d < 32 + 8 * length m → {side : ℕ} → side ≡ bit_at m d → {t₁ t₂ t₃ : List ℕ} → t₁ ≡ set t (256 + 2 * rows + side) (rows + 1) → t₂ ≡ set t₁ (257 + 2 * rows - side) v → t₃ ≡ set t₂ x (65536 + 4096 * rows + d)
      → t₃ ≡ entered_at t m other x rows
  unfolding entered_at
  entered_fork h k es e₁ e₂ e₃ = rw (← ev, ne_eqb v 0 h, ← ed, lt-leb (32 + 8 * length m) d k, ← es, ← e₁, ← e₂) e₃
