-- Decimal numerals, digit by digit.
-- Assumes nothing.
use mathlib.Core.Path.{◌≡◌, refl, ◌∙◌}
use mathlib.Core.Logic.{⊎_elim}
use mathlib.Core.List.{List, [], ◌∷◌, ◌++◌, append_assoc}
use Prim.Native.Nat.{ℕ, zero, suc, ◌+◌, ◌/◌, ◌%◌, ◌≤◌, ◌<◌}
use native.Mathlib.Omega.{arith}
use native.Mathlib.Nat.{le_refl}
use borrow.Author.Tests.{lt-ltb, le-ltb}
use Rattle.definition.specs.Names.{digits, decimal}
use Rattle.buffer.proofs.writes.Put.{within}

small : (k n : ℕ) (acc : List ℕ) → n < 10 → digits k n acc ≡ (48 + n) ∷ acc
unfolding digits
small zero n acc h = refl
small (suc k) n acc h = rw (lt-ltb n 10 h)

large : (k n : ℕ) (acc : List ℕ) → 10 ≤ n → digits (suc k) n acc ≡ digits k (n / 10) ((48 + n % 10) ∷ acc)
unfolding digits
large k n acc h = rw (le-ltb n 10 h)

-- how many digits there may be, once there are enough, makes no difference
enough : (k j n : ℕ) (acc : List ℕ) → n ≤ k → n ≤ j → digits k n acc ≡ digits j n acc
enough zero j n acc h g = rw (small zero n acc (omega arith), small j n acc (omega arith))
enough (suc k) zero n acc h g = rw (small (suc k) n acc (omega arith), small zero n acc (omega arith))
enough (suc k) (suc j) n acc h g = ⊎_elim
    (λ (s : 10 ≤ n). rw (large k n acc s, large j n acc s) (enough k j (n / 10) ((48 + n % 10) ∷ acc) (omega arith) (omega arith)))
    (λ (s : n < 10). rw (small (suc k) n acc s, small (suc j) n acc s))
    (within 10 n)

-- the digits, and what stands behind them
behind : (k n : ℕ) (acc : List ℕ) → digits k n acc ≡ digits k n [] ++ acc
unfolding digits
behind zero n acc = refl
behind (suc k) n acc = ⊎_elim
    (λ (s : 10 ≤ n).
    large k n acc s ∙ behind k (n / 10) ((48 + n % 10) ∷ acc)
    ∙ rw (large k n [] s, behind k (n / 10) ((48 + n % 10) ∷ [])) (simp append_assoc))
    (λ (s : n < 10). rw (small (suc k) n acc s, small (suc k) n [] s))
    (within 10 n)

pub decimal_small : (n : ℕ) → n < 10 → decimal n ≡ (48 + n) ∷ []
unfolding decimal
decimal_small n h = small n n [] h

pub decimal_large : (n : ℕ) → 10 ≤ n → decimal n ≡ decimal (n / 10) ++ (48 + n % 10) ∷ []
unfolding decimal
decimal_large zero h = absurd (omega arith)
decimal_large (suc k) h =
    let m : ℕ = suc k / 10 in
    let last : List ℕ = (48 + suc k % 10) ∷ [] in
    large k (suc k) [] h ∙ enough k m m last (omega arith) (le_refl m) ∙ behind m m last
