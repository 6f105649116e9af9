-- Segments by bytes are segments by characters.
use mathlib.Core.Path.{◌≡◌, refl}
use mathlib.Core.List.{[], ◌∷◌}
use mathlib.Core.Bool.{Bool, true, false, cond, ◌&&◌, ◌||◌}
use Prim.Native.Nat.{ℕ, ◌+◌, ◌/◌, ◌%◌, ◌≤◌, ◌<◌}
use native.Mathlib.Omega.{arith}
use lib.Dec.{leb, ltb}
use borrow.Author.Tests.{ltb-true, ltb-false, le-leb, lt-leb}
use Rattle.definition.specs.Names.{letter, letters}
use Rattle.laws.specs.Laws.{sign, SegmentByCharacters}
use Rattle.laws.proofs.Tests.{by_test}
use Rattle.laws.proofs.Utf8.{one, two, three, four}

-- a byte that is a character, the first byte of a longer one, and the others
letter_one : (b : ℕ) → b < 128 → letter b ≡ sign b ∷ []
unfolding letter
letter_one b h = rw (lt-leb 128 b h) (by_tests (leb 65 b && leb b 90) (leb 97 b && leb b 122 || leb 48 b && leb b 57))
  where
    by_tests : (x y : Bool) → cond x ((b + 32) ∷ []) (cond y (b ∷ []) (95 ∷ [])) ≡ cond x (b + 32) (cond y b 95) ∷ []
    by_tests true y = refl
    by_tests false true = refl
    by_tests false false = refl

letter_first : (b : ℕ) → 192 ≤ b → letter b ≡ 95 ∷ []
unfolding letter
letter_first b h = rw (le-leb 65 b (omega arith), lt-leb b 90 (omega arith), le-leb 97 b (omega arith), lt-leb b 122 (omega arith), le-leb 48 b (omega arith), lt-leb b 57 (omega arith), le-leb 128 b (omega arith), lt-leb b 191 (omega arith))

letter_other : (b : ℕ) → 128 ≤ b → b ≤ 191 → letter b ≡ []
unfolding letter
letter_other b h g = rw (le-leb 65 b (omega arith), lt-leb b 90 (omega arith), le-leb 97 b (omega arith), lt-leb b 122 (omega arith), le-leb 48 b (omega arith), lt-leb b 57 (omega arith), le-leb 128 b h, le-leb b 191 g)

sign_other : (c : ℕ) → 128 ≤ c → sign c ≡ 95
sign_other c h = rw (le-leb 65 c (omega arith), lt-leb c 90 (omega arith), le-leb 97 c (omega arith), lt-leb c 122 (omega arith), le-leb 48 c (omega arith), lt-leb c 57 (omega arith))

pub segment_by_characters : SegmentByCharacters
unfolding letters
segment_by_characters c h s = by_test (ltb c 128)
    (λ p. let k = ltb-true c 128 p in rw (one c k, letter_one c k))
    (λ p. let k = ltb-false c 128 p in rw (sign_other c k) (by_test (ltb c 2048)
    (λ q. rw (two c k (ltb-true c 2048 q), letter_first (192 + c / 64) (omega arith), letter_other (128 + c % 64) (omega arith) (omega arith)))
    (λ q. let l = ltb-false c 2048 q in by_test (ltb c 65536)
    (λ r. rw (three c l (ltb-true c 65536 r), letter_first (224 + c / 4096) (omega arith), letter_other (128 + c / 64 % 64) (omega arith) (omega arith), letter_other (128 + c % 64) (omega arith) (omega arith)))
    (λ r. rw (four c (ltb-false c 65536 r), letter_first (240 + c / 262144) (omega arith), letter_other (128 + c / 4096 % 64) (omega arith) (omega arith), letter_other (128 + c / 64 % 64) (omega arith) (omega arith), letter_other (128 + c % 64) (omega arith) (omega arith))))))
