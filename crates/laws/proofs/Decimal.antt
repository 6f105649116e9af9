-- Decimal numbers read back as what they were written from.
use mathlib.Core.Path.{◌≡◌, ap, sym, ◌∙◌}
use mathlib.Core.List.{List, [], ◌∷◌}
use Prim.Native.Nat.{ℕ, zero, suc, ◌+◌, ◌/◌, ◌%◌, ◌≤◌, ◌<◌}
use native.Mathlib.Nat.{le_refl}
use native.Mathlib.Omega.{arith}
use lib.Dec.{ltb}
use borrow.Author.Tests.{ltb-true, ltb-false}
use Rattle.definition.specs.Names.{digits, decimal}
use Rattle.laws.specs.Laws.{AllDigits, value_of, DecimalReadsBack}
use Rattle.laws.proofs.Tests.{by_test}

value_digits : (k n : ℕ) (acc : List ℕ) → n ≤ k → value_of (digits k n acc) 0 ≡ value_of acc n
unfolding digits
value_digits zero n acc h = ap (value_of acc) (omega arith)
value_digits (suc k) n acc h = by_test (ltb n 10)
    (λ p. rw p (ap (value_of acc) (omega arith)))
    (λ p.
    let g : 10 ≤ n = ltb-false n 10 p in
    rw p (value_digits k (n / 10) ((48 + n % 10) ∷ acc) (omega arith) ∙ ap (value_of acc) (omega arith)))

all_digits : (k n : ℕ) (acc : List ℕ) → n ≤ k → AllDigits acc → AllDigits (digits k n acc)
unfolding digits
all_digits zero n acc h d = (omega arith, omega arith, d)
all_digits (suc k) n acc h d = by_test (ltb n 10)
    (λ p.
    let g : n < 10 = ltb-true n 10 p in
    rw p (omega arith, omega arith, d))
    (λ p.
    let g : 10 ≤ n = ltb-false n 10 p in
    rw p (all_digits k (n / 10) ((48 + n % 10) ∷ acc) (omega arith) (omega arith, omega arith, d)))

-- only the number 0 begins with the digit 0
no_zero : (k n : ℕ) (acc t : List ℕ) → n ≤ k → digits k n acc ≡ 48 ∷ t → n ≡ 0
unfolding digits
no_zero zero n acc t h e = omega arith
no_zero (suc k) n acc t h e = by_test (ltb n 10)
    (λ p. first (rw p at e))
    (λ p.
    let g : 10 ≤ n = ltb-false n 10 p in
    let z = no_zero k (n / 10) ((48 + n % 10) ∷ acc) t (omega arith) (rw p at e) in
    absurd (omega arith))
  where
    first : (48 + n) ∷ acc ≡ 48 ∷ t → n ≡ 0
    first q = let z : 48 + n ≡ 48 = cc in omega arith

zero_alone : (t : List ℕ) → decimal 0 ≡ 48 ∷ t → t ≡ []
unfolding decimal digits
zero_alone t e = behind e
  where
    behind : ◌≡◌ {A = List ℕ} (48 ∷ []) (48 ∷ t) → t ≡ []
    behind q = cc

value_decimal : (n : ℕ) → value_of (decimal n) 0 ≡ n
unfolding decimal
value_decimal n = value_digits n n [] (le_refl n)

pub decimal_reads_back : DecimalReadsBack
unfolding decimal
decimal_reads_back n = record {
  only_digits = all_digits n n [] (le_refl n) tt;
  value = value_decimal n;
  short = λ t e. zero_alone t (rw (no_zero n n [] t (le_refl n) e) at e);
}

pub decimal_inj : (i j : ℕ) → decimal i ≡ decimal j → i ≡ j
decimal_inj i j e = sym (value_decimal i) ∙ ap (λ (l : List ℕ). value_of l 0) e ∙ value_decimal j
