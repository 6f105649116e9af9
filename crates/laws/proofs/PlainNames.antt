-- The names that are made are plain: UTF-8 without '.', in bytes.
use mathlib.Core.Path.{◌≡◌, refl}
use mathlib.Core.Logic.{⊎_elim}
use mathlib.Core.List.{List, [], ◌∷◌, ◌++◌}
use mathlib.Core.Bool.{true, false, ◌&&◌, ◌||◌}
use Prim.Native.Nat.{ℕ, zero, suc, ◌+◌, ◌/◌, ◌%◌, ◌≤◌, ◌<◌}
use native.Mathlib.Nat.{le_refl}
use native.Mathlib.Omega.{arith}
use lib.Dec.{eqb, leb, ltb}
use lib.ListN.{length}
use borrow.Author.Tests.{leb-true, ltb-true, ltb-false, lt-ltb, ne_eqb}
use Rattle.definition.specs.Utf8.{Range, inside, behind, characters, well_formed}
use Rattle.definition.specs.Tree.{Name, Shell, wrap, vec, option, array, CaseKind, enums, ints, arrays}
use Rattle.definition.specs.Read.{no_dot_of, dot_allowed, undotted}
use Rattle.definition.specs.Names.{elem, letter, letters, segment, digits, decimal, child, case_segment, shell_segment, numbered, first_free, fresh}
use Rattle.laws.specs.Book.{Bytes}
use Rattle.laws.proofs.Tests.{by_test, not_both, both_true, either}

-- bytes of one-byte characters, '.' not among them
abbrev pub Ascii : List ℕ → Type 0
Ascii [] = Unit {0}
Ascii (b ∷ s) = (ltb b 128 ≡ true) × (eqb b 46 ≡ false) × Ascii s

one : (b : ℕ) → b < 128 → (b ≡ 46 → ⊥) → Ascii (b ∷ [])
one b p q = (lt-ltb b 128 p, ne_eqb b 46 q, tt)

ascii_append : (a b : List ℕ) → Ascii a → Ascii b → Ascii (a ++ b)
ascii_append [] b p q = q
ascii_append (x ∷ a) b p q = (p.0, p.1, ascii_append a b p.2 q)

ascii_chars : (x : List ℕ) → Ascii x → characters [] x ≡ true
unfolding characters behind
ascii_chars [] h = refl
ascii_chars (b ∷ x) h = rw (characters, behind, h.0) (ascii_chars x h.2)

ascii_dots : (x : List ℕ) → Ascii x → no_dot_of x ≡ true
unfolding no_dot_of
ascii_dots [] h = refl
ascii_dots (b ∷ x) h = rw h.1 (ascii_dots x h.2)

chars_append : (rs : List Range) (a x : List ℕ) → characters rs a ≡ true → characters [] x ≡ true → characters rs (a ++ x) ≡ true
unfolding characters
chars_append [] [] x p q = q
chars_append (r ∷ rs) [] x p q = not_both false p refl
chars_append [] (b ∷ a) x p q = chars_append (behind b) a x p q
chars_append (r ∷ rs) (b ∷ a) x p q = let w = both_true (inside r b) (characters rs a) p in rw w.0 (chars_append rs a x w.1 q)

dots_append : (a x : List ℕ) → no_dot_of a ≡ true → no_dot_of x ≡ true → no_dot_of (a ++ x) ≡ true
unfolding no_dot_of
dots_append [] x p q = q
dots_append (b ∷ a) x p q = by_test (eqb b 46)
    (λ w. not_both false (rw w at p) refl)
    (λ w. rw w (dots_append a x (rw w at p) q))

ascii_small : (n x : List ℕ) → Bytes n → Ascii x → Bytes (n ++ x)
ascii_small [] [] b h = tt
ascii_small [] (c ∷ x) b h = (omega (arith, ltb-true c 128 h.0), ascii_small [] x tt h.2)
ascii_small (c ∷ n) x b h = (b.0, ascii_small n x b.1 h)

-- a name of any length
pub record Base (n : Name) : Type 0 where
  pub passes : undotted n ≡ true
  pub small : Bytes n

joined : (n x : List ℕ) → Base n → Ascii x → Base (n ++ x)
unfolding undotted dot_allowed well_formed
joined n x p h =
    let w = both_true (characters [] n) (no_dot_of n) p.passes in
    record { passes = rw (chars_append [] n x w.0 (ascii_chars x h), dots_append n x w.1 (ascii_dots x h)); small = ascii_small n x p.small h }

ascii_letter : (b : ℕ) → Ascii (letter b)
unfolding letter
ascii_letter b = by_test (leb 65 b && leb b 90)
    (λ p.
    let w = both_true (leb 65 b) (leb b 90) p in
    let x = leb-true 65 b w.0 in
    let y = leb-true b 90 w.1 in
    rw p (one (b + 32) (omega arith) (λ e. omega arith)))
    (λ p. by_test (leb 97 b && leb b 122 || leb 48 b && leb b 57)
    (λ q. rw (p, q) (⊎_elim
    (λ v. let w = both_true (leb 97 b) (leb b 122) v in
    let x = leb-true 97 b w.0 in
    let y = leb-true b 122 w.1 in
    one b (omega arith) (λ e. omega arith))
    (λ v. let w = both_true (leb 48 b) (leb b 57) v in
    let x = leb-true 48 b w.0 in
    let y = leb-true b 57 w.1 in
    one b (omega arith) (λ e. omega arith))
    (either (leb 97 b && leb b 122) (leb 48 b && leb b 57) q)))
    (λ q. by_test (leb 128 b && leb b 191)
    (λ r. rw (p, q, r) tt)
    (λ r. rw (p, q, r) (refl, refl, tt))))

ascii_letters : (s : List ℕ) → Ascii (letters s)
unfolding letters
ascii_letters [] = tt
ascii_letters (b ∷ s) = ascii_append (letter b) (letters s) (ascii_letter b) (ascii_letters s)

ascii_segment : (l : Name) → Ascii (segment l)
unfolding segment
ascii_segment [] = (refl, refl, (refl, refl, (refl, refl, (refl, refl, tt))))
ascii_segment (b ∷ s) = ascii_letters (b ∷ s)

ascii_digits : (k n : ℕ) (acc : List ℕ) → n ≤ k → Ascii acc → Ascii (digits k n acc)
unfolding digits
ascii_digits zero n acc h a = (lt-ltb (48 + n) 128 (omega arith), ne_eqb (48 + n) 46 (λ e. omega arith), a)
ascii_digits (suc k) n acc h a = by_test (ltb n 10)
    (λ p. let x = ltb-true n 10 p in rw p (lt-ltb (48 + n) 128 (omega arith), ne_eqb (48 + n) 46 (λ e. omega arith), a))
    (λ p.
    let g : 10 ≤ n = ltb-false n 10 p in
    rw p (ascii_digits k (n / 10) ((48 + n % 10) ∷ acc) (omega arith) (lt-ltb (48 + n % 10) 128 (omega arith), ne_eqb (48 + n % 10) 46 (λ e. omega arith), a)))

ascii_decimal : (n : ℕ) → Ascii (decimal n)
unfolding decimal
ascii_decimal n = ascii_digits n n [] (le_refl n) tt

pub child_field : (n l : Name) → Base n → Base (child n (segment l))
unfolding child
child_field n l p = joined n (95 ∷ segment l) p (refl, refl, ascii_segment l)

ascii_shell : (x : Shell) → Ascii (shell_segment x)
unfolding shell_segment
ascii_shell (wrap x y) = (refl, refl, (refl, refl, (refl, refl, (refl, refl, tt))))
ascii_shell vec = (refl, refl, (refl, refl, (refl, refl, (refl, refl, tt))))
ascii_shell option = (refl, refl, (refl, refl, (refl, refl, (refl, refl, tt))))
ascii_shell (array l) = (refl, refl, (refl, refl, (refl, refl, (refl, refl, tt))))

pub child_shell : (n : Name) (x : Shell) → Base n → Base (child n (shell_segment x))
unfolding child
child_shell n x p = joined n (95 ∷ shell_segment x) p (refl, refl, ascii_shell x)

ascii_case : (k : CaseKind) (l : Name) (i : ℕ) → Ascii (case_segment k l i)
unfolding case_segment
ascii_case enums l i = ascii_segment l
ascii_case ints l i = (refl, refl, (refl, refl, (refl, refl, (refl, refl, (refl, refl, (refl, refl, ascii_decimal i))))))
ascii_case arrays l i = (refl, refl, (refl, refl, (refl, refl, (refl, refl, (refl, refl, (refl, refl, ascii_decimal i))))))

pub child_case : (n : Name) (k : CaseKind) (l : Name) (i : ℕ) → Base n → Base (child n (case_segment k l i))
unfolding child
child_case n k l i p = joined n (95 ∷ case_segment k l i) p (refl, refl, ascii_case k l i)

numbered_plain : (base : Name) (i : ℕ) → Base base → Base (numbered base i)
unfolding numbered
numbered_plain base i p = joined base (95 ∷ decimal i) p (refl, refl, ascii_decimal i)

first_plain : (base : Name) → Base base → (k i : ℕ) (taken : List Name) → Base (first_free (numbered base) k i taken)
unfolding first_free
first_plain base p zero i taken = numbered_plain base i p
first_plain base p (suc k) i taken = by_test (elem (numbered base i) taken)
    (λ q. rw q (first_plain base p k (suc i) taken))
    (λ q. rw q (numbered_plain base i p))

pub fresh_plain : (base : Name) (taken : List Name) → Base base → Base (fresh base taken)
unfolding fresh
fresh_plain base taken p = by_test (elem base taken)
    (λ q. rw q (first_plain base p (length taken) 0 taken))
    (λ q. rw q p)
