-- Sizes cut at 65,535.
use mathlib.Core.Path.{◌≡◌, refl, sym, ap, ◌∙◌}
use mathlib.Core.Bool.{Bool, true, false}
use mathlib.Core.List.{List, []}
use Prim.Native.Nat.{ℕ, ◌+◌, ◌≤◌, min}
use native.Mathlib.Omega.{arith}
use lib.Dec.{leb}
use lib.ListN.{length}
use borrow.Author.Tests.{leb-true, leb-false, lt-leb}
use Rattle.definition.specs.Tree.{Name, Text, Shell, Selector, CaseKind, FieldKind, Combinator, plain, chained, Inner, struct, choice, shell, Fields, no_field, field, const, Cases, no_case, case}
use Rattle.definition.specs.Write.{w_name, w_text, w_selector, w_label, w_open, w_shut, w_fields, w_cases}
use Rattle.definition.specs.Size.{size}
use Rattle.definition.specs.Macros.{inner_of}
use Rattle.laws.proofs.Sizes.{size_i, size_f, size_c, size-plain, size-chained, size_struct, size_choice, size-shell, size-field, size_constant, size-case}
use Rattle.lift_tables.specs.tables.Numbers.{plus}
use Rattle.lift_combinator.specs.naming.Walk.{Extent, called}

unfoldable pub cut : ℕ → ℕ
cut n = min n 65535

-- what a combinator takes
unfoldable pub extent : Combinator → Extent
extent c = record { whole = cut (size c); inner = cut (size_i (inner_of c)) }

extent_is : {a b c d : ℕ} → a ≡ c → b ≡ d → ◌≡◌ {A = Extent} (record { whole = a; inner = b }) (record { whole = c; inner = d })
extent_is e f = rw (e, f)

pub cut_once : (n : ℕ) → plus 0 n ≡ cut n
unfolding plus cut
cut_once n = omega arith

pub cut-plain : (k : ℕ) (i : Inner) → k ≡ cut (size_i i) → ◌≡◌ {A = Extent} (record { whole = plus (plus k 1) 0; inner = k }) (extent (plain i))
unfolding extent plus cut inner_of
cut-plain k i e = extent_is (omega (arith, size-plain i)) e

pub cut-chained : (z : Extent) (k : ℕ) (i : Inner) (c : Combinator) → z ≡ extent c → k ≡ cut (size_i i) → ◌≡◌ {A = Extent} (record { whole = plus (plus k 1) z.whole; inner = k }) (extent (chained i c))
unfolding extent plus cut inner_of
cut-chained z k i c f e = let w : z.whole ≡ min (size c) 65535 = ap (λ z. z.whole) f in extent_is (omega (arith, size-chained i c)) e

pub cut-struct : (k : ℕ) (f : Fields) → k ≡ cut (3 + size_f f) → k ≡ cut (size_i (struct f))
cut-struct k f e = rw (size_struct f) e

pub cut-choice : (k : ℕ) (s : Selector) (x : CaseKind) (f : Cases) → k ≡ cut (length (w_selector s []) + 4 + size_c f x) → k ≡ cut (size_i (choice s x f))
cut-choice k s x f e = rw (size_choice s x f) e

pub cut-shell : (z : Extent) (x : Shell) (c : Combinator) → z ≡ extent c → plus (plus (plus 0 (length (w_open x []))) z.whole) (length (w_shut x [])) ≡ cut (size_i (shell x c))
unfolding extent plus cut
cut-shell z x c f = let w : z.whole ≡ min (size c) 65535 = ap (λ z. z.whole) f in omega (arith, size-shell x c)

pub cut_no_field : (done : ℕ) → plus done 0 ≡ cut (done + size_f no_field)
unfolding plus cut size_f w_fields
cut_no_field done = omega arith

pub cut_field : (done k : ℕ) (z : Extent) (x : FieldKind) (l : Name) (c : Combinator) (f : Fields) → z ≡ extent c → k ≡ cut (plus (plus done (1 + length (w_name l []))) z.whole + size_f f) → k ≡ cut (done + size_f (field x l c f))
unfolding extent plus cut
cut_field done k z x l c f g e = let w : z.whole ≡ min (size c) 65535 = ap (λ z. z.whole) g in omega (arith, size-field x l c f)

pub cut-const : (done k : ℕ) (l : Name) (x : Text) (f : Fields) → k ≡ cut (plus done (1 + length (w_name l []) + length (w_text x [])) + size_f f) → k ≡ cut (done + size_f (const l x f))
unfolding plus cut
cut-const done k l x f e = omega (arith, size_constant l x f)

pub cut_no_case : (done : ℕ) (x : CaseKind) → plus done 0 ≡ cut (done + size_c no_case x)
unfolding plus cut size_c w_cases
cut_no_case done x = omega arith

pub cut-case : (done k : ℕ) (z : Extent) (x : CaseKind) (l : List ℕ) (c : Combinator) (f : Cases) → z ≡ extent c → k ≡ cut (plus (plus done (length (w_label x l []))) z.whole + size_c f x) → k ≡ cut (done + size_c (case l c f) x)
unfolding extent plus cut
cut-case done k z x l c f g e = let w : z.whole ≡ min (size c) 65535 = ap (λ z. z.whole) g in omega (arith, size-case l c f x)

-- a call is never cut
pub cut_called : (k : ℕ) (i : Inner) → k ≡ size (plain i) → k ≤ 16384 → called k ≡ extent (plain i)
unfolding extent cut inner_of
cut_called k i e h = extent_is (omega arith) (omega (arith, size-plain i))

-- the same sum, or both past every limit
pub data Near (a b : ℕ) : Type 0 where
  exact : a ≡ b → Near a b
  past : 65535 ≤ a → 65535 ≤ b → Near a b

pub near_cut : (n : ℕ) → Near (cut n) n
unfolding cut
near_cut n = of (leb n 65535) refl
  where
    of : (b : Bool) → leb n 65535 ≡ b → Near (min n 65535) n
    of true e = let h = leb-true n 65535 e in exact (omega arith)
    of false e = let h = leb-false n 65535 e in past (omega arith) (omega arith)

pub near_sum : {a b c d : ℕ} → Near a b → Near c d → Near (a + c) (b + d)
near_sum (exact e) (exact f) = exact (omega arith)
near_sum (exact e) (past g h) = past (omega arith) (omega arith)
near_sum (past g h) f = past (omega arith) (omega arith)

-- code 10's test says the same of both, and where it passes they are equal
pub near_test : (k : ℕ) {a b : ℕ} → Near a b → leb (k + a) 16384 ≡ leb (k + b) 16384
near_test k (exact e) = rw e
near_test k {a} {b} (past g h) = lt-leb (k + a) 16384 (omega arith) ∙ sym (lt-leb (k + b) 16384 (omega arith))

pub near_exact : (k : ℕ) {a b : ℕ} → Near a b → k + a ≤ 16384 → a ≡ b
near_exact k (exact e) h = e
near_exact k (past i j) h = absurd (omega arith)
