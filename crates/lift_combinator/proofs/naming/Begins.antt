-- Where the children of an inner begin.
-- Assumes nothing.
use mathlib.Core.Path.{◌≡◌, refl}
use mathlib.Core.List.{List, [], ◌∷◌}
use Prim.Native.Nat.{ℕ, ◌+◌, ◌≤◌}
use native.Mathlib.Omega.{arith}
use lib.Dec.{eqb}
use lib.ListN.{length}
use Rattle.definition.specs.Tree.{Leaf, constraint_int, constraint_enum, bits, enum, tail, nothing, never, Shell, wrap, vec, option, array, CaseKind, enums, ints, arrays, Selector, none, by, Combinator, Inner, leaf, struct, choice, shell, bytes, invocation, macro_invocation, Fields, no_field, field, const, Cases, no_case, case}
use Rattle.definition.specs.Write.{w_u16, w_name, w_text, w_selector, w_len, w_list, w_open, w_shut, leaf_tag, case_byte, count_f, count_c, count_a, w_inner, w_combinator, w_fields, w_cases, w_inners}
use Rattle.laws.proofs.Sizes.{adds, size_some, size_i_some, size_f, size_c, size_struct, size_choice, size-field, size_constant, size-case}
use Rattle.laws.proofs.Splits.{s_selector}
use Rattle.layout.specs.items.At.{byte_at, past_at, number_at, selector_past_of, pick}
use Rattle.layout.specs.items.Here.{Here}
use Rattle.layout.proofs.items.Here.{here_length, byte_here, next_here, number_here, number_past, name_here}
use Rattle.lift_combinator.specs.frames.Frames.{start, cases_begin, begin_at}
use Rattle.lift_combinator.specs.naming.Nodes.{rest_of, skip}
use Rattle.lift_combinator.specs.declared.frames.Kind.TheVariants as kind
use Rattle.lift_combinator.specs.naming.Frames.{kind_of, RestIs, Begins}

begin_leaf : (k : Leaf) (x z : List ℕ) {s : List ℕ} {p : ℕ} → Here s p (leaf_tag k ∷ w_text x z) → begin_at s p ≡ start p kind.Nothing 0
unfolding begin_at leaf_tag
begin_leaf constraint_int x z h = rw (byte_here h)
begin_leaf constraint_enum x z h = rw (byte_here h)
begin_leaf bits x z h = rw (byte_here h)
begin_leaf enum x z h = rw (byte_here h)
begin_leaf tail x z h = rw (byte_here h)
begin_leaf nothing x z h = rw (byte_here h)
begin_leaf never x z h = rw (byte_here h)

begin_shell : (x : Shell) (c : Combinator) (z : List ℕ) {s : List ℕ} {p : ℕ} → Here s p (w_open x (w_combinator c z)) → begin_at s p ≡ start p kind.One 1
unfolding begin_at w_open
begin_shell (wrap a b) c z h = rw (byte_here h)
begin_shell vec c z h = rw (byte_here h)
begin_shell option c z h = rw (byte_here h)
begin_shell (array l) c z h = rw (byte_here h)

module _ {s : List ℕ} {p : ℕ} (z : List ℕ) where
  begin_bytes : Here s p (10 ∷ z) → begin_at s p ≡ start p kind.Nothing 0
  unfolding begin_at
  begin_bytes h = rw (byte_here h)

  begin_call : Here s p (15 ∷ z) → begin_at s p ≡ start p kind.Nothing 0
  unfolding begin_at
  begin_call h = rw (byte_here h)

  begin_macro : Here s p (16 ∷ z) → begin_at s p ≡ start p kind.Nothing 0
  unfolding begin_at
  begin_macro h = rw (byte_here h)

begin_struct : (n : ℕ) {s : List ℕ} {p : ℕ} (z : List ℕ) → Here s p (4 ∷ w_u16 n z) → begin_at s p ≡ start (past_at s (past_at s p 1) 2) kind.Fields n
unfolding begin_at
begin_struct n z h = rw (byte_here h, number_here n z (next_here h))

begin_cases : (k : CaseKind) {s : List ℕ} {a : ℕ} (f : Cases) (z : List ℕ) → Here s a (case_byte k ∷ w_u16 (count_c f) (w_cases f k z))
    → pick (eqb (byte_at s a) 1) (start (past_at s (past_at s a 1) 2) kind.Enums (number_at s (past_at s a 1)))
    (pick (eqb (byte_at s a) 2) (start (past_at s (past_at s a 1) 2) kind.Ints (number_at s (past_at s a 1))) (start (past_at s (past_at s a 1) 2) kind.Arrays (number_at s (past_at s a 1))))
    ≡ start (past_at s (past_at s a 1) 2) (kind_of k) (count_c f)
unfolding case_byte kind_of
begin_cases enums f z h = rw (byte_here h, number_here (count_c f) (w_cases f enums z) (next_here h))
begin_cases ints f z h = rw (byte_here h, number_here (count_c f) (w_cases f ints z) (next_here h))
begin_cases arrays f z h = rw (byte_here h, number_here (count_c f) (w_cases f arrays z) (next_here h))

-- the selector as calls has it
selector_is : (x : Selector) {s : List ℕ} {p : ℕ} {z : List ℕ} → Here s p (w_selector x z) → Here s (selector_past_of s p) z
unfolding w_selector selector_past_of
selector_is none h = rw (byte_here h) (next_here h)
selector_is (by n) h = rw (byte_here h) (name_here n (next_here h))

begin_choice : (x : Selector) (k : CaseKind) (f : Cases) {s : List ℕ} {p : ℕ} (z : List ℕ) → Here s p (7 ∷ w_selector x (case_byte k ∷ w_u16 (count_c f) (w_cases f k z)))
    → begin_at s p ≡ start (past_at s (past_at s (selector_past_of s (past_at s p 1)) 1) 2) (kind_of k) (count_c f)
unfolding begin_at cases_begin
begin_choice x k f z h = rw (byte_here h) (begin_cases k f z (selector_is x (next_here h)))

-- what stands before the children
before_fields : (n : ℕ) (z : List ℕ) → length (4 ∷ w_u16 n z) ≡ 3 + length z
unfolding w_u16
before_fields n z = omega arith

before_cases : (x : Selector) (b n : ℕ) (z : List ℕ) → length (7 ∷ w_selector x (b ∷ w_u16 n z)) ≡ length (w_selector x []) + 4 + length z
unfolding w_u16
before_cases x b n z = omega (arith, adds (w_selector x) (s_selector x) (b ∷ w_u16 n z))

-- each child takes a byte at least
fields_few : (f : Fields) → count_f f ≤ size_f f
unfolding count_f
fields_few no_field = omega arith
fields_few (field k l c f) = omega (arith, size-field k l c f, fields_few f)
fields_few (const l x f) = omega (arith, size_constant l x f, fields_few f)

cases_few : (f : Cases) (k : CaseKind) → count_c f ≤ size_c f k
unfolding count_c
cases_few no_case k = omega arith
cases_few (case l c f) k = omega (arith, size-case l c f k, size_some c, cases_few f k)

pub begins : (i : Inner) (z : List ℕ) {s : List ℕ} {p : ℕ} → Here s p (w_inner i z) → Begins s z p i (begin_at s p)
unfolding RestIs rest_of skip w_combinator
begins (leaf k x) z {s} {p} h = rw (begin_leaf k x z h) (record { here = omega arith; rest = refl; few = omega arith })
begins (struct f) z {s} {p} h =
    let b = number_past (count_f f) (next_here h) in
    rw (begin_struct (count_f f) (w_fields f z) h) (record { here = omega (arith, here_length h, here_length b, before_fields (count_f f) (w_fields f z)); rest = (b, refl, refl); few = omega (arith, size_struct f, fields_few f) })
begins (choice x k f) z {s} {p} h =
    let d = number_past (count_c f) (next_here (selector_is x (next_here h))) in
    rw (begin_choice x k f z h) (record { here = omega (arith, here_length h, here_length d, before_cases x (case_byte k) (count_c f) (w_cases f k z)); rest = (d, refl, refl, refl); few = omega (arith, size_choice x k f, cases_few f k) })
begins (shell x c) z {s} {p} h = rw (begin_shell x c (w_shut x z) h) (record { here = omega arith; rest = (h, refl, refl); few = omega (arith, size_i_some (shell x c)) })
begins (bytes l) z {s} {p} h = rw (begin_bytes (w_len l z) h) (record { here = omega arith; rest = refl; few = omega arith })
begins (invocation n a) z {s} {p} h = rw (begin_call (w_name n (w_list w_name a z)) h) (record { here = omega arith; rest = refl; few = omega arith })
begins (macro_invocation n a) z {s} {p} h = rw (begin_macro (w_name n (w_u16 (count_a a) (w_inners a z))) h) (record { here = omega arith; rest = refl; few = omega arith })
