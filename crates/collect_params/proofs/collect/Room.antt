-- Each use takes a byte at least: a table with as many places as the book has bytes holds the uses of any combinator in it.
-- Assumes nothing.
use mathlib.Core.Path.{◌≡◌, refl}
use mathlib.Core.Logic.{⊎_elim}
use mathlib.Core.List.{List, [], ◌∷◌, map}
use mathlib.Core.Bool.{Bool, true, false}
use Prim.Native.Nat.{ℕ, suc, ◌+◌, ◌≤◌}
use native.Mathlib.Omega.{arith}
use lib.ListN.{length, length-append}
use Rattle.definition.specs.Tree.{Name, Len, Shell, wrap, vec, option, array, Selector, none, by, CaseKind, FieldKind, ordinary, dependent, Combinator, plain, chained, Inner, leaf, struct, choice, shell, bytes, invocation, macro_invocation, Fields, no_field, field, const, Cases, no_case, case}
use Rattle.definition.specs.Names.{eq_name, remove, root}
use Rattle.definition.specs.Write.{w_u16, w_name, w_text, w_all, w_list, w_len, w_selector, w_label, w_open, w_shut, case_byte, count_f, count_c, count_a, w_combinator, w_inner, w_fields, w_cases, w_inners}
use Rattle.definition.specs.Collect.{only, bytes_or_tail, selector_uses, shell_uses, unbound, free, free_i, free_f, free_c}
use Rattle.laws.proofs.Tests.{yes_no}
use Rattle.laws.proofs.Sizes.{adds}
use Rattle.laws.proofs.Splits.{s_u16, s_name, s_text, s_list, s_len, s_selector, s_label, s_comb, s_fields, s_cases, s_inners}

remove_short : (l : Name) (ns : List Name) → length (remove l ns) ≤ length ns
unfolding remove
remove_short l [] = omega arith
remove_short l (n ∷ ns) = ⊎_elim
    (λ (e : eq_name l n ≡ true). rw e (let h = remove_short l ns in omega arith))
    (λ (e : eq_name l n ≡ false). rw e (let h = remove_short l ns in omega arith))
    (yes_no (eq_name l n))

unbound_short : (k : FieldKind) (l : Name) (ns : List Name) → length (unbound k l ns) ≤ length ns
unfolding unbound
unbound_short ordinary l ns = omega arith
unbound_short dependent l ns = remove_short l ns

only_short : (b : Bool) (ns : List Name) → length (only b ns) ≤ length ns
only_short true ns = omega arith
only_short false ns = omega arith

roots_long : (a : List Name) → length (map root a) ≡ length a
roots_long [] = refl
roots_long (n ∷ a) = let h = roots_long a in omega arith

names_room : (ns : List Name) (z : List ℕ) → length ns + length z ≤ length (w_all w_name ns z)
unfolding w_all w_name
names_room [] z = omega arith
names_room (n ∷ ns) z = let h = names_room ns z in omega (arith, length-append n (w_all w_name ns z))

list_room : (ns : List Name) (z : List ℕ) → length ns + length z ≤ length (w_list w_name ns z)
unfolding w_list w_u16
list_room ns z = let h = names_room ns z in omega arith

len_room : (l : Len) (z : List ℕ) → length l.roots + length z ≤ length (w_len l z)
unfolding w_len
len_room l z = omega (arith, list_room l.roots (w_text l.text z), adds (w_text l.text) (s_text l.text) z)

selector_room : (x : Selector) (z : List ℕ) → length (selector_uses x) + length z ≤ length (w_selector x z)
unfolding selector_uses w_selector
selector_room none z = omega arith
selector_room (by n) z = omega (arith, adds (w_name n) (s_name n) z)

shell_room : (x : Shell) (z : List ℕ) → length (shell_uses x) + length z ≤ length (w_open x z)
unfolding shell_uses w_open
shell_room (wrap x y) z = omega (arith, adds (w_text x) (s_text x) z)
shell_room vec z = omega arith
shell_room option z = omega arith
shell_room (array l) z = let h = len_room l z in omega arith

shell_long : (x : Shell) (z : List ℕ) → suc (length z) ≤ length (w_open x z)
unfolding w_open
shell_long (wrap x y) z = omega (arith, adds (w_text x) (s_text x) z)
shell_long vec z = omega arith
shell_long option z = omega arith
shell_long (array l) z = omega (arith, adds (w_len l) (s_len l) z)

shut_room : (x : Shell) (z : List ℕ) → length z ≤ length (w_shut x z)
unfolding w_shut
shut_room (wrap x y) z = omega (arith, adds (w_text y) (s_text y) z)
shut_room vec z = omega arith
shut_room option z = omega arith
shut_room (array l) z = omega arith

mutual
  unfolding free w_combinator w_u16

  pub free_room : (c : Combinator) (z : List ℕ) → length (free c) + length z ≤ length (w_combinator c z)
  free_room (plain i) z = let h = room_inner i (0 ∷ z) in omega arith
  free_room (chained i c) z =
      simp length-append (omega (arith, room_inner i (1 ∷ w_combinator c z), free_room c z, only_short (bytes_or_tail i) (free c)))

  room_inner : (i : Inner) (z : List ℕ) → length (free_i i) + length z ≤ length (w_inner i z)
  room_inner (leaf k x) z = omega (arith, adds (w_text x) (s_text x) z)
  room_inner (struct f) z = let h = room_fields f z in omega arith
  room_inner (choice x k f) z = simp length-append (omega (arith, selector_room x (case_byte k ∷ w_u16 (count_c f) (w_cases f k z)), room_cases f k z))
  room_inner (shell x c) z = simp length-append (omega (arith, shell_room x (w_combinator c (w_shut x z)), free_room c (w_shut x z), shut_room x z))
  room_inner (bytes l) z = let h = len_room l z in omega arith
  room_inner (invocation n a) z = omega (arith, roots_long a, list_room a z, adds (w_name n) (s_name n) (w_list w_name a z))
  room_inner (macro_invocation n a) z = omega (arith, adds (w_name n) (s_name n) (w_u16 (count_a a) (w_inners a z)), adds (w_inners a) (s_inners a) z)

  room_fields : (f : Fields) (z : List ℕ) → length (free_f f) + length z ≤ length (w_fields f z)
  room_fields no_field z = omega arith
  room_fields (field k l c f) z =
      simp length-append (omega (arith, adds (w_name l) (s_name l) (w_combinator c (w_fields f z)), free_room c (w_fields f z), room_fields f z, unbound_short k l (free_f f)))
  room_fields (const l x f) z =
      omega (arith, adds (w_name l) (s_name l) (w_text x (w_fields f z)), adds (w_text x) (s_text x) (w_fields f z), room_fields f z)

  room_cases : (f : Cases) (k : CaseKind) (z : List ℕ) → length (free_c f) + length z ≤ length (w_cases f k z)
  room_cases no_case k z = omega arith
  room_cases (case l c f) k z =
      simp length-append (omega (arith, adds (w_label k l) (s_label k l) (w_combinator c (w_cases f k z)), free_room c (w_cases f k z), room_cases f k z))

pub name_long : (n : Name) (z : List ℕ) → suc (length z) ≤ length (w_name n z)
unfolding w_name
name_long n z = omega (arith, length-append n z)

-- an inner has its tag, and a combinator a tag and a flag at least
inner_long : (i : Inner) (z : List ℕ) → suc (length z) ≤ length (w_inner i z)
unfolding w_inner w_open
inner_long (leaf k x) z = omega (arith, adds (w_text x) (s_text x) z)
inner_long (struct f) z = omega (arith, adds (w_u16 (count_f f)) (s_u16 (count_f f)) (w_fields f z), adds (w_fields f) (s_fields f) z)
inner_long (choice x k f) z = omega (arith, adds (w_selector x) (s_selector x) (case_byte k ∷ w_u16 (count_c f) (w_cases f k z)), adds (w_u16 (count_c f)) (s_u16 (count_c f)) (w_cases f k z), adds (w_cases f k) (s_cases f k) z)
inner_long (shell x c) z = omega (arith, shell_long x (w_combinator c (w_shut x z)), adds (w_combinator c) (s_comb c) (w_shut x z), shut_room x z)
inner_long (bytes l) z = omega (arith, adds (w_len l) (s_len l) z)
inner_long (invocation n a) z = omega (arith, adds (w_name n) (s_name n) (w_list w_name a z), adds (w_list w_name a) (s_list w_name s_name a) z)
inner_long (macro_invocation n a) z = omega (arith, adds (w_name n) (s_name n) (w_u16 (count_a a) (w_inners a z)), adds (w_u16 (count_a a)) (s_u16 (count_a a)) (w_inners a z), adds (w_inners a) (s_inners a) z)

pub combinator_long : (c : Combinator) (z : List ℕ) → 2 + length z ≤ length (w_combinator c z)
unfolding w_combinator
combinator_long (plain i) z = let h = inner_long i (0 ∷ z) in omega arith
combinator_long (chained i c) z = omega (arith, inner_long i (1 ∷ w_combinator c z), adds (w_combinator c) (s_comb c) z)
