-- Sizes add up.
use mathlib.Core.Path.{◌≡◌, refl, ap, ◌∙◌}
use mathlib.Core.List.{List, [], ◌∷◌, ◌++◌, map}
use Prim.Native.Nat.{◌≤◌, ◌<◌, ℕ, ◌+◌, ◌*◌}
use native.Mathlib.Omega.{arith}
use lib.ListN.{length, length-append}
use Rattle.definition.specs.Tree.{Name, Text, Shell, wrap, vec, option, array, Selector, CaseKind, FieldKind, Combinator, plain, chained, Inner, leaf, struct, choice, shell, bytes, invocation, macro_invocation, Fields, field, const, Cases, case, Param, Definition, format}
use Rattle.definition.specs.Write.{w_u16, w_name, w_text, w_all, w_list, w_selector, case_byte, w_label, w_open, w_shut, count_c, w_combinator, w_inner, w_fields, w_cases, w_param, w_definition, size_of, w_entries, w_parts, entry_of, w_book}
use Rattle.definition.specs.Size.{size, size_book}
use Rattle.laws.proofs.Splits.{Splits, s_name, s_text, s_list, s_selector, s_label, s_open, s_comb, s_inner, s_param, s_definition}

-- what is written in front of a list is as long whatever follows
pub adds : (w : List ℕ → List ℕ) → Splits w → (r : List ℕ) → length (w r) ≡ length (w []) + length r
adds w h r = ap length (h [] r) ∙ length-append (w []) r

pub length_u16 : (n : ℕ) → length (w_u16 n []) ≡ 2
unfolding w_u16
length_u16 n = refl

-- sizes of the parts
unfoldable pub size_i : Inner → ℕ
size_i i = length (w_inner i [])

unfoldable pub size_f : Fields → ℕ
size_f f = length (w_fields f [])

unfoldable pub size_c : Cases → CaseKind → ℕ
size_c f k = length (w_cases f k [])

pub size-plain : (i : Inner) → size (plain i) ≡ size_i i + 1
unfolding size size_i w_combinator
size-plain i = omega (arith, adds (w_inner i) (s_inner i) (0 ∷ []))

pub size-chained : (i : Inner) (c : Combinator) → size (chained i c) ≡ size_i i + 1 + size c
unfolding size size_i w_combinator
size-chained i c = omega (arith, adds (w_inner i) (s_inner i) (1 ∷ w_combinator c []))

pub size_struct : (f : Fields) → size_i (struct f) ≡ 3 + size_f f
unfolding size_i size_f w_combinator w_u16
size_struct f = omega arith

pub size_choice : (s : Selector) (k : CaseKind) (f : Cases) → size_i (choice s k f) ≡ length (w_selector s []) + 4 + size_c f k
unfolding size_i size_c w_combinator w_u16
size_choice s k f = omega (arith, adds (w_selector s) (s_selector s) (case_byte k ∷ w_u16 (count_c f) (w_cases f k [])))

pub size-shell : (x : Shell) (c : Combinator) → size_i (shell x c) ≡ length (w_open x []) + length (w_shut x []) + size c
unfolding size size_i w_combinator
size-shell x c = omega (arith, adds (w_open x) (s_open x) (w_combinator c (w_shut x [])), adds (w_combinator c) (s_comb c) (w_shut x []))

pub size-field : (k : FieldKind) (l : Name) (c : Combinator) (f : Fields) → size_f (field k l c f) ≡ 1 + length (w_name l []) + size c + size_f f
unfolding size size_f w_combinator
size-field k l c f = omega (arith, adds (w_name l) (s_name l) (w_combinator c (w_fields f [])), adds (w_combinator c) (s_comb c) (w_fields f []))

pub size_constant : (l : Name) (x : Text) (f : Fields) → size_f (const l x f) ≡ 1 + length (w_name l []) + length (w_text x []) + size_f f
unfolding size_f w_combinator
size_constant l x f = omega (arith, adds (w_name l) (s_name l) (w_text x (w_fields f [])), adds (w_text x) (s_text x) (w_fields f []))

pub size-case : (l : List ℕ) (c : Combinator) (f : Cases) (k : CaseKind) → size_c (case l c f) k ≡ length (w_label k l []) + size c + size_c f k
unfolding size size_c w_combinator
size-case l c f k = omega (arith, adds (w_label k l) (s_label k l) (w_combinator c (w_cases f k [])), adds (w_combinator c) (s_comb c) (w_cases f k []))

-- each takes a byte at least
pub size_some : (c : Combinator) → 0 < size c
size_some (plain i) = omega (arith, size-plain i)
size_some (chained i c) = omega (arith, size-chained i c)

pub open-some : (x : Shell) → 0 < length (w_open x [])
unfolding w_open
open-some (wrap x y) = omega arith
open-some vec = omega arith
open-some option = omega arith
open-some (array l) = omega arith

pub size_i_some : (i : Inner) → 0 < size_i i
unfolding size_i w_combinator w_open
size_i_some (leaf k x) = omega arith
size_i_some (struct f) = omega arith
size_i_some (choice s k f) = omega arith
size_i_some (shell x c) = omega (arith, size-shell x c, open-some x)
size_i_some (bytes l) = omega arith
size_i_some (invocation n a) = omega arith
size_i_some (macro_invocation n a) = omega arith

-- a format's size apart from its body
unfoldable pub head : Name → List Param → ℕ
head n ps = length (w_name n []) + length (w_list w_param ps [])

pub size-format : (n : Name) (ps : List Param) (c : Combinator) → size_of (format n ps c) ≡ head n ps + size c
unfolding size_of w_definition size head
size-format n ps c = omega (arith, adds (w_name n) (s_name n) (w_list w_param ps (w_combinator c [])), adds (w_list w_param ps) (s_list w_param s_param ps) (w_combinator c []))

-- what definitions take in a book: their entries and their bodies
unfoldable pub room : List Definition → ℕ
room [] = 0
room (d ∷ ds) = 6 + size_of d + room ds

pub room-append : (a b : List Definition) → room (a ++ b) ≡ room a + room b
unfolding room
room-append [] b = omega arith
room-append (d ∷ a) b = omega (arith, room-append a b)

pub room_least : (ds : List Definition) → 6 * length ds ≤ room ds
unfolding room
room_least [] = omega arith
room_least (d ∷ ds) = omega (arith, room_least ds)

size_entries : (at : ℕ) (ds : List Definition) (r : List ℕ) → length (w_entries at (map entry_of ds) r) ≡ 6 * length ds + length r
unfolding w_entries w_u16 entry_of
size_entries at [] r = omega arith
size_entries at (d ∷ ds) r = omega (arith, size_entries (at + size_of d) ds r)

pub size_bodies : (ds : List Definition) → length (w_all w_definition ds []) + 6 * length ds ≡ room ds
unfolding w_all room size_of
size_bodies [] = omega arith
size_bodies (d ∷ ds) = omega (arith, adds (w_definition d) (s_definition d) (w_all w_definition ds []), size_bodies ds)

pub size_book_lem : (ds : List Definition) → size_book ds ≡ 2 + room ds
unfolding size_book w_book w_parts w_u16
size_book_lem ds = omega (arith, size_entries (2 + 6 * length (map entry_of ds)) ds (w_all w_definition ds []), size_bodies ds)
