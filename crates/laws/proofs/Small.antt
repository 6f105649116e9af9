-- What is written of a list that a book can hold is bytes: lengths and counts are below 65,536, since no more than that is written.
use mathlib.Core.List.{List, [], ◌∷◌, ◌++◌, map}
use mathlib.Core.Bool.{Bool}
use Prim.Native.Nat.{ℕ, ◌+◌, ◌*◌, ◌≤◌, ◌<◌}
use native.Mathlib.Omega.{arith}
use lib.ListN.{length, length-map}
use Rattle.definition.specs.Tree.{Name, Text, Leaf, constraint_int, constraint_enum, bits, enum, tail, nothing, never, Len, Shell, wrap, vec, option, array, Selector, none, by, CaseKind, enums, ints, arrays, FieldKind, ordinary, dependent, Combinator, plain, chained, Inner, leaf, struct, choice, shell, bytes, invocation, macro_invocation, Fields, no_field, field, const, Cases, no_case, case, Inners, no_inner, inner, Param, Kind, is_format, is_constant, is_byte_order, is_macro, Definition, format, constant, byte_order, macro}
use Rattle.definition.specs.Read.{dot_allowed, undotted}
use Rattle.definition.specs.Write.{w_u16, w_name, w_text, w_all, w_list, w_len, w_selector, case_byte, w_label, leaf_tag, field_byte, w_open, w_shut, count_f, count_c, count_a, w_combinator, w_inner, w_fields, w_cases, w_inners, w_param, w_definition, kind_of, kind_byte, size_of, w_entries, w_parts, entry_of, w_book}
use Rattle.laws.specs.Book.{Bytes, Named, AllNamed, GoodLen, GoodS, GoodL, GoodShell, Good, GoodI, GoodF, GoodC, GoodA, GoodP, GoodD, GoodAll, IsBook}
use Rattle.laws.proofs.Sizes.{room, size_book_lem, size_bodies, room_least}

-- w puts at least n bytes in front of what follows, and nothing else
record Puts (n : ℕ) (w : List ℕ → List ℕ) : Type 0 where
  least : (r : List ℕ) → n + length r ≤ length (w r)
  small : (r : List ℕ) → length (w r) ≤ 65535 → Bytes r → Bytes (w r)

at_least : {n m : ℕ} {w : List ℕ → List ℕ} → Puts m w → n ≤ m → Puts n w
at_least p h = record { least = λ r. omega (arith, p.least r); small = p.small }

after : {n m : ℕ} {v w : List ℕ → List ℕ} → Puts n v → Puts m w → Puts (n + m) (λ r. v (w r))
after {w = w} p q = record { least = λ r. omega (arith, p.least (w r), q.least r); small = λ r h b. p.small (w r) h (q.small r (omega (arith, p.least (w r))) b) }

-- a count of what follows it
counted : (n : ℕ) {w : List ℕ → List ℕ} → Puts n w → Puts n (λ r. w_u16 n (w r))
unfolding w_u16
counted n p = record { least = λ r. omega (arith, p.least r); small = λ r h b. (omega arith, (omega (arith, p.least r), p.small r (omega arith) b)) }

p_none : Puts 0 (λ r. r)
p_none = record { least = λ r. omega arith; small = λ r h b. b }

p_byte : (b : ℕ) → b < 256 → Puts 1 (λ r. b ∷ r)
p_byte b h = record { least = λ r. omega arith; small = λ r g c. (h, c) }

p_bytes : (x : List ℕ) → Bytes x → Puts (length x) (λ r. x ++ r)
p_bytes [] h = record { least = λ r. omega arith; small = λ r g b. b }
p_bytes (b ∷ x) h = let p = p_bytes x h.1 in record { least = λ r. omega (arith, p.least r); small = λ r g c. (h.0, p.small r (omega arith) c) }

p_text : (x : Text) → Bytes x → Puts 0 (w_text x)
unfolding w_text
p_text x h = at_least (counted (length x) (p_bytes x h)) (omega arith)

p_name : {test : List ℕ → Bool} (n : Name) → Named test n → Puts 1 (w_name n)
unfolding w_name
p_name n h = at_least (after (p_byte (length n) (omega (arith, h.short))) (p_bytes n h.small)) (omega arith)

p_names : (test : List ℕ → Bool) (ns : List Name) → AllNamed test ns → Puts (length ns) (w_all w_name ns)
unfolding w_all
p_names test [] h = p_none
p_names test (n ∷ ns) h = at_least (after (p_name n h.0) (p_names test ns h.1)) (omega arith)

p_list : {A : Type 0} (w : A → List ℕ → List ℕ) (xs : List A) → Puts (length xs) (w_all w xs) → Puts 0 (w_list w xs)
unfolding w_list
p_list w xs p = at_least (counted (length xs) p) (omega arith)

p_len : (l : Len) → GoodLen l → Puts 0 (w_len l)
unfolding w_len
p_len l h = after (p_list w_name l.roots (p_names undotted l.roots h.0)) (p_text l.text h.1)

p_selector : (s : Selector) → GoodS s → Puts 1 (w_selector s)
unfolding w_selector
p_selector none h = p_byte 0 (omega arith)
p_selector (by n) h = at_least (after (p_byte 1 (omega arith)) (p_name n h)) (omega arith)

p_label : (k : CaseKind) (l : List ℕ) → GoodL k l → Puts 0 (w_label k l)
unfolding w_label
p_label enums l h = at_least (p_name l h) (omega arith)
p_label ints l h = p_text l h
p_label arrays l h = p_text l h

p_open : (x : Shell) → GoodShell x → Puts 1 (w_open x)
unfolding w_open
p_open (wrap x y) h = after (p_byte 5 (omega arith)) (p_text x h.0)
p_open vec h = p_byte 8 (omega arith)
p_open option h = p_byte 12 (omega arith)
p_open (array l) h = after (p_byte 9 (omega arith)) (p_len l h)

p_shut : (x : Shell) → GoodShell x → Puts 0 (w_shut x)
unfolding w_shut
p_shut (wrap x y) h = p_text y h.1
p_shut vec h = p_none
p_shut option h = p_none
p_shut (array l) h = p_none

-- the bytes of the tables
leaf_small : (k : Leaf) → leaf_tag k < 256
unfolding leaf_tag
leaf_small constraint_int = omega arith
leaf_small constraint_enum = omega arith
leaf_small bits = omega arith
leaf_small enum = omega arith
leaf_small tail = omega arith
leaf_small nothing = omega arith
leaf_small never = omega arith

case_small : (k : CaseKind) → case_byte k < 256
unfolding case_byte
case_small enums = omega arith
case_small ints = omega arith
case_small arrays = omega arith

field_small : (k : FieldKind) → field_byte k < 256
unfolding field_byte
field_small ordinary = omega arith
field_small dependent = omega arith

kind_small : (k : Kind) → kind_byte k < 256
unfolding kind_byte
kind_small is_format = omega arith
kind_small is_constant = omega arith
kind_small is_byte_order = omega arith
kind_small is_macro = omega arith

mutual
  unfolding w_combinator count_f count_c count_a

  p_comb : (c : Combinator) → Good c → Puts 1 (w_combinator c)
  p_comb (plain i) g = at_least (after (p_inner i g) (p_byte 0 (omega arith))) (omega arith)
  p_comb (chained i c) g = at_least (after (p_inner i g.0) (after (p_byte 1 (omega arith)) (p_comb c g.1))) (omega arith)

  p_inner : (i : Inner) → GoodI i → Puts 1 (w_inner i)
  p_inner (leaf k x) g = after (p_byte (leaf_tag k) (leaf_small k)) (p_text x g)
  p_inner (struct f) g = at_least (after (p_byte 4 (omega arith)) (counted (count_f f) (p_fields f g))) (omega arith)
  p_inner (choice s k f) g = at_least (after (p_byte 7 (omega arith)) (after (p_selector s g.0) (after (p_byte (case_byte k) (case_small k)) (counted (count_c f) (p_cases f k g.1))))) (omega arith)
  p_inner (shell x c) g = at_least (after (p_open x g.0) (after (p_comb c g.1) (p_shut x g.0))) (omega arith)
  p_inner (bytes l) g = after (p_byte 10 (omega arith)) (p_len l g)
  p_inner (invocation n a) g = at_least (after (p_byte 15 (omega arith)) (after (p_name n g.0) (p_list w_name a (p_names dot_allowed a g.1)))) (omega arith)
  p_inner (macro_invocation n a) g = at_least (after (p_byte 16 (omega arith)) (after (p_name n g.0) (counted (count_a a) (p_inners a g.1)))) (omega arith)

  p_fields : (f : Fields) → GoodF f → Puts (count_f f) (w_fields f)
  p_fields no_field g = p_none
  p_fields (field k l c f) g = at_least (after (p_byte (field_byte k) (field_small k)) (after (p_name l g.0) (after (p_comb c g.1.0) (p_fields f g.1.1)))) (omega arith)
  p_fields (const l x f) g = at_least (after (p_byte 3 (omega arith)) (after (p_name l g.0) (after (p_text x g.1.0) (p_fields f g.1.1)))) (omega arith)

  p_cases : (f : Cases) (k : CaseKind) → GoodC f k → Puts (count_c f) (λ r. w_cases f k r)
  p_cases no_case k g = p_none
  p_cases (case l c f) k g = at_least (after (p_label k l g.0) (after (p_comb c g.1.0) (p_cases f k g.1.1))) (omega arith)

  p_inners : (f : Inners) → GoodA f → Puts (count_a f) (w_inners f)
  p_inners no_inner g = p_none
  p_inners (inner i f) g = at_least (after (p_inner i g.0) (p_inners f g.1)) (omega arith)

p_params : (ps : List Param) → GoodP ps → Puts (length ps) (w_all w_param ps)
unfolding w_all w_param
p_params [] g = p_none
p_params (p ∷ ps) g = at_least (after (p_name p.name g.0) (after (p_inner p.type g.1.0) (p_params ps g.1.1))) (omega arith)

p_definition : (d : Definition) → GoodD d → Puts 0 (w_definition d)
unfolding w_definition
p_definition (format n ps c) g = at_least (after (p_name n g.0) (after (p_list w_param ps (p_params ps g.1.0)) (p_comb c g.1.1))) (omega arith)
p_definition (constant n x) g = at_least (after (p_name n g.0) (p_text x g.1)) (omega arith)
p_definition (byte_order x) g = p_text x g
p_definition (macro n ps c) g = at_least (after (p_name n g.0) (after (p_list w_name ps (p_names undotted ps g.1.0)) (p_comb c g.1.1))) (omega arith)

p_bodies : (ds : List Definition) → GoodAll ds → Puts 0 (w_all w_definition ds)
unfolding w_all
p_bodies [] g = p_none
p_bodies (d ∷ ds) g = after (p_definition d g.0) (p_bodies ds g.1)

-- offsets and lengths in the contents
entries_small : (ds : List Definition) (at : ℕ) → at + room ds ≤ 65535 + 6 * length ds → (r : List ℕ) → Bytes r → Bytes (w_entries at (map entry_of ds) r)
unfolding w_entries w_u16 entry_of room
entries_small [] at h r b = b
entries_small (d ∷ ds) at h r b =
    let m = room_least ds in
    (kind_small (kind_of d), (omega arith, (omega arith, (omega arith, (omega arith, (omega arith, entries_small ds (at + size_of d) (omega arith) r b))))))

pub book_small : (ds : List Definition) → IsBook ds → Bytes (w_book ds)
unfolding w_book w_parts w_u16
book_small ds k =
    let l = length-map ds entry_of in
    let s = size_book_lem ds in
    let b = (p_bodies ds k.good).small [] (bodies_short ds k) tt in
    (omega arith, (omega (arith, k.few), entries_small ds (2 + 6 * length (map entry_of ds)) (omega (arith, k.short)) (w_all w_definition ds []) b))
  where
    bodies_short : (ds : List Definition) → IsBook ds → length (w_all w_definition ds []) ≤ 65535
    bodies_short ds k = omega (arith, size_bodies ds, size_book_lem ds, k.short)
