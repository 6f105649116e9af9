-- Reading a body: codes 3, 4 and 5. Document 01, "The definition book" and "For 3, 4, 5: .. bodies in order and items in layout order; the first fault counts".
-- Each reader takes the bytes from where it stands and gives its value and the bytes after it, or a code and the bytes from the item at fault on:
-- that place is for document 02 a, "the first byte of the count, entry, tag, flag, name or text that failed"; document 01 prints no place.
use Rattle.std.specs.Prelude.{List, [], ◌∷◌, Bool, true, false, ◌&&◌, cond, ℕ, zero, suc, ◌+◌, ◌*◌, eqb, get_or}
use Rattle.definition.specs.Code.{bad_name, not_a_book, too_deep_of}
use Rattle.definition.specs.Res.{Maybe, absent, just, Res, bad, ok, ◌>>=◌, require, from}
use Rattle.definition.specs.Utf8.{well_formed}
use Rattle.definition.specs.Tree.{Kind, is_format, is_constant, is_byte_order, is_macro, Name, Text, Leaf, constraint_int, constraint_enum, bits, enum, tail, nothing, never, Len, wrap, vec, option, array, Selector, none, by, CaseKind, enums, ints, arrays, FieldKind, ordinary, dependent, Combinator, plain, chained, Inner, leaf, struct, choice, shell, bytes, invocation, macro_invocation, Fields, no_field, field, const, Cases, no_case, case, Inners, no_inner, inner, Param, Definition, format, constant, byte_order, macro}

abbrev pub Reader : Type 0 → Type 0
Reader A = List ℕ → Res (List ℕ) A

-- "All numbers little-endian."
unfoldable pub u16 : Reader ℕ
u16 [] = bad not_a_book []
u16 (a ∷ []) = bad not_a_book (a ∷ [])
u16 (a ∷ b ∷ s) = ok (a + 256 * b) s

-- n bytes
unfoldable pub part : ℕ → Reader (List ℕ)
part zero s = ok [] s
part (suc n) [] = bad not_a_book []
part (suc n) (b ∷ s) = do
  (x, s) ← part n s
  ok (b ∷ x) s

-- "`text` = u16 length, then bytes that are copied and never read."
unfoldable pub text : Reader Text
text s = from s (do
  (n, s) ← u16 s
  part n s)

unfoldable pub no_dot_of : List ℕ → Bool
no_dot_of [] = true
no_dot_of (b ∷ s) = let r = no_dot_of s in cond (eqb b 46) false r

-- "A plain name has no '.'; only selectors and call arguments may have one."
unfoldable pub dot_allowed : List ℕ → Bool
dot_allowed x = well_formed x

unfoldable pub undotted : List ℕ → Bool
undotted x = dot_allowed x && no_dot_of x

unfoldable pub byte : Reader ℕ
byte [] = bad not_a_book []
byte (b ∷ s) = ok b s

-- "4: a name that is not UTF-8, or a plain name with '.'"; "An item that runs past its body is 3 before its value is tested" (reading 11, docs/READINGS.md)
unfoldable pub name_by : (List ℕ → Bool) → Reader Name
name_by test s = from s (do
  (n, s) ← byte s
  (x, s) ← part n s
  (u, s) ← require (test x) bad_name s
  ok x s)

unfoldable pub names_by : (List ℕ → Bool) → ℕ → Reader (List Name)
names_by test zero s = ok [] s
names_by test (suc n) s = do
  (x, s) ← name_by test s
  (xs, s) ← names_by test n s
  ok (x ∷ xs) s

unfoldable pub name : Reader Name
name s = name_by undotted s

-- a byte that stands in a table: kinds, tags and flags. A byte that does not is 3
module _ {A : Type 0} where
  unfoldable pub known : Maybe A → List ℕ → Reader A
  known absent here s = bad not_a_book here
  known (just a) here s = ok a s

  unfoldable pub one_of : List (Maybe A) → Reader A
  one_of table [] = bad not_a_book []
  one_of table (b ∷ s) = known (get_or table b absent) (b ∷ s) s

abbrev pub flags : List (Maybe Bool)
flags = just false ∷ just true ∷ []

-- what a tag starts
pub data Tag : Type 0 where
  is_leaf : Leaf → Tag
  is_struct is_wrap is_choice is_vec is_array is_bytes is_option is_invocation is_macro_invocation : Tag

abbrev pub tags : List (Maybe Tag)
tags =
    absent ∷ just (is_leaf constraint_int) ∷ just (is_leaf constraint_enum) ∷ just (is_leaf bits) ∷ just is_struct ∷ just is_wrap
    ∷ just (is_leaf enum) ∷ just is_choice ∷ just is_vec ∷ just is_array ∷ just is_bytes ∷ just (is_leaf tail) ∷ just is_option
    ∷ just (is_leaf nothing) ∷ just (is_leaf never) ∷ just is_invocation ∷ just is_macro_invocation ∷ []

abbrev pub case_kinds : List (Maybe CaseKind)
case_kinds = absent ∷ just enums ∷ just ints ∷ just arrays ∷ []

-- "1 Ordinary or 2 Dependent with label and combinator, or 3 Const with label and text"
pub data FieldStart : Type 0 where
  holds : FieldKind → FieldStart
  is_const : FieldStart

abbrev pub field_kinds : List (Maybe FieldStart)
field_kinds = absent ∷ just (holds ordinary) ∷ just (holds dependent) ∷ just is_const ∷ []

unfoldable pub len : Reader Len
len s = do
  (n, s) ← u16 s
  (r, s) ← names_by undotted n s
  (x, s) ← text s
  ok (record { roots = r; text = x }) s

unfoldable pub selector_by : Bool → Reader Selector
selector_by false s = ok none s
selector_by true s = do
  (x, s) ← name_by dot_allowed s
  ok (by x) s

unfoldable pub selector : Reader Selector
selector s = do
  (f, s) ← one_of flags s
  selector_by f s

unfoldable pub label : CaseKind → Reader (List ℕ)
label enums s = name s
label ints s = text s
label arrays s = text s

unfoldable pub field_by : Reader Combinator → Reader Fields → FieldStart → Name → Reader Fields
field_by c rest (holds k) l s = do
  (x, s) ← c s
  (f, s) ← rest s
  ok (field k l x f) s
field_by c rest is_const l s = do
  (x, s) ← text s
  (f, s) ← rest s
  ok (const l x f) s

unfoldable pub fields : Reader Combinator → ℕ → Reader Fields
fields c zero s = ok no_field s
fields c (suc n) s = do
  (k, s) ← one_of field_kinds s
  (l, s) ← name s
  field_by c (λ s. fields c n s) k l s

unfoldable pub cases : Reader Combinator → CaseKind → ℕ → Reader Cases
cases c k zero s = ok no_case s
cases c k (suc n) s = do
  (l, s) ← label k s
  (x, s) ← c s
  (f, s) ← cases c k n s
  ok (case l x f) s

unfoldable pub inners : Reader Inner → ℕ → Reader Inners
inners a zero s = ok no_inner s
inners a (suc n) s = do
  (x, s) ← a s
  (f, s) ← inners a n s
  ok (inner x f) s

-- "An inner is a tag and its items". `c` reads a combinator one level deeper, and `a` a macro argument.
-- No count is tested against what is left: the items are read one by one (reading 10, docs/READINGS.md)
unfoldable pub items : Reader Combinator → Reader Inner → Tag → Reader Inner
items c a (is_leaf k) s = do
  (x, s) ← text s
  ok (leaf k x) s
items c a is_struct s = do
  (n, s) ← u16 s
  (f, s) ← fields c n s
  ok (struct f) s
items c a is_wrap s = do
  (x, s) ← text s
  (y, s) ← c s
  (z, s) ← text s
  ok (shell (wrap x z) y) s
items c a is_choice s = do
  (x, s) ← selector s
  (k, s) ← one_of case_kinds s
  (n, s) ← u16 s
  (f, s) ← cases c k n s
  ok (choice x k f) s
items c a is_vec s = do
  (x, s) ← c s
  ok (shell vec x) s
items c a is_array s = do
  (l, s) ← len s
  (x, s) ← c s
  ok (shell (array l) x) s
items c a is_bytes s = do
  (l, s) ← len s
  ok (bytes l) s
items c a is_option s = do
  (x, s) ← c s
  ok (shell option x) s
items c a is_invocation s = do
  (l, s) ← name s
  (n, s) ← u16 s
  (x, s) ← names_by dot_allowed n s
  ok (invocation l x) s
items c a is_macro_invocation s = do
  (l, s) ← name s
  (n, s) ← u16 s
  (x, s) ← inners a n s
  ok (macro_invocation l x) s

unfoldable pub level : Reader Combinator → Reader Inner → Reader Inner
level c a s = do
  (t, s) ← one_of tags s
  items c a t s

-- "an unknown tag is 3 before its level is tested": a tag where no level is left is 5
unfoldable pub too_deep : {A : Type 0} → Reader A
too_deep s = do
  (t, r) ← one_of tags s
  bad too_deep_of s

-- the flag behind an inner, and the chain
unfoldable pub chain_by : Reader Combinator → Inner → Bool → Reader Combinator
chain_by c i false s = ok (plain i) s
chain_by c i true s = do
  (x, s) ← c s
  ok (chained i x) s

unfoldable pub chain : Reader Combinator → Inner → Reader Combinator
chain c i s = do
  (f, s) ← one_of flags s
  chain_by c i f s

-- a combinator and a macro argument, with k levels left: "each combinator or macro argument directly inside, and each chain, is one deeper"
unfoldable mutual
  pub combinator : ℕ → Reader Combinator
  combinator zero s = too_deep s
  combinator (suc k) s = do
    (i, s) ← level (λ s. combinator k s) (λ s. arg k s) s
    chain (λ s. combinator k s) i s

  pub arg : ℕ → Reader Inner
  arg zero s = too_deep s
  arg (suc k) s = level (λ s. combinator k s) (λ s. arg k s) s

-- "a body's root and a parameter's type are level 1"; "At most 64 levels."
unfoldable pub params : ℕ → Reader (List Param)
params zero s = ok [] s
params (suc n) s = do
  (l, s) ← name s
  (i, s) ← arg 64 s
  (ps, s) ← params n s
  ok (record { name = l; type = i } ∷ ps) s

abbrev pub kinds : List (Maybe Kind)
kinds = absent ∷ just is_format ∷ just is_constant ∷ just is_byte_order ∷ just is_macro ∷ []

unfoldable pub definition : Kind → Reader Definition
definition is_format s = do
  (l, s) ← name s
  (n, s) ← u16 s
  (ps, s) ← params n s
  (c, s) ← combinator 64 s
  ok (format l ps c) s
definition is_constant s = do
  (l, s) ← name s
  (x, s) ← text s
  ok (constant l x) s
definition is_byte_order s = do
  (x, s) ← text s
  ok (byte_order x) s
definition is_macro s = do
  (l, s) ← name s
  (n, s) ← u16 s
  (ps, s) ← names_by undotted n s
  (c, s) ← combinator 64 s
  ok (macro l ps c) s
