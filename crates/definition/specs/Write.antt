-- Writing: the layout of document 01's "The definition book", item by item. Each function puts its bytes in front of the list that follows.
-- Here and in what follows a function that goes through a tree has one name, and a letter for what it takes there: none for a combinator, I for an inner, F for fields, C for cases, A for the arguments of a macro call (Inners), P for parameters.
use Rattle.std.specs.Prelude.{List, [], ◌∷◌, ◌++◌, map, ℕ, suc, ◌+◌, ◌*◌, ◌/◌, ◌%◌, length}
use Rattle.definition.specs.Tree.{Kind, is_format, is_constant, is_byte_order, is_macro, Entry, Name, Text, Leaf, constraint_int, constraint_enum, bits, enum, tail, nothing, never, Len, Shell, wrap, vec, option, array, Selector, none, by, CaseKind, enums, ints, arrays, FieldKind, ordinary, dependent, Combinator, plain, chained, Inner, leaf, struct, choice, shell, bytes, invocation, macro_invocation, Fields, no_field, field, const, Cases, no_case, case, Inners, no_inner, inner, Param, Definition, format, constant, byte_order, macro}

unfoldable pub w_u16 : ℕ → List ℕ → List ℕ
w_u16 n r = n % 256 ∷ n / 256 ∷ r

unfoldable pub w_name : Name → List ℕ → List ℕ
w_name n r = length n ∷ (n ++ r)

unfoldable pub w_text : Text → List ℕ → List ℕ
w_text t r = w_u16 (length t) (t ++ r)

module _ {A : Type 0} where
  unfoldable pub w_all : (A → List ℕ → List ℕ) → List A → List ℕ → List ℕ
  w_all f [] r = r
  w_all f (x ∷ xs) r = f x (w_all f xs r)

  unfoldable pub w_list : (A → List ℕ → List ℕ) → List A → List ℕ → List ℕ
  w_list f xs r = w_u16 (length xs) (w_all f xs r)

unfoldable pub w_len : Len → List ℕ → List ℕ
w_len l r = w_list w_name l.roots (w_text l.text r)

unfoldable pub w_selector : Selector → List ℕ → List ℕ
w_selector none r = 0 ∷ r
w_selector (by n) r = 1 ∷ w_name n r

unfoldable pub case_byte : CaseKind → ℕ
case_byte enums = 1
case_byte ints = 2
case_byte arrays = 3

unfoldable pub w_label : CaseKind → List ℕ → List ℕ → List ℕ
w_label enums l r = w_name l r
w_label ints l r = w_text l r
w_label arrays l r = w_text l r

unfoldable pub leaf_tag : Leaf → ℕ
leaf_tag constraint_int = 1
leaf_tag constraint_enum = 2
leaf_tag bits = 3
leaf_tag enum = 6
leaf_tag tail = 11
leaf_tag nothing = 13
leaf_tag never = 14

unfoldable pub field_byte : FieldKind → ℕ
field_byte ordinary = 1
field_byte dependent = 2

-- what stands before the combinator, and after it
unfoldable pub w_open : Shell → List ℕ → List ℕ
w_open (wrap x y) r = 5 ∷ w_text x r
w_open vec r = 8 ∷ r
w_open option r = 12 ∷ r
w_open (array l) r = 9 ∷ w_len l r

unfoldable pub w_shut : Shell → List ℕ → List ℕ
w_shut (wrap x y) r = w_text y r
w_shut vec r = r
w_shut option r = r
w_shut (array l) r = r

unfoldable pub count_f : Fields → ℕ
count_f no_field = 0
count_f (field k l c f) = suc (count_f f)
count_f (const l c f) = suc (count_f f)

unfoldable pub count_c : Cases → ℕ
count_c no_case = 0
count_c (case l c f) = suc (count_c f)

unfoldable pub count_a : Inners → ℕ
count_a no_inner = 0
count_a (inner i f) = suc (count_a f)

unfoldable mutual
  pub w_combinator : Combinator → List ℕ → List ℕ
  w_combinator (plain i) r = w_inner i (0 ∷ r)
  w_combinator (chained i c) r = w_inner i (1 ∷ w_combinator c r)

  pub w_inner : Inner → List ℕ → List ℕ
  w_inner (leaf k x) r = leaf_tag k ∷ w_text x r
  w_inner (struct f) r = 4 ∷ w_u16 (count_f f) (w_fields f r)
  w_inner (choice s k f) r = 7 ∷ w_selector s (case_byte k ∷ w_u16 (count_c f) (w_cases f k r))
  w_inner (shell x c) r = w_open x (w_combinator c (w_shut x r))
  w_inner (bytes l) r = 10 ∷ w_len l r
  w_inner (invocation n a) r = 15 ∷ w_name n (w_list w_name a r)
  w_inner (macro_invocation n a) r = 16 ∷ w_name n (w_u16 (count_a a) (w_inners a r))

  pub w_fields : Fields → List ℕ → List ℕ
  w_fields no_field r = r
  w_fields (field k l c f) r = field_byte k ∷ w_name l (w_combinator c (w_fields f r))
  w_fields (const l x f) r = 3 ∷ w_name l (w_text x (w_fields f r))

  pub w_cases : Cases → CaseKind → List ℕ → List ℕ
  w_cases no_case k r = r
  w_cases (case l c f) k r = w_label k l (w_combinator c (w_cases f k r))

  pub w_inners : Inners → List ℕ → List ℕ
  w_inners no_inner r = r
  w_inners (inner i f) r = w_inner i (w_inners f r)

unfoldable pub w_param : Param → List ℕ → List ℕ
w_param p r = w_name p.name (w_inner p.type r)

unfoldable pub w_definition : Definition → List ℕ → List ℕ
w_definition (format n ps c) r = w_name n (w_list w_param ps (w_combinator c r))
w_definition (constant n x) r = w_name n (w_text x r)
w_definition (byte_order x) r = w_text x r
w_definition (macro n ps c) r = w_name n (w_list w_name ps (w_combinator c r))

unfoldable pub kind_of : Definition → Kind
kind_of (format n ps c) = is_format
kind_of (constant n x) = is_constant
kind_of (byte_order x) = is_byte_order
kind_of (macro n ps c) = is_macro

unfoldable pub kind_byte : Kind → ℕ
kind_byte is_format = 1
kind_byte is_constant = 2
kind_byte is_byte_order = 3
kind_byte is_macro = 4

unfoldable pub size_of : Definition → ℕ
size_of d = length (w_definition d [])

-- the entries, of which the next body starts at `at`
unfoldable pub w_entries : ℕ → List Entry → List ℕ → List ℕ
w_entries at [] r = r
w_entries at (e ∷ es) r = kind_byte e.kind ∷ 0 ∷ w_u16 at (w_u16 e.size (e.extra ++ w_entries (at + e.size) es r))

-- a book with entries of some size, and the one of document 01
unfoldable pub w_parts : ℕ → List Entry → List Definition → List ℕ
w_parts width es ds = w_u16 (length es) (w_entries (2 + width * length es) es (w_all w_definition ds []))

unfoldable pub entry_of : Definition → Entry
entry_of d = record { kind = kind_of d; size = size_of d; extra = [] }

unfoldable pub w_book : List Definition → List ℕ
unfolding w_u16 w_name w_text w_all w_list w_len w_selector case_byte w_label leaf_tag field_byte w_open w_shut count_f count_c count_a w_combinator w_param w_definition kind_of kind_byte size_of w_entries w_parts entry_of
w_book ds = w_parts 6 (map entry_of ds) ds
