-- What the writer writes, the reader reads.
use mathlib.Core.Path.{◌≡◌, refl, ap}
use mathlib.Core.List.{List, [], ◌∷◌, ◌++◌}
use mathlib.Core.Bool.{Bool}
use Prim.Native.Nat.{ℕ, zero, suc, ◌≤◌}
use native.Mathlib.Nat.{not-suc-le-zero}
use native.Mathlib.Omega.{arith}
use lib.ListN.{length}
use Rattle.definition.specs.Res.{ok}
use Rattle.definition.specs.Tree.{Name, Leaf, constraint_int, constraint_enum, bits, enum, tail, nothing, never, Len, wrap, vec, option, array, Selector, none, by, CaseKind, enums, ints, arrays, ordinary, dependent, Combinator, plain, chained, Inner, leaf, struct, choice, shell, bytes, invocation, macro_invocation, Fields, no_field, field, const, Cases, no_case, case, Inners, no_inner, inner}
use Rattle.definition.specs.Read.{u16, part, text, dot_allowed, undotted, byte, name_by, names_by, name, known, one_of, case_kinds, len, selector_by, selector, label, field_by, fields, cases, inners, is_leaf, tags, items, level, chain_by, chain, combinator, arg}
use Rattle.definition.specs.Write.{w_u16, w_name, w_text, w_all, w_list, w_len, w_selector, case_byte, w_label, leaf_tag, field_byte, w_open, w_shut, count_f, count_c, count_a, w_combinator, w_inner, w_fields, w_cases, w_inners}
use Rattle.definition.specs.Size.{levels, levels_i, levels_f, levels_c, levels_a}
use Rattle.laws.specs.Book.{Named, AllNamed, GoodLen, GoodS, GoodL, Good, GoodI, GoodF, GoodC, GoodA}

pub r-u16 : (n : ℕ) (r : List ℕ) → u16 (w_u16 n r) ≡ ok n r
unfolding u16 w_u16
r-u16 n r = ap (λ (m : ℕ). ok m r) (omega arith)

pub r-part : (x r : List ℕ) → part (length x) (x ++ r) ≡ ok x r
unfolding part
r-part [] r = refl
r-part (b ∷ x) r = rw (r-part x r)

pub r-text : (x r : List ℕ) → text (w_text x r) ≡ ok x r
unfolding text w_text
r-text x r = simp (r-u16, r-part)

r-name_by : (test : List ℕ → Bool) (n : Name) → Named test n → (r : List ℕ) → name_by test (w_name n r) ≡ ok n r
unfolding name_by w_name byte
r-name_by test n h r = let p = h.passes in simp (r-part, p)

pub r-name : (n : Name) → Named undotted n → (r : List ℕ) → name (w_name n r) ≡ ok n r
unfolding name
r-name n h r = r-name_by undotted n h r

pub r_names : (test : List ℕ → Bool) (ns : List Name) → AllNamed test ns → (r : List ℕ) → names_by test (length ns) (w_all w_name ns r) ≡ ok ns r
unfolding names_by w_all
r_names test [] h r = refl
r_names test (n ∷ ns) h r = simp (r-name_by test n h.0, r_names test ns h.1 r)

r-len : (l : Len) → GoodLen l → (r : List ℕ) → len (w_len l r) ≡ ok l r
unfolding len w_len w_list
r-len l h r = simp (r-u16, r_names undotted l.roots h.0, r-text)

r-selector : (s : Selector) → GoodS s → (r : List ℕ) → selector (w_selector s r) ≡ ok s r
unfolding selector selector_by w_selector one_of known
r-selector none h r = refl
r-selector (by n) h r = simp (r-name_by dot_allowed n h)

r_case_kind : (k : CaseKind) (r : List ℕ) → one_of case_kinds (case_byte k ∷ r) ≡ ok k r
unfolding one_of known case_byte
r_case_kind enums r = refl
r_case_kind ints r = refl
r_case_kind arrays r = refl

r-label : (k : CaseKind) (l : List ℕ) → GoodL k l → (r : List ℕ) → label k (w_label k l r) ≡ ok l r
unfolding label w_label
r-label enums l h r = r-name l h r
r-label ints l h r = r-text l r
r-label arrays l h r = r-text l r

r_leaf : (k : Leaf) (r : List ℕ) → one_of tags (leaf_tag k ∷ r) ≡ ok (is_leaf k) r
unfolding one_of known leaf_tag
r_leaf constraint_int r = refl
r_leaf constraint_enum r = refl
r_leaf bits r = refl
r_leaf enum r = refl
r_leaf tail r = refl
r_leaf nothing r = refl
r_leaf never r = refl

mutual
  unfolding combinator chain chain_by level items field_by fields cases inners known one_of field_byte w_combinator w_list w_open w_shut count_f count_c count_a levels

  pub r-combinator : (c : Combinator) → Good c → (k : ℕ) → levels c ≤ k → (r : List ℕ) → combinator k (w_combinator c r) ≡ ok c r
  r-combinator (plain i) g zero h r = absurd (not-suc-le-zero h)
  r-combinator (plain i) g (suc k) h r = simp (r-level i g k (omega arith) (0 ∷ r))
  r-combinator (chained i c) g zero h r = absurd (not-suc-le-zero h)
  r-combinator (chained i c) g (suc k) h r = simp (r-level i g.0 k (omega arith) (1 ∷ w_combinator c r), r-combinator c g.1 k (omega arith) r)

  pub r-level : (i : Inner) → GoodI i → (k : ℕ) → levels_i i ≤ k → (r : List ℕ) → level (combinator k) (arg k) (w_inner i r) ≡ ok i r
  r-level (leaf t x) g k h r = simp (r_leaf, r-text)
  r-level (struct f) g k h r = simp (r-u16, r-fields f g k h r)
  r-level (choice s t f) g k h r = simp (r-selector s g.0, r_case_kind, r-u16, r-cases f t g.1 k h r)
  r-level (shell (wrap x y) c) g k h r = simp (r-text, r-combinator c g.1 k h (w_text y r))
  r-level (shell vec c) g k h r = simp (r-combinator c g.1 k h r)
  r-level (shell option c) g k h r = simp (r-combinator c g.1 k h r)
  r-level (shell (array l) c) g k h r = simp (r-len l g.0, r-combinator c g.1 k h r)
  r-level (bytes l) g k h r = simp (r-len l g)
  r-level (invocation n a) g k h r = simp (r-name n g.0, r-u16, r_names dot_allowed a g.1)
  r-level (macro_invocation n a) g k h r = simp (r-name n g.0, r-u16, r-inners a g.1 k h r)

  r-fields : (f : Fields) → GoodF f → (k : ℕ) → levels_f f ≤ k → (r : List ℕ) → fields (combinator k) (count_f f) (w_fields f r) ≡ ok f r
  r-fields no_field g k h r = refl
  r-fields (field ordinary l c f) g k h r = simp (r-name l g.0, r-combinator c g.1.0 k (omega arith) (w_fields f r), r-fields f g.1.1 k (omega arith) r)
  r-fields (field dependent l c f) g k h r = simp (r-name l g.0, r-combinator c g.1.0 k (omega arith) (w_fields f r), r-fields f g.1.1 k (omega arith) r)
  r-fields (const l x f) g k h r = simp (r-name l g.0, r-text, r-fields f g.1.1 k h r)

  r-cases : (f : Cases) (t : CaseKind) → GoodC f t → (k : ℕ) → levels_c f ≤ k → (r : List ℕ) → cases (combinator k) t (count_c f) (w_cases f t r) ≡ ok f r
  r-cases no_case t g k h r = refl
  r-cases (case l c f) t g k h r = simp (r-label t l g.0, r-combinator c g.1.0 k (omega arith) (w_cases f t r), r-cases f t g.1.1 k (omega arith) r)

  r-inners : (f : Inners) → GoodA f → (k : ℕ) → levels_a f ≤ k → (r : List ℕ) → inners (arg k) (count_a f) (w_inners f r) ≡ ok f r
  r-inners no_inner g k h r = refl
  r-inners (inner i f) g zero h r = absurd (omega arith)
  r-inners (inner i f) g (suc k) h r = simp (r-level i g.0 k (omega arith) (w_inners f r), r-inners f g.1 (suc k) (omega arith) r)
