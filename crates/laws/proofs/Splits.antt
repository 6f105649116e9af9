-- What is written in front of a list is the same whatever follows.
use mathlib.Core.Path.{◌≡◌, refl, ap, ◌∙◌}
use mathlib.Core.List.{List, [], ◌∷◌, ◌++◌, append_assoc}
use Prim.Native.Nat.{ℕ}
use lib.ListN.{length}
use Rattle.definition.specs.Tree.{Name, Text, Len, Shell, wrap, vec, option, array, Selector, none, by, CaseKind, enums, ints, arrays, Combinator, plain, chained, Inner, leaf, struct, choice, shell, bytes, invocation, macro_invocation, Fields, no_field, field, const, Cases, no_case, case, Inners, no_inner, inner, Param, Definition, format, constant, byte_order, macro}
use Rattle.definition.specs.Write.{w_u16, w_name, w_text, w_all, w_list, w_len, w_selector, w_label, w_open, w_shut, w_combinator, w_inner, w_fields, w_cases, w_inners, w_param, w_definition}

abbrev pub Splits : (List ℕ → List ℕ) → Type 0
Splits w = (a b : List ℕ) → w (a ++ b) ≡ w a ++ b

pub s_u16 : (n : ℕ) → Splits (w_u16 n)
unfolding w_u16
s_u16 n a b = refl

pub s_name : (n : Name) → Splits (w_name n)
unfolding w_name
s_name n a b = simp append_assoc

pub s_text : (x : Text) → Splits (w_text x)
unfolding w_text w_u16
s_text x a b = simp append_assoc

pub s_all : {A : Type 0} (w : A → List ℕ → List ℕ) → ((x : A) → Splits (w x)) → (xs : List A) → Splits (w_all w xs)
unfolding w_all
s_all w h [] a b = refl
s_all w h (x ∷ xs) a b = ap (w x) (s_all w h xs a b) ∙ h x (w_all w xs a) b

pub s_list : {A : Type 0} (w : A → List ℕ → List ℕ) → ((x : A) → Splits (w x)) → (xs : List A) → Splits (w_list w xs)
unfolding w_list
s_list w h xs a b = ap (w_u16 (length xs)) (s_all w h xs a b) ∙ s_u16 (length xs) (w_all w xs a) b

pub s_len : (l : Len) → Splits (w_len l)
unfolding w_len
s_len l a b = ap (w_list w_name l.roots) (s_text l.text a b) ∙ s_list w_name s_name l.roots (w_text l.text a) b

pub s_selector : (s : Selector) → Splits (w_selector s)
unfolding w_selector
s_selector none a b = refl
s_selector (by n) a b = rw (s_name n a b)

pub s_label : (k : CaseKind) (l : List ℕ) → Splits (w_label k l)
unfolding w_label
s_label enums l a b = s_name l a b
s_label ints l a b = s_text l a b
s_label arrays l a b = s_text l a b

pub s_open : (x : Shell) → Splits (w_open x)
unfolding w_open
s_open (wrap x y) a b = rw (s_text x a b)
s_open vec a b = refl
s_open option a b = refl
s_open (array l) a b = rw (s_len l a b)

pub s_shut : (x : Shell) → Splits (w_shut x)
unfolding w_shut
s_shut (wrap x y) a b = s_text y a b
s_shut vec a b = refl
s_shut option a b = refl
s_shut (array l) a b = refl

mutual
  unfolding w_combinator

  pub s_comb : (c : Combinator) (a b : List ℕ) → w_combinator c (a ++ b) ≡ w_combinator c a ++ b
  s_comb (plain i) a b = s_inner i (0 ∷ a) b
  s_comb (chained i c) a b = rw (s_comb c a b) (s_inner i (1 ∷ w_combinator c a) b)

  pub s_inner : (i : Inner) (a b : List ℕ) → w_inner i (a ++ b) ≡ w_inner i a ++ b
  s_inner (leaf k x) a b = rw (s_text x a b)
  s_inner (struct f) a b = rw (s_fields f a b, s_u16 _ (w_fields f a) b)
  s_inner (choice s k f) a b = rw (s_cases f k a b, s_u16 _ (w_cases f k a) b, s_selector s (_ ∷ w_u16 _ (w_cases f k a)) b)
  s_inner (shell x c) a b = rw (s_shut x a b, s_comb c (w_shut x a) b, s_open x (w_combinator c (w_shut x a)) b)
  s_inner (bytes l) a b = rw (s_len l a b)
  s_inner (invocation n x) a b = rw (s_list w_name s_name x a b, s_name n (w_list w_name x a) b)
  s_inner (macro_invocation n x) a b = rw (s_inners x a b, s_u16 _ (w_inners x a) b, s_name n (w_u16 _ (w_inners x a)) b)

  pub s_fields : (f : Fields) (a b : List ℕ) → w_fields f (a ++ b) ≡ w_fields f a ++ b
  s_fields no_field a b = refl
  s_fields (field k l c f) a b = rw (s_fields f a b, s_comb c (w_fields f a) b, s_name l (w_combinator c (w_fields f a)) b)
  s_fields (const l x f) a b = rw (s_fields f a b, s_text x (w_fields f a) b, s_name l (w_text x (w_fields f a)) b)

  pub s_cases : (f : Cases) (k : CaseKind) (a b : List ℕ) → w_cases f k (a ++ b) ≡ w_cases f k a ++ b
  s_cases no_case k a b = refl
  s_cases (case l c f) k a b = rw (s_cases f k a b, s_comb c (w_cases f k a) b, s_label k l (w_combinator c (w_cases f k a)) b)

  pub s_inners : (f : Inners) (a b : List ℕ) → w_inners f (a ++ b) ≡ w_inners f a ++ b
  s_inners no_inner a b = refl
  s_inners (inner i f) a b = rw (s_inners f a b, s_inner i (w_inners f a) b)

pub s_param : (p : Param) → Splits (w_param p)
unfolding w_param
s_param p a b = ap (w_name p.name) (s_inner p.type a b) ∙ s_name p.name (w_inner p.type a) b

pub s_definition : (d : Definition) → Splits (w_definition d)
unfolding w_definition
s_definition (format n ps c) a b = rw (s_comb c a b, s_list w_param s_param ps (w_combinator c a) b, s_name n (w_list w_param ps (w_combinator c a)) b)
s_definition (constant n x) a b = rw (s_text x a b, s_name n (w_text x a) b)
s_definition (byte_order x) a b = s_text x a b
s_definition (macro n ps c) a b = rw (s_comb c a b, s_list w_name s_name ps (w_combinator c a) b, s_name n (w_list w_name ps (w_combinator c a)) b)
