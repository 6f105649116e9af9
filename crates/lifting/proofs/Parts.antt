-- What stands at a place of the expanded book, taken apart: its bytes, the records of its lifts, and no record elsewhere in it.
use mathlib.Core.Path.{◌≡◌, refl, ap, ◌∙◌}
use mathlib.Core.Logic.{◌⊎◌, inl, inr}
use mathlib.Core.List.{List, [], ◌∷◌, ◌++◌}
use Prim.Native.Nat.{ℕ, suc, ◌+◌, ◌≤◌, ◌<◌}
use native.Mathlib.Omega.{arith}
use lib.ListN.{length, drop}
use lib.Seq.{drop-drop, drop-append_seam}
use Rattle.definition.specs.Res.{absent}
use Rattle.definition.specs.Tree.{Name, Text, Shell, Selector, CaseKind, FieldKind, Combinator, plain, chained, Inner, struct, choice, shell, Fields, field, const, Cases, case}
use Rattle.definition.specs.Write.{w_u16, w_name, w_text, w_selector, case_byte, w_label, field_byte, w_open, w_shut, count_f, count_c, w_combinator, w_inner, w_fields, w_cases}
use Rattle.definition.specs.Size.{size}
use Rattle.definition.specs.Collect.{anonymous}
use Rattle.laws.proofs.Splits.{Splits, s_name, s_text, s_selector, s_label, s_open, s_comb, s_inner}
use Rattle.laws.proofs.Sizes.{adds, size_i, size_f, size_c, size-plain, size-chained, size_struct, size_choice, size-shell, size-field, size_constant, size-case, open-some, size_i_some}
use Rattle.lifting.specs.Records.{Record, find}
use Rattle.lifting.specs.After.{chain_at, fields_at, cases_at, shell_at, field_at, const_end, case_at, Lift, itself, lifts, lifts_i, lifts_f, lifts_c, Stands, AllFound}
use Rattle.lifting.proofs.Found.{stands_either, found_left, found_right}
use Rattle.lifting.proofs.Ranges.{Between, in-rangeI, in-rangeF, in-rangeC, in-rangeK}

-- two lists of lifts make up one
pub record Union (ls a b : List Lift) : Type 0 where
  pub either : (x : ℕ) → Stands x ls → Stands x a ⊎ Stands x b
  pub one : (rs : List Record) → AllFound rs ls → AllFound rs a
  pub other : (rs : List Record) → AllFound rs ls → AllFound rs b

pub appended : (a b : List Lift) → Union (a ++ b) a b
appended a b = record { either = λ x h. stands_either x a b h; one = λ rs f. found_left rs a b f; other = λ rs f. found_right rs a b f }

pub swapped : (a b : List Lift) → Union (b ++ a) a b
swapped a b = record { either = λ x h. swap x (stands_either x b a h); one = λ rs f. found_right rs b a f; other = λ rs f. found_left rs b a f }
  where
    swap : (x : ℕ) → Stands x b ⊎ Stands x a → Stands x a ⊎ Stands x b
    swap x (inl h) = inr h
    swap x (inr h) = inl h

pub first_none : (ls : List Lift) → Union ls [] ls
first_none ls = record { either = λ x h. inr h; one = λ rs f. tt; other = λ rs f. f }

pub second_none : (ls : List Lift) → Union ls ls []
second_none ls = record { either = λ x h. inl h; one = λ rs f. f; other = λ rs f. tt }

-- all before a place, all from a place on
pub record Under (q : ℕ) (ls : List Lift) : Type 0 where
  pub under : (x : ℕ) → Stands x ls → x < q

pub record Over (q : ℕ) (ls : List Lift) : Type 0 where
  pub over : (x : ℕ) → Stands x ls → q ≤ x

pub under : {a b q : ℕ} {ls : List Lift} → Between a b ls → b ≤ q → Under q ls
under w h = record { under = λ x k. let r = w.range x k in omega arith }

pub over : {a b q : ℕ} {ls : List Lift} → Between a b ls → q ≤ a → Over q ls
over w h = record { over = λ x k. let r = w.range x k in omega arith }

pub over_both : {q : ℕ} {l m : List Lift} → Over q l → Over q m → Over q (l ++ m)
over_both {q} {l} {m} v w = record { over = λ x h. of x (stands_either x l m h) }
  where
    of : (x : ℕ) → Stands x l ⊎ Stands x m → q ≤ x
    of x (inl h) = v.over x h
    of x (inr h) = w.over x h

pub none_under : {q : ℕ} → Under q []
none_under = record { under = λ x h. absurd h }

pub none_over : {q : ℕ} → Over q []
none_over = record { over = λ x h. absurd h }

-- what stands before the fields, the cases, and the combinator of a field; a Const field
abbrev pub w_struct : Fields → List ℕ → List ℕ
w_struct f r = 4 ∷ w_u16 (count_f f) r

abbrev pub w_choice : Selector → CaseKind → Cases → List ℕ → List ℕ
w_choice x k f r = 7 ∷ w_selector x (case_byte k ∷ w_u16 (count_c f) r)

pub s_choice : (x : Selector) (k : CaseKind) (f : Cases) → Splits (w_choice x k f)
unfolding w_u16
s_choice x k f a b = ap (7 ∷◌) (s_selector x (case_byte k ∷ w_u16 (count_c f) a) b)

abbrev pub w_field : FieldKind → Name → List ℕ → List ℕ
w_field k l r = field_byte k ∷ w_name l r

pub s_field : (k : FieldKind) (l : Name) → Splits (w_field k l)
s_field k l a b = ap (field_byte k ∷◌) (s_name l a b)

abbrev pub w_const : Name → Text → List ℕ → List ℕ
w_const l x r = 3 ∷ w_name l (w_text x r)

pub s_const : (l : Name) (x : Text) → Splits (w_const l x)
s_const l x a b = ap (3 ∷◌) (ap (w_name l) (s_text x a b) ∙ s_name l (w_text x a) b)

module _ (s : List ℕ) (rs : List Record) where
  -- w stands at p in s; from a up to e the records are those of the lifts ls
  pub record Part (w : List ℕ → List ℕ) (p a e : ℕ) (ls : List Lift) : Type 0 where
    pub rest : List ℕ
    pub stands : drop p s ≡ w rest
    pub clear : (x : ℕ) → a ≤ x → x < e → (Stands x ls → ⊥) → find rs x ≡ absent
    pub found : AllFound rs ls

  -- one up to q, the other from q up to e
  pub split : (v w : List ℕ → List ℕ) → Splits v → (q e : ℕ) {p a f : ℕ} {ls l m : List Lift} → Part (λ z. v (w z)) p a f ls → f ≡ e → p + length (v []) ≡ q → a ≤ q → q ≤ e → Union ls l m → Under q l → Over q m
      → Part v p a q l × Part w q q e m
  split v w sp q e {p} {a} {f} {ls} {l} {m} t ends at lo hi u below above = (
    record { rest = w t.rest; stands = t.stands; clear = λ x i j h. t.clear x i (omega arith) (λ k. left x j h (u.either x k)); found = u.one rs t.found },
    record {
      rest = t.rest;
      stands = rw (← at, ← (drop-drop (length (v [])) p s), t.stands, sp [] (w t.rest)) (drop-append_seam (v []) (w t.rest));
      clear = λ x i j h. t.clear x (omega arith) (omega arith) (λ k. right x i h (u.either x k));
      found = u.other rs t.found;
    },
  )
    where
      left : (x : ℕ) → x < q → (Stands x l → ⊥) → Stands x l ⊎ Stands x m → ⊥
      left x j h (inl k) = h k
      left x j h (inr k) = let r = above.over x k in omega arith

      right : (x : ℕ) → q ≤ x → (Stands x m → ⊥) → Stands x l ⊎ Stands x m → ⊥
      right x i h (inl k) = let r = below.under x k in omega arith
      right x i h (inr k) = h k

  -- the first byte of a combinator is no place of a lift out of it
  abbrev pub Whole : Combinator → ℕ → Type 0
  Whole c p = Part (w_combinator c) p (suc p) (p + size c) (lifts c p)

  abbrev pub WholeI : Inner → ℕ → Type 0
  WholeI i p = Part (w_inner i) p (suc p) (p + size_i i) (lifts_i i p)

  abbrev pub WholeF : Fields → ℕ → Type 0
  WholeF f p = Part (w_fields f) p p (p + size_f f) (lifts_f f p)

  abbrev pub WholeC : Cases → CaseKind → ℕ → Type 0
  WholeC f k p = Part (w_cases f k) p p (p + size_c f k) (lifts_c f k p)

  -- a child, itself perhaps lifted
  abbrev pub Kid : Combinator → ℕ → Type 0
  Kid c p = Part (w_combinator c) p p (p + size c) (lifts c p ++ itself (anonymous c) c p)

  -- bytes in which no lift stands
  abbrev pub Raw : (List ℕ → List ℕ) → ℕ → ℕ → ℕ → Type 0
  Raw w p a e = Part w p a e []

  pub of_plain : (i : Inner) (p : ℕ) → Whole (plain i) p → WholeI i p × Raw (0 ∷◌) (p + size_i i) (p + size_i i) (p + size_i i + 1)
  unfolding w_combinator lifts size_i
  of_plain i p t = split (w_inner i) (0 ∷◌) (s_inner i) (p + size_i i) (p + size_i i + 1) t (omega (arith, size-plain i)) refl (omega (arith, size_i_some i)) (omega arith) (second_none _) (under (in-rangeI i p) (omega arith)) none_over

  pub of_chained : (i : Inner) (c : Combinator) (p : ℕ) → Whole (chained i c) p → WholeI i p × Raw (1 ∷◌) (p + size_i i) (p + size_i i) (chain_at p i) × Kid c (chain_at p i)
  unfolding w_combinator lifts size_i
  of_chained i c p t =
      let q = chain_at p i in
      let a = split (w_inner i) (λ z. 1 ∷ w_combinator c z) (s_inner i) (p + size_i i) (q + size c) t (omega (arith, size-chained i c)) refl (omega (arith, size_i_some i)) (omega arith) (swapped _ _) (under (in-rangeI i p) (omega arith)) (over (in-rangeK c q) (omega arith)) in
      let b = split (1 ∷◌) (w_combinator c) (λ x y. refl) q (q + size c) a.1 refl refl (omega arith) (omega arith) (first_none _) none_under (over (in-rangeK c q) (omega arith)) in
      (a.0, b.0, b.1)

  pub of_struct : (f : Fields) (p : ℕ) → WholeI (struct f) p → Raw (w_struct f) p (suc p) (fields_at p) × WholeF f (fields_at p)
  unfolding w_combinator lifts w_u16
  of_struct f p t = split (w_struct f) (w_fields f) (λ x y. refl) (fields_at p) (fields_at p + size_f f) t (omega (arith, size_struct f)) (omega arith) (omega arith) (omega arith) (first_none _) none_under (over (in-rangeF f (fields_at p)) (omega arith))

  pub of_choice : (x : Selector) (k : CaseKind) (f : Cases) (p : ℕ) → WholeI (choice x k f) p → Raw (w_choice x k f) p (suc p) (cases_at p x) × WholeC f k (cases_at p x)
  unfolding w_combinator lifts w_u16
  of_choice x k f p t = split (w_choice x k f) (w_cases f k) (s_choice x k f) (cases_at p x) (cases_at p x + size_c f k) t (omega (arith, size_choice x k f)) (omega (arith, adds (w_selector x) (s_selector x) (case_byte k ∷ w_u16 (count_c f) []))) (omega arith) (omega arith) (first_none _) none_under (over (in-rangeC f k (cases_at p x)) (omega arith))

  pub of_shell : (x : Shell) (c : Combinator) (p : ℕ) → WholeI (shell x c) p → Raw (w_open x) p (suc p) (shell_at p x) × Kid c (shell_at p x) × Raw (w_shut x) (shell_at p x + size c) (shell_at p x + size c) (p + size_i (shell x c))
  unfolding w_combinator lifts size
  of_shell x c p t =
      let q = shell_at p x in
      let a = split (w_open x) (λ z. w_combinator c (w_shut x z)) (s_open x) q (p + size_i (shell x c)) t refl refl (omega (arith, open-some x)) (omega (arith, size-shell x c)) (first_none _) none_under (over (in-rangeK c q) (omega arith)) in
      let b = split (w_combinator c) (w_shut x) (s_comb c) (q + size c) (p + size_i (shell x c)) a.1 refl refl (omega arith) (omega (arith, size-shell x c)) (second_none _) (under (in-rangeK c q) (omega arith)) none_over in
      (a.0, b.0, b.1)

  pub of_field : (k : FieldKind) (l : Name) (c : Combinator) (f : Fields) (p : ℕ) → WholeF (field k l c f) p → Raw (w_field k l) p p (field_at p l) × Kid c (field_at p l) × WholeF f (field_at p l + size c)
  unfolding w_combinator lifts size
  of_field k l c f p t =
      let q = field_at p l in
      let a = split (w_field k l) (λ z. w_combinator c (w_fields f z)) (s_field k l) q (q + size c + size_f f) t (omega (arith, size-field k l c f)) (omega arith) (omega arith) (omega arith) (first_none _) none_under (over_both (over (in-rangeK c q) (omega arith)) (over (in-rangeF f (q + size c)) (omega arith))) in
      let b = split (w_combinator c) (w_fields f) (s_comb c) (q + size c) (q + size c + size_f f) a.1 refl refl (omega arith) (omega arith) (appended _ _) (under (in-rangeK c q) (omega arith)) (over (in-rangeF f (q + size c)) (omega arith)) in
      (a.0, b.0, b.1)

  pub of_const : (l : Name) (x : Text) (f : Fields) (p : ℕ) → WholeF (const l x f) p → Raw (w_const l x) p p (const_end p l x) × WholeF f (const_end p l x)
  unfolding w_combinator lifts
  of_const l x f p t = split (w_const l x) (w_fields f) (s_const l x) (const_end p l x) (const_end p l x + size_f f) t (omega (arith, size_constant l x f)) (omega (arith, adds (w_name l) (s_name l) (w_text x []))) (omega arith) (omega arith) (first_none _) none_under (over (in-rangeF f (const_end p l x)) (omega arith))

  pub of_case : (l : List ℕ) (c : Combinator) (f : Cases) (k : CaseKind) (p : ℕ) → WholeC (case l c f) k p → Raw (w_label k l) p p (case_at p k l) × Kid c (case_at p k l) × WholeC f k (case_at p k l + size c)
  unfolding w_combinator lifts size
  of_case l c f k p t =
      let q = case_at p k l in
      let a = split (w_label k l) (λ z. w_combinator c (w_cases f k z)) (s_label k l) q (q + size c + size_c f k) t (omega (arith, size-case l c f k)) refl (omega arith) (omega arith) (first_none _) none_under (over_both (over (in-rangeK c q) (omega arith)) (over (in-rangeC f k (q + size c)) (omega arith))) in
      let b = split (w_combinator c) (w_cases f k) (s_comb c) (q + size c) (q + size c + size_c f k) a.1 refl refl (omega arith) (omega arith) (appended _ _) (under (in-rangeK c q) (omega arith)) (over (in-rangeC f k (q + size c)) (omega arith)) in
      (a.0, b.0, b.1)
