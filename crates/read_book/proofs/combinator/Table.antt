-- Bytes that stand in a table, by the numbers that the code compares them with.
use mathlib.Core.Path.{◌≡◌, refl}
use mathlib.Core.List.{List, [], ◌∷◌}
use mathlib.Core.Bool.{Bool, true, false, ◌||◌, ◌&&◌, false≢true}
use mathlib.Core.Logic.{⊎_elim}
use Prim.Native.Nat.{ℕ, zero, suc, ◌≤◌, ◌<◌}
use native.Mathlib.Omega.{arith}
use borrow.Author.Tests.{le-leb, lt-leb, ne_eqb}
use lib.Dec.{eqb}
use lib.ListN.{length, get_or, drop, get_or-eq_default}
use Rattle.std.specs.Prelude.{Ok, Err, IsErrAnd}
use Rattle.std.proofs.lemmas.Bool.{cases_lt}
use Rattle.laws.proofs.Tests.{both_true}
use Rattle.definition.specs.Code.{Code}
use Rattle.definition.specs.Res.{Maybe, absent, just, Res, bad, ok, ◌>>=◌}
use Rattle.definition.specs.Tree.{Leaf, never, arrays, FieldKind, ordinary, dependent}
use Rattle.definition.specs.Read.{byte, known, one_of, flags, tags, case_kinds, field_kinds, text, label, Tag, is_leaf, is_struct, is_wrap, is_choice, is_vec, is_array, is_bytes, is_option, is_invocation, is_macro_invocation, holds, is_const}
use Rattle.read_book.specs.cursor.Item.{among}
use Rattle.read_book.specs.cursor.Ends.{Walked, Took, Gives, Ends}
use Rattle.read_book.specs.declared.cursor.Cursor.{Cursor}
use Rattle.read_book.specs.declared.cursor.Fault.{Fault}
use Rattle.read_book.proofs.cursor.Laws.{handed, fails_as}
use Rattle.read_book.specs.combinator.Tags.{or_else, tag_of, case_kind_of}
use Rattle.read_book.proofs.name_list.Bind.{after, stops, same_bad}

-- a table with an entry for each number from low to high, and for no other
pub record Spans {A : Type 0} (t : List (Maybe A)) (d : A) (low high : ℕ) : Type 0 where
  pub inside : (b : ℕ) → low ≤ b → b ≤ high → get_or t b absent ≡ just (or_else (get_or t b absent) d)
  pub below : (b : ℕ) → b < low → get_or t b absent ≡ absent
  pub above : (b : ℕ) → high < b → get_or t b absent ≡ absent

module _ {A : Type 0} where
  abbrev Full : List (Maybe A) → Type 0
  Full [] = Unit
  Full (absent ∷ t) = ⊥
  Full (just a ∷ t) = Full t

  full : (t : List (Maybe A)) (d : A) → Full t → (b : ℕ) → b < length t → get_or t b absent ≡ just (or_else (get_or t b absent) d)
  full [] d f b h = absurd (omega arith)
  full (absent ∷ t) d f b h = absurd f
  full (just a ∷ t) d f zero h = refl
  full (just a ∷ t) d f (suc b) h = full t d f b (omega arith)

  from_zero : (t : List (Maybe A)) (d : A) (n : ℕ) → Full t → length t ≡ suc n → Spans t d 0 n
  from_zero t d n f e = record {
    inside = λ b l h. full t d f b (omega arith);
    below = λ b h. absurd (omega arith);
    above = λ b h. get_or-eq_default t absent (omega arith);
  }

  from_one_in : (t : List (Maybe A)) (d : A) → Full t → (b : ℕ) → 1 ≤ b → b ≤ length t → get_or (absent ∷ t) b absent ≡ just (or_else (get_or (absent ∷ t) b absent) d)
  from_one_in t d f zero l h = absurd (omega arith)
  from_one_in t d f (suc b) l h = full t d f b (omega arith)

  from_one_below : (t : List (Maybe A)) (b : ℕ) → b < 1 → get_or (absent ∷ t) b absent ≡ absent
  from_one_below t zero h = refl
  from_one_below t (suc b) h = absurd (omega arith)

  from_one : (t : List (Maybe A)) (d : A) (n : ℕ) → Full t → length t ≡ n → Spans (absent ∷ t) d 1 n
  from_one t d n f e = record {
    inside = λ b l h. from_one_in t d f b l (omega arith);
    below = λ b h. from_one_below t b h;
    above = λ b h. get_or-eq_default (absent ∷ t) absent {n = b} (omega arith);
  }

  module _ (t : List (Maybe A)) (d : A) (low high : ℕ) (sp : Spans t d low high) where
    -- a byte of the range is an entry of the table, and what is refused is refused
    one_got : (l : List ℕ) (b : ℕ) (r : List ℕ) → among low high l ≡ ok b r → (one_of t l ≡ ok (or_else (get_or t b absent) d) r) × (low ≤ b) × (b ≤ high)
    unfolding among byte known one_of
    one_got [] b r e = let z : ◌≡◌ {A = ℕ} 0 1 = cc in absurd (omega arith)
    one_got (x ∷ l) b r e =
        ⊎_elim
        (λ (g : x < low). let e' = rw (lt-leb low x g) at e in let z : ◌≡◌ {A = ℕ} 0 1 = cc in absurd (omega arith))
        (λ (g : low ≤ x). ⊎_elim
        (λ (h : high < x). let e' = rw (le-leb low x g, lt-leb x high h) at e in let z : ◌≡◌ {A = ℕ} 0 1 = cc in absurd (omega arith))
        (λ (h : x ≤ high). let e' = rw (le-leb low x g, le-leb x high h) at e in let v : x ≡ b = cc in let w : l ≡ r = cc in rw (← v, ← w) (rw (sp.inside x g h), g, h))
        (cases_lt high x))
        (cases_lt x low)

    one_bad : (l : List ℕ) (k : Code) (r : List ℕ) → among low high l ≡ bad k r → one_of t l ≡ bad k r
    unfolding among byte known one_of
    one_bad [] k r e = same_bad e
    one_bad (x ∷ l) k r e =
        ⊎_elim
        (λ (g : x < low). rw (sp.below x g) (same_bad (rw (lt-leb low x g) at e)))
        (λ (g : low ≤ x). ⊎_elim
        (λ (h : high < x). rw (sp.above x h) (same_bad (rw (le-leb low x g, lt-leb x high h) at e)))
        (λ (h : x ≤ high). let e' = rw (le-leb low x g, le-leb x high h) at e in let z : ◌≡◌ {A = ℕ} 0 1 = cc in absurd (omega arith))
        (cases_lt high x))
        (cases_lt x low)

module _ {A : Type 0} {t : List (Maybe A)} {d : A} {low high : ℕ} (sp : Spans t d low high) {s : List ℕ} {p : ℕ} where
  pub entry : {b : ℕ} {c : Cursor} → Took s p (Ok (b, c)) (among low high (drop p s))
      → (Gives s p (or_else (get_or t b absent) d) c.at (one_of t (drop p s))) × (low ≤ b) × (b ≤ high)
  entry {b} {c} k =
      let o = one_got t d low high sp (drop p s) b (drop c.at s) k.told.gives in
      (record { gives = o.0; along = k.told.along }, o.1, o.2)

  module _ {B : Type 0} (g : A × List ℕ → Res (List ℕ) B) where
    pub tabled : {b : ℕ} {c : Cursor} {r : Walked} → Took s p (Ok (b, c)) (among low high (drop p s))
        → (low ≤ b → b ≤ high → Ends s c.at r (g (or_else (get_or t b absent) d, drop c.at s))) → Ends s p r (one_of t (drop p s) >>= g)
    tabled k n = let o = entry k in after g o.0 (n o.1 o.2)

    pub unread : {f : Fault} → Took s p (Err f) (among low high (drop p s)) → Ends s p (Err f) (one_of t (drop p s) >>= g)
    unread k = stops g (fails_as (one_of t (drop p s)) k.told (λ c w. one_bad t d low high sp (drop p s) c _ w))

    -- what `?` hands on
    pub untabled : {f : Fault} {r : Walked} → Took s p (Err f) (among low high (drop p s)) → IsErrAnd r (λ h. h ≡ f) → Ends s p r (one_of t (drop p s) >>= g)
    untabled {r = r} k h = rw (handed r h) (unread k)

-- the tables of document 01
pub of_flags : Spans flags false 0 1
of_flags = from_zero flags false 1 tt refl

pub of_tags : Spans tags (is_leaf never) 1 16
of_tags = from_one _ (is_leaf never) 16 tt refl

pub of_cases : Spans case_kinds arrays 1 3
of_cases = from_one _ arrays 3 tt refl

pub of_fields : Spans field_kinds is_const 1 3
of_fields = from_one _ is_const 3 tt refl

pub flag_off : (b : ℕ) → (b ≡ 1 → ⊥) → b ≤ 1 → b ≡ 0
flag_off b f h = omega arith

-- a field's kind but Const
pub field_holds : (b : ℕ) → 1 ≤ b → b ≤ 3 → (b ≡ 3 → ⊥) → (k : FieldKind) × (or_else (get_or field_kinds b absent) is_const ≡ holds k)
field_holds zero l h f = absurd (omega arith)
field_holds (suc zero) l h f = (ordinary, refl)
field_holds (suc (suc zero)) l h f = (dependent, refl)
field_holds (suc (suc (suc b))) l h f = absurd (f (omega arith))

-- a case's kind but Enums
pub case_text : (b : ℕ) (l : List ℕ) → (b ≡ 1 → ⊥) → label (case_kind_of b) l ≡ text l
unfolding case_kind_of label
case_text zero l f = refl
case_text (suc zero) l f = absurd (f refl)
case_text (suc (suc zero)) l f = refl
case_text (suc (suc (suc zero))) l f = refl
case_text (suc (suc (suc (suc b)))) l f = refl

-- what holds of each number below a bound, by computing it
all : (ℕ → Bool) → ℕ → Bool
all f zero = true
all f (suc n) = f n && all f n

all_at : (f : ℕ → Bool) (n : ℕ) → all f n ≡ true → (i : ℕ) → i < n → f i ≡ true
unfolding all
all_at f zero e i h = absurd (omega arith)
all_at f (suc n) e i h =
    ⊎_elim (λ (g : i < n). all_at f n (both_true (f n) (all f n) e).1 i g) (λ (g : n ≤ i). let w : i ≡ n = omega arith in rw w (both_true (f n) (all f n) e).0) (cases_lt i n)

leafy : Tag → Bool
leafy (is_leaf k) = true
leafy is_struct = false
leafy is_wrap = false
leafy is_choice = false
leafy is_vec = false
leafy is_array = false
leafy is_bytes = false
leafy is_option = false
leafy is_invocation = false
leafy is_macro_invocation = false

abbrev leaf_test : ℕ → Bool
leaf_test b = eqb b 4 || eqb b 5 || eqb b 7 || eqb b 8 || eqb b 9 || eqb b 10 || eqb b 12 || eqb b 15 || eqb b 16 || leafy (tag_of b)

leaf_test_lem : all leaf_test 17 ≡ true
unfolding all leafy tag_of
leaf_test_lem = refl

leaf_is : (t : Tag) → leafy t ≡ true → (k : Leaf) × (t ≡ is_leaf k)
unfolding leafy
leaf_is (is_leaf k) e = (k, refl)
leaf_is is_struct e = absurd (false≢true e)
leaf_is is_wrap e = absurd (false≢true e)
leaf_is is_choice e = absurd (false≢true e)
leaf_is is_vec e = absurd (false≢true e)
leaf_is is_array e = absurd (false≢true e)
leaf_is is_bytes e = absurd (false≢true e)
leaf_is is_option e = absurd (false≢true e)
leaf_is is_invocation e = absurd (false≢true e)
leaf_is is_macro_invocation e = absurd (false≢true e)

-- a tag that is none of those with more than a text
pub leaf_tag : (b : ℕ) → (b ≡ 4 → ⊥) → (b ≡ 5 → ⊥) → (b ≡ 7 → ⊥) → (b ≡ 8 → ⊥) → (b ≡ 9 → ⊥) → (b ≡ 10 → ⊥) → (b ≡ 12 → ⊥) → (b ≡ 15 → ⊥) → (b ≡ 16 → ⊥)
    → (k : Leaf) × (tag_of b ≡ is_leaf k)
unfolding tag_of
leaf_tag b f₄ f₅ f₇ f₈ f₉ f₁₀ f₁₂ f₁₅ f₁₆ =
    ⊎_elim
    (λ (g : b < 17). leaf_is (tag_of b)
    (rw (ne_eqb b 4 f₄, ne_eqb b 5 f₅, ne_eqb b 7 f₇, ne_eqb b 8 f₈, ne_eqb b 9 f₉, ne_eqb b 10 f₁₀, ne_eqb b 12 f₁₂, ne_eqb b 15 f₁₅, ne_eqb b 16 f₁₆)
    at (all_at leaf_test 17 leaf_test_lem b g)))
    (λ (g : 17 ≤ b). (never, rw (get_or-eq_default tags absent {n = b} g)))
    (cases_lt b 17)
