-- Where the tables hold the records, the model is the one by places and records.
use mathlib.Core.Path.{◌≡◌, refl, sym, ap, ◌∙◌}
use mathlib.Core.List.{List, [], ◌∷◌, ◌++◌, append_assoc, append-nil, map}
use Prim.Native.Nat.{ℕ, zero, suc, ◌+◌, ◌-◌, ◌%◌, ◌≤◌, ◌<◌, min}
use native.Mathlib.Numerals.{add-one, sub-one}
use native.Mathlib.Omega.{arith}
use lib.Dec.{eqb-suc-zero}
use lib.ListN.{length, get_or, drop, length-drop}
use Rattle.definition.specs.Res.{Maybe, absent, just}
use Rattle.definition.specs.Tree.{Name, Combinator, plain, chained, Inner, invocation}
use Rattle.definition.specs.Write.{w_u16, w_name, w_all, w_list, w_combinator, w_inner}
use Rattle.definition.specs.Macros.{inner_of}
use Rattle.laws.proofs.Splits.{s_inner}
use Rattle.laws.proofs.Sizes.{adds, size_i, size_i_some}
use Rattle.buffer.specs.writes.Buf.{part, name_bytes}
use Rattle.buffer.proofs.writes.Put.{part_none, part_more}
use Rattle.lift_tables.specs.tables.Rows.{type_at, row_of}
use Rattle.lifting.specs.Records.{Ref, own, passed, Record, find, call}
use Rattle.lifting.specs.Calls as by_records
use Rattle.lifting.specs.Calls.{going, with_calls, ref_at, ref_end, ref_bytes, param_bytes}
use Rattle.lifting.proofs.Calls.{calls_end, calls_copy, calls_stretch}
use Rattle.lifting.proofs.Refs.{AllRefs}
use Rattle.lifting.proofs.Standing.{Stood}
use Rattle.write_result.specs.lifted.Model as model
use Rattle.write_result.specs.invocation.Invocation.{names_bytes, called_bytes, call_bytes}
use Rattle.write_result.specs.splice.Model as by-numbers
use Rattle.write_result.specs.splice.Model.{Tables, goes, on_from, spliced}
use Rattle.walker.specs.ends.Ends.{inner_end_of}
use Rattle.walker.proofs.ends.Ends.{inner_end_lem}
use Rattle.write_result.specs.lifted.Model.{passed_bytes, params_bytes}
use Rattle.write_result.specs.result.Held.{Numbers}

-- "a name 255"
abbrev pub Short : List Name → Type 0
Short [] = Unit {0}
Short (n ∷ ns) = (length n ≤ 255) × Short ns

-- k is one more than the number of this record's row, and its names are short
pub record Known (t : Tables) (r : Record) (k : ℕ) : Type 0 where
  pub numbers : Numbers t r k
  pub named : length r.name ≤ 255
  pub needed : Short r.params

abbrev pub Knows : Tables → Maybe Record → ℕ → Type 0
Knows t absent k = k ≡ 0
Knows t (just r) k = Known t r k

-- names and calls
pub name_is : (n y : List ℕ) → length n ≤ 255 → name_bytes n ++ y ≡ w_name n y
unfolding name_bytes w_name
name_is n y h = let e : length n % 256 ≡ length n = omega arith in rw e

names_are : (ns : List Name) (y : List ℕ) → Short ns → names_bytes ns ++ y ≡ w_all w_name ns y
unfolding names_bytes w_all
names_are [] y h = refl
names_are (n ∷ ns) y h = append_assoc (name_bytes n) (names_bytes ns) y ∙ name_is n (names_bytes ns ++ y) h.0 ∙ ap (w_name n) (names_are ns y h.1)

pub u16_is : (n : ℕ) (y : List ℕ) → w_u16 n [] ++ y ≡ w_u16 n y
unfolding w_u16
u16_is n y = refl

called_are : (r : Record) (y : List ℕ) → length r.name ≤ 255 → Short r.params → called_bytes (row_of r) ++ y ≡ w_inner (invocation r.name r.params) y
unfolding called_bytes w_inner w_list
called_are r y h k =
    let a : List ℕ = w_u16 (length r.params) [] in
    ap (15 ∷◌) (append_assoc (name_bytes r.name) (a ++ names_bytes r.params) y ∙ name_is r.name ((a ++ names_bytes r.params) ++ y) h
    ∙ ap (w_name r.name) (append_assoc a (names_bytes r.params) y ∙ ap (a ++◌) (names_are r.params y k) ∙ u16_is (length r.params) (w_all w_name r.params y)))

call_is : (r : Record) (y : List ℕ) → length r.name ≤ 255 → Short r.params → call_bytes (row_of r) ++ y ≡ w_combinator (call r) y
unfolding call_bytes w_combinator call
call_is r y h k = append_assoc (called_bytes (row_of r)) (0 ∷ []) y ∙ called_are r (0 ∷ y) h k

one_byte : (s : List ℕ) (p : ℕ) → p < length s → part p (suc p) s ≡ get_or s p 0 ∷ []
one_byte s p h = rw (← (add-one p)) (part_more p p s (omega arith) h ∙ rw (part_none p s))

-- what stands at a place lies in the bytes
pub room : (s : List ℕ) (p : ℕ) (l : List ℕ) → drop p s ≡ l → 0 < length l → p + length l ≡ length s
room s p l e h = let a : length s - p ≡ length l = sym (length-drop p s) ∙ ap length e in omega arith

module _ (t : Tables) (rs : List Record) (agree : (p : ℕ) → p < length t.book → Knows t (find rs p) (get_or t.number p 0)) where
  placed_is : (at : ℕ) (m : Maybe Record) (k : ℕ) → at < length t.book → Knows t m k → (f g : ℕ → List ℕ) → ((l : ℕ) → f l ≡ g l)
      → by-numbers.placed t k at f ≡ by_records.placed m at (get_or t.book at 0) g
  unfolding by-numbers.placed by_records.placed
  placed_is at absent k h a f g e = rw (a, one_byte t.book at h, e 0)
  placed_is at (just r) k h a f g e = rw (a.numbers.is, a.numbers.holds, e (r.end - suc at)) (call_is r (g (r.end - suc at)) a.named a.needed)

  goes_is : (n at left : ℕ) → at + n ≤ length t.book → goes t n at left ≡ going t.book rs n at left
  unfolding goes going
  goes_is zero at left h = refl
  goes_is (suc n) at (suc left) h = goes_is n (suc at) left (omega arith)
  goes_is (suc n) at zero h = placed_is at (find rs at) (get_or t.number at 0) (omega arith) (agree at (omega arith)) _ _ (λ left. goes_is n (suc at) left (omega arith))

  on_is : (from to : ℕ) → from ≤ to → to ≤ length t.book → on_from t from to ≡ with_calls t.book rs from to
  unfolding on_from with_calls
  on_is from to h k = goes_is (to - from) from 0 (omega arith)

  pub spliced_opens : (from to : ℕ) → from < to → to ≤ length t.book → spliced t from to ≡ get_or t.book from 0 ∷ with_calls t.book rs (suc from) to
  unfolding spliced
  spliced_opens from to h k = let e : min (suc from) to ≡ suc from = omega arith in rw (e, one_byte t.book from (omega arith), on_is (suc from) to (omega arith) k)

  pub spliced_goes : (from to : ℕ) → from < to → to ≤ length t.book → find rs from ≡ absent → spliced t from to ≡ with_calls t.book rs from to
  spliced_goes from to h k e = spliced_opens from to h k ∙ sym (calls_copy t.book rs from to h e)

  -- types
  module _ (short : length t.book ≤ 65535) where
    end_is : (i : Inner) (p : ℕ) (z : List ℕ) → drop p t.book ≡ w_inner i z → (inner_end_of t.book p ≡ p + size_i i) × (p + size_i i ≤ length t.book)
    unfolding size_i
    end_is i p z e =
        let n : length (w_inner i z) ≡ length (w_inner i []) + length z = adds (w_inner i) (s_inner i) z in
        let m = room t.book p (w_inner i z) e (omega (arith, size_i_some i)) in
        (inner_end_lem short i z (record { is = e; reach = omega arith }), omega arith)

    inner_at : (c : Combinator) (p : ℕ) (z : List ℕ) → drop p t.book ≡ w_combinator c z → (inner_end_of t.book p ≡ p + size_i (inner_of c)) × (p + size_i (inner_of c) ≤ length t.book)
    unfolding w_combinator inner_of
    inner_at (plain i) p z e = end_is i p (0 ∷ z) e
    inner_at (chained i c) p z e = end_is i p (1 ∷ w_combinator c z) e

    passed_is : (p e : ℕ) (m : Maybe Record) (k : ℕ) → find rs p ≡ m → Knows t m k → inner_end_of t.book p ≡ e → p < e → e ≤ length t.book
        → passed_bytes t p k ≡ by_records.type_bytes m (with_calls t.book rs p e)
    unfolding passed_bytes by_records.type_bytes
    passed_is p e absent k f a g h j = rw (a, g) (spliced_goes p e h j f)
    passed_is p e (just r) k f a g h j = rw (a.numbers.is, eqb-suc-zero, sub-one, a.numbers.holds) (sym (append-nil (called_bytes (row_of r))) ∙ called_are r [] a.named a.needed)

    type_is : (q : Ref) → Stood t.book rs q → model.type_bytes t (type_at q) ≡ ref_bytes t.book rs q
    unfolding model.type_bytes ref_bytes ref_at ref_end by_records.type_bytes
    type_is (own i p) w =
        let f = end_is i p w.rest w.stands in
        let e : find rs p ≡ absent = w.clear p (omega arith) (omega (arith, size_i_some i)) (λ k. k) in
        rw (e, f.0) (sym (calls_stretch t.book rs p (p + size_i i) (p + size_i i) (omega arith) (omega arith) f.1 (λ x a b. w.clear x a b (λ k. k)) ∙ rw (calls_end t.book rs (p + size_i i) (p + size_i i) (omega arith)) (append-nil (part p (p + size_i i) t.book))))
    type_is (passed c p) w =
        let f = inner_at c p w.rest w.stands in
        passed_is p (p + size_i (inner_of c)) (find rs p) (get_or t.number p 0) refl (agree p (omega (arith, f.1, size_i_some (inner_of c)))) f.0 (omega (arith, size_i_some (inner_of c))) f.1

    params_are : (ns : List Name) (ts : List Ref) (y : List ℕ) → Short ns → AllRefs (Stood t.book rs) ts → params_bytes t ns (map type_at ts) ++ y ≡ param_bytes t.book rs ns ts y
    unfolding params_bytes param_bytes
    params_are [] ts y h k = refl
    params_are (n ∷ ns) [] y h k = refl
    params_are (n ∷ ns) (q ∷ ts) y h k =
        let b : List ℕ = model.type_bytes t (type_at q) in
        let c : List ℕ = params_bytes t ns (map type_at ts) in
        append_assoc (name_bytes n ++ b) c y ∙ append_assoc (name_bytes n) b (c ++ y) ∙ name_is n (b ++ (c ++ y)) h.0
        ∙ ap (w_name n) (rw (type_is q k.0, params_are ns ts y h.1 k.1))

    -- a lifted definition
    pub lifted_are : (r : Record) → length r.name ≤ 255 → Short r.params → AllRefs (Stood t.book rs) r.types → r.at < r.end → r.end ≤ length t.book
        → model.lifted_bytes t (row_of r) ≡ by_records.lifted_bytes t.book rs (just r)
    unfolding model.lifted_bytes by_records.lifted_bytes
    lifted_are r n h k a b =
        let u : List ℕ = w_u16 (length r.params) [] in
        let p : List ℕ = params_bytes t r.params (map type_at r.types) in
        let y : List ℕ = get_or t.book r.at 0 ∷ with_calls t.book rs (suc r.at) r.end in
        rw (spliced_opens r.at r.end a b)
        (name_is r.name ((u ++ p) ++ y) n ∙ ap (w_name r.name) (append_assoc u p y ∙ ap (u ++◌) (params_are r.params r.types y h k) ∙ u16_is (length r.params) (param_bytes t.book rs r.params r.types y)))
