-- What the writing pass writes: every body of the result by places of the expanded book and the records.
use mathlib.Core.Path.{◌≡◌, refl, sym, ap, ◌∙◌}
use mathlib.Core.Bool.{Bool, true, false, cond}
use mathlib.Core.List.{List, [], ◌∷◌, ◌++◌, map, map-append}
use Prim.Native.Nat.{ℕ, suc, ◌+◌, ◌*◌, ◌≤◌}
use native.Mathlib.Omega.{arith}
use lib.Dec.{eqb}
use lib.ListN.{length, drop, length-map}
use Rattle.definition.specs.Res.{Maybe, absent, just, ok}
use Rattle.definition.specs.Tree.{Name, Combinator, Param, Definition, is_format, format, constant, byte_order, macro}
use Rattle.definition.specs.Write.{w_u16, w_name, w_all, w_list, w_combinator, w_inner, w_param, w_definition, kind_of, size_of, w_entries, w_parts, entry_of, w_book}
use Rattle.definition.specs.Size.{size}
use Rattle.laws.proofs.Splits.{Splits, s_u16, s_name, s_all, s_list, s_param, s_definition}
use Rattle.laws.proofs.Sizes.{adds, size_i, head, size-format, size_some}
use Rattle.laws.proofs.Steps.{Gives, value, then, gave}
use Rattle.lifting.specs.Records.{Ref, Record, or_else, find}
use Rattle.lifting.specs.After.{Lift, made_by, definition_of, out_d, lifts_d, out_all, lifts_all, first_at, AllFound}
use Rattle.lifting.specs.Calls.{with_calls, lifted_bytes, kept_bytes, entries_of, joined, book_of, result_bytes}
use Rattle.lifting.specs.Trace.{Trace, Binder, own_binders, params_at, tree_head, trace_all, begin, trace_book}
use Rattle.lifting.proofs.Ranges.{in-range}
use Rattle.lifting.proofs.Calls.{ends, goes_on}
use Rattle.lifting.proofs.Parts.{appended, first_none, under, over, none_under, none_over, Part, Whole, Raw, split}
use Rattle.lifting.proofs.Bytes.{raw, goes_at, bytes_of}
use Rattle.lifting.proofs.Refs.{AllBinders, WellTyped, AllTyped, Typing, trace_types}
use Rattle.lifting.proofs.Standing.{limit, Stood, AllWhole, all_whole, inside, lifted_bytes_lem}
use Rattle.lifting.proofs.Book.{bodies, bodies-cons, in-rangeD, in-rangeAll, was_traced}

abbrev pub w_head : Name → List Param → List ℕ → List ℕ
w_head n ps r = w_name n (w_list w_param ps r)

pub s_head : (n : Name) (ps : List Param) → Splits (w_head n ps)
s_head n ps a b = ap (w_name n) (s_list w_param s_param ps a b) ∙ s_name n (w_list w_param ps a) b

pub head-length : (n : Name) (ps : List Param) → length (w_head n ps []) ≡ head n ps
unfolding head
head-length n ps = adds (w_name n) (s_name n) (w_list w_param ps [])

pub found_typed : (Q : Ref → Type 0) (all : List Record) (x : ℕ) (r : Record) → AllTyped Q all → find all x ≡ just r → WellTyped Q r
unfolding find
found_typed Q [] x r a e = let z : ◌≡◌ {A = ℕ} 0 1 = cc in absurd (omega arith)
found_typed Q (y ∷ all) x r a e = of (find all x) (eqb y.at x) e (λ k. found_typed Q all x r a.1 k)
  where
    of : (m : Maybe Record) (b : Bool) → or_else m (cond b (just y) absent) ≡ just r → (m ≡ just r → WellTyped Q r) → WellTyped Q r
    of (just o) b k go = go k
    of absent true k go = let h : y ≡ r = cc in rw h at a.0
    of absent false k go = let z : ◌≡◌ {A = ℕ} 0 1 = cc in absurd (omega arith)

module _ (s : List ℕ) (rs : List Record) where
  abbrev pub WholeD : Definition → ℕ → Type 0
  WholeD d p = Part s rs (w_definition d) p p (p + size_of d) (lifts_d d p)

  abbrev pub WholeAll : List Definition → ℕ → Type 0
  WholeAll ds p = Part s rs (w_all w_definition ds) p p (p + bodies ds) (lifts_all ds p)

  pub of_cons : (d : Definition) (ds : List Definition) (p : ℕ) → WholeAll (d ∷ ds) p → WholeD d p × WholeAll ds (p + size_of d)
  unfolding w_all lifts_all size_of
  of_cons d ds p t = split s rs (w_definition d) (w_all w_definition ds) (s_definition d) (p + size_of d) (p + size_of d + bodies ds) t (omega (arith, bodies-cons d ds)) refl (omega arith) (omega arith) (appended _ _) (under (in-rangeD d p) (omega arith)) (over (in-rangeAll ds (p + size_of d)) (omega arith))

  -- a format's combinator, at whose place no record stands
  of_format : (n : Name) (ps : List Param) (c : Combinator) (p : ℕ) → WholeD (format n ps c) p → Raw s rs (w_head n ps) p p (p + head n ps) × Whole s rs c (p + head n ps) × (find rs (p + head n ps) ≡ absent)
  unfolding w_definition lifts_d
  of_format n ps c p t =
      let q = p + head n ps in
      let a = split s rs (w_head n ps) (w_combinator c) (s_head n ps) q (q + size c) t (omega (arith, size-format n ps c)) (omega (arith, head-length n ps)) (omega arith) (omega arith) (first_none _) none_under (over (in-range c q) (omega arith)) in (
        a.0,
        record { rest = a.1.rest; stands = a.1.stands; clear = λ x i j h. a.1.clear x (omega arith) j h; found = a.1.found },
        a.1.clear q (omega arith) (omega (arith, size_some c)) (λ k. let r = (in-range c q).range q k in omega arith),
      )

  other_bytes : (d : Definition) (p : ℕ) → Raw s rs (w_definition d) p p (p + size_of d) → w_definition d [] ≡ with_calls s rs p (p + size_of d)
  unfolding size_of
  other_bytes d p t = sym (raw s rs (w_definition d) (s_definition d) t refl (ends s rs (p + size_of d))).is

  kept_bytes_lem : (d : Definition) (p : ℕ) → WholeD d p → w_definition (out_d d p rs) [] ≡ with_calls s rs p (p + size_of d)
  unfolding out_d lifts_d w_definition
  kept_bytes_lem (format n ps c) p t =
      let q = of_format n ps c p t in
      let g = goes_on s rs q.2 (bytes_of s rs c (p + head n ps) q.1 (goes_at s rs {f = p + head n ps + size c} (omega (arith, size-format n ps c)) (ends s rs (p + size_of (format n ps c))))) in
      sym (raw s rs (w_head n ps) (s_head n ps) q.0 (omega (arith, head-length n ps)) g).is
  kept_bytes_lem (constant n x) p t = other_bytes (constant n x) p t
  kept_bytes_lem (byte_order x) p t = other_bytes (byte_order x) p t
  kept_bytes_lem (macro n ps c) p t = other_bytes (macro n ps c) p t

  kept_all : (ds : List Definition) (p : ℕ) → WholeAll ds p → map (λ d. w_definition d []) (out_all ds p rs) ≡ kept_bytes s rs ds p
  unfolding out_all kept_bytes
  kept_all [] p t = refl
  kept_all (d ∷ ds) p t = let q = of_cons d ds p t in rw (kept_bytes_lem d p q.0, kept_all ds (p + size_of d) q.1)

  inside_D : (d : Definition) (p : ℕ) → WholeD d p → AllWhole s rs (lifts_d d p)
  unfolding lifts_d
  inside_D (format n ps c) p t = (inside s rs c (p + head n ps) (of_format n ps c p t).1).0
  inside_D (constant n x) p t = tt
  inside_D (byte_order x) p t = tt
  inside_D (macro n ps c) p t = tt

  pub inside_all : (ds : List Definition) (p : ℕ) → WholeAll ds p → AllWhole s rs (lifts_all ds p)
  unfolding lifts_all
  inside_all [] p t = tt
  inside_all (d ∷ ds) p t = let q = of_cons d ds p t in all_whole s rs (lifts_d d p) (lifts_all ds (p + size_of d)) (inside_D d p q.0) (inside_all ds (p + size_of d) q.1)

  -- the definition's own parameters, each before the combinator
  params_stood : (ps : List Param) (p e : ℕ) → Raw s rs (w_all w_param ps) p p e → p + length (w_all w_param ps []) ≡ e → AllBinders (λ t. Stood s rs t × (limit t ≤ e)) (own_binders ps p)
  unfolding own_binders w_all w_param size_i limit
  params_stood [] p e t h = tt
  params_stood (x ∷ ps) p e t h =
      let k = adds (w_param x) (s_param x) (w_all w_param ps []) in
      let q = p + length (w_param x []) in
      let a = split s rs (w_param x) (w_all w_param ps) (s_param x) q e t refl refl (omega arith) (omega (arith, k)) (first_none []) none_under none_over in
      let o = p + length (w_name x.name []) in
      let m = adds (w_name x.name) (s_name x.name) (w_inner x.type []) in
      let b = split s rs (w_name x.name) (w_inner x.type) (s_name x.name) o (o + size_i x.type) a.0 (omega (arith, m)) refl (omega arith) (omega arith) (first_none []) none_under none_over in
      ((b.1, omega (arith, k, m)), params_stood ps q e a.1 (omega (arith, k)))

  pub own_stood : (n : Name) (ps : List Param) (p : ℕ) → Raw s rs (w_head n ps) p p (p + head n ps) → AllBinders (λ t. Stood s rs t × (limit t ≤ p + head n ps)) (own_binders ps (params_at p n))
  unfolding head w_list w_u16
  own_stood n ps p t =
      let o = p + length (w_name n []) in
      let a = split s rs (w_name n) (w_list w_param ps) (s_name n) o (p + head n ps) t refl refl (omega arith) (omega arith) (first_none []) none_under none_over in
      let b = split s rs (w_u16 (length ps)) (w_all w_param ps) (s_u16 (length ps)) (o + 2) (p + head n ps) a.1 refl refl (omega arith) (omega arith) (first_none []) none_under none_over in
      params_stood ps (params_at p n) (p + head n ps) b.1 (omega arith)

  binders_stood : (q : ℕ) (env : List Binder) → AllBinders (λ t. Stood s rs t × (limit t ≤ q)) env → AllBinders (Stood s rs) env
  binders_stood q [] h = tt
  binders_stood q (b ∷ env) h = (h.0.0, binders_stood q env h.1)

  -- what types the parameters stands in the book
  module _ (head_of : List Record → Record → ℕ) where
    pub trace_all_types : (ds : List Definition) (p : ℕ) (t : Trace) → WholeAll ds p → AllTyped (Stood s rs) t.records → Gives (Typing (Stood s rs)) (trace_all head_of ds p t)
    unfolding trace_all
    trace_all_types [] p t w a = value a
    trace_all_types (format n ps c ∷ ds) p t w a =
        let q = of_cons (format n ps c) ds p w in
        let f = of_format n ps c p q.0 in
        then (trace_types head_of (Stood s rs) c (p + head n ps) n (own_binders ps (params_at p n)) t (inside s rs c (p + head n ps) f.1).1 (binders_stood (p + head n ps) (own_binders ps (params_at p n)) (own_stood n ps p f.0)) a) _ λ u v h.
        trace_all_types ds (p + size_of (format n ps c)) v q.1 h
    trace_all_types (constant n x ∷ ds) p t w a = trace_all_types ds (p + size_of (constant n x)) t (of_cons (constant n x) ds p w).1 a
    trace_all_types (byte_order x ∷ ds) p t w a = trace_all_types ds (p + size_of (byte_order x)) t (of_cons (byte_order x) ds p w).1 a
    trace_all_types (macro n ps c ∷ ds) p t w a = trace_all_types ds (p + size_of (macro n ps c)) t (of_cons (macro n ps c) ds p w).1 a

  lifted_all : (ls : List Lift) → AllFound rs ls → AllWhole s rs ls → AllTyped (Stood s rs) rs
      → map (λ d. w_definition d []) (map (definition_of rs) ls) ≡ map (λ x. lifted_bytes s rs (find rs x)) (map (λ l. l.at) ls)
  lifted_all [] f w a = refl
  lifted_all (l ∷ ls) f w a = rw (lifted_bytes_lem s rs l f.0 w.0 (found_typed (Stood s rs) rs l.at f.0.of a f.0.found), lifted_all ls f.1 w.1 a)

-- where the bodies begin
drop_entries : (at : ℕ) (ds : List Definition) (r : List ℕ) → drop (6 * length ds) (w_entries at (map entry_of ds) r) ≡ r
unfolding w_entries w_u16 entry_of
drop_entries at [] r = refl
drop_entries at (d ∷ ds) r = let e : 6 * suc (length ds) ≡ suc (suc (suc (suc (suc (suc (6 * length ds)))))) = omega arith in rw e (drop_entries (at + size_of d) ds r)

entries-append : (at : ℕ) (ds : List Definition) (r z : List ℕ) → w_entries at (map entry_of ds) r ++ z ≡ w_entries at (map entry_of ds) (r ++ z)
unfolding w_entries w_u16 entry_of
entries-append at [] r z = refl
entries-append at (d ∷ ds) r z = rw (entries-append (at + size_of d) ds r z)

pub bodies_stand : (ds : List Definition) (z : List ℕ) → drop (first_at ds) (w_book ds ++ z) ≡ w_all w_definition ds z
unfolding w_book w_parts w_u16
bodies_stand ds z =
    let n : first_at ds ≡ suc (suc (6 * length ds)) = omega arith in
    let k : length (map entry_of ds) ≡ length ds = length-map ds entry_of in
    rw (n, k, entries-append (2 + 6 * length ds) ds (w_all w_definition ds []) z, drop_entries (2 + 6 * length ds) ds (w_all w_definition ds [] ++ z)) (sym (s_all w_definition s_definition ds [] z))

-- a book by its bodies' bytes
entries_of_lem : (ds : List Definition) → entries_of (map kind_of ds) (map (λ d. w_definition d []) ds) ≡ map entry_of ds
unfolding entries_of entry_of size_of
entries_of_lem [] = refl
entries_of_lem (d ∷ ds) = rw (entries_of_lem ds)

joined_is : (ds : List Definition) → joined (map (λ d. w_definition d []) ds) ≡ w_all w_definition ds []
unfolding joined w_all
joined_is [] = refl
joined_is (d ∷ ds) = rw (joined_is ds) (sym (s_definition d [] (w_all w_definition ds [])))

book_of_lem : (ds : List Definition) → w_book ds ≡ book_of (map kind_of ds) (map (λ d. w_definition d []) ds)
unfolding w_book w_parts book_of
book_of_lem ds = rw (entries_of_lem ds, joined_is ds, length-map ds entry_of, length-map ds (λ d. w_definition d []))

kind_out : (d : Definition) (p : ℕ) (rs : List Record) → kind_of (out_d d p rs) ≡ kind_of d
unfolding out_d kind_of
kind_out (format n ps c) p rs = refl
kind_out (constant n x) p rs = refl
kind_out (byte_order x) p rs = refl
kind_out (macro n ps c) p rs = refl

kinds_out : (ds : List Definition) (p : ℕ) (rs : List Record) → map kind_of (out_all ds p rs) ≡ map kind_of ds
unfolding out_all
kinds_out [] p rs = refl
kinds_out (d ∷ ds) p rs = rw (kind_out d p rs, kinds_out ds (p + size_of d) rs)

kinds_lifted : (rs : List Record) (ls : List Lift) → map kind_of (map (definition_of rs) ls) ≡ map (λ x. is_format) (map (λ l. l.at) ls)
unfolding definition_of made_by kind_of
kinds_lifted rs [] = refl
kinds_lifted rs (l ∷ ls) = rw (of (find rs l.at), kinds_lifted rs ls)
  where
    of : (m : Maybe Record) → kind_of (made_by m rs l) ≡ is_format
    of absent = refl
    of (just r) = refl

pub written : (ds : List Definition) (z : List ℕ) (t : Trace) → trace_book tree_head ds ≡ ok tt t
    → w_book (out_all ds (first_at ds) t.records ++ map (definition_of t.records) (lifts_all ds (first_at ds))) ≡ result_bytes (w_book ds ++ z) ds t.records t.finished
unfolding trace_book begin result_bytes
written ds z t e =
    let s = w_book ds ++ z in
    let rs = t.records in
    let k = was_traced ds t e in
    let w : WholeAll s rs ds (first_at ds) = record { rest = z; stands = bodies_stand ds z; clear = λ x i j h. k.only x h; found = k.found } in
    let a = gave (trace_all_types s rs tree_head ds (first_at ds) (begin ds) w tt) e in
    let o = out_all ds (first_at ds) rs in
    let m = map (definition_of rs) (lifts_all ds (first_at ds)) in
    rw (
      book_of_lem (o ++ m),
      map-append kind_of o m,
      map-append (λ d. w_definition d []) o m,
      kinds_out ds (first_at ds) rs,
      kinds_lifted rs (lifts_all ds (first_at ds)),
      kept_all s rs ds (first_at ds) w,
      lifted_all s rs (lifts_all ds (first_at ds)) k.found (inside_all s rs ds (first_at ds) w) a,
      k.finished,
    )
