-- The whole list: `lift_book_of` and `trace_book` say the same.
use mathlib.Core.Path.{◌≡◌, refl, sym, ap, ◌∙◌}
use mathlib.Core.Logic.{◌⊎◌, inl, inr}
use mathlib.Core.List.{List, [], ◌∷◌, map}
use Prim.Native.Nat.{ℕ, suc, ◌+◌, ◌<◌}
use native.Mathlib.Omega.{arith}
use lib.ListN.{length, length-append, length-map}
use Rattle.definition.specs.Res.{bad, absent, just, Res, ok}
use Rattle.definition.specs.Answer.{outcome}
use Rattle.definition.specs.Tree.{Param, Definition, format, constant, byte_order, macro}
use Rattle.definition.specs.Write.{w_all, w_definition, size_of}
use Rattle.definition.specs.Lift.{full, State, walk_all, start, lift_book_of}
use Rattle.laws.proofs.Splits.{s_definition}
use Rattle.laws.proofs.Sizes.{adds, head, size-format, size_some}
use Rattle.laws.proofs.Measure.{measures}
use Rattle.lifting.specs.Records.{Record, find}
use Rattle.lifting.specs.After.{type_of, out_d, lifts_d, out_all, lifts_all, first_at, Lift, Stands, Found, AllFound}
use Rattle.lifting.specs.Trace.{Trace, tree_head, own_binders, params_at, trace_all, begin, trace_book, traced}
use Rattle.lifting.specs.Laws.{Traced}
use Rattle.lifting.proofs.Both.{Both, refusals, values, then, first_then}
use Rattle.lifting.proofs.Found.{later_self, at-or_none}
use Rattle.lifting.proofs.Ranges.{Between, none, wider, both, apart, in-range}
use Rattle.lifting.proofs.Agree.{Matches, param_of, Means, New, Makes, nothing_made, one, two, new_left, new_right, walk_both}

-- the bytes of the bodies
abbrev pub bodies : List Definition → ℕ
bodies ds = length (w_all w_definition ds [])

pub bodies-cons : (d : Definition) (ds : List Definition) → bodies (d ∷ ds) ≡ size_of d + bodies ds
unfolding w_all size_of
bodies-cons d ds = adds (w_definition d) (s_definition d) (w_all w_definition ds [])

pub in-rangeD : (d : Definition) (p : ℕ) → Between p (p + size_of d) (lifts_d d p)
unfolding lifts_d
in-rangeD (format n ps c) p = wider (in-range c (p + head n ps)) (omega arith) (omega (arith, size-format n ps c))
in-rangeD (constant n x) p = none
in-rangeD (byte_order x) p = none
in-rangeD (macro n ps c) p = none

pub in-rangeAll : (ds : List Definition) (p : ℕ) → Between p (p + bodies ds) (lifts_all ds p)
unfolding lifts_all
in-rangeAll [] p = none
in-rangeAll (d ∷ ds) p = both (wider (in-rangeD d p) (omega arith) (omega (arith, bodies-cons d ds))) (wider (in-rangeAll ds (p + size_of d)) (omega arith) (omega (arith, bodies-cons d ds)))

-- the definition's own parameters
pub own_means : (ps : List Param) (p : ℕ) (rs : List Record) → Means ps (own_binders ps p) rs
unfolding own_binders type_of
own_means ps p rs = record { meant = λ later l. same later ps p }
  where
    same : (later : List Record) (ps : List Param) (p : ℕ) → ps ≡ map (param_of later) (own_binders ps p)
    same later [] p = refl
    same later (x ∷ ps) p = ap (x ∷◌) (same later ps _)

walk_all_both : (ds : List Definition) (p : ℕ) (s : State) (t : Trace) → Matches s t → New (lifts_all ds p) t.records
    → Both (Makes (out_all ds p) (lifts_all ds p) s t) (walk_all full ds s) (trace_all tree_head ds p t)
unfolding walk_all trace_all out_all lifts_all out_d lifts_d
walk_all_both [] p s t m new = values (nothing_made [] m)
walk_all_both (format n ps c ∷ ds) p s t m new =
    then (walk_both c (p + head n ps) n ps (own_binders ps (params_at p n)) s t m (own_means ps (params_at p n) t.records) (new_left _ _ new)) _ _ λ d u x v g.
    first_then (walk_all_both ds (p + size_of (format n ps c)) u v g.same (new_right new g (apart (in-range c (p + head n ps)) (in-rangeAll ds (p + size_of (format n ps c))) (inl (omega (arith, size-format n ps c)))))) _ λ es u y v h.
    values (two (λ d es. format n ps d ∷ es) g h)
walk_all_both (constant n x ∷ ds) p s t m new = first_then (walk_all_both ds (p + size_of (constant n x)) s t m new) _ λ es u y v h. values (one (constant n x ∷◌) h)
walk_all_both (byte_order x ∷ ds) p s t m new = first_then (walk_all_both ds (p + size_of (byte_order x)) s t m new) _ λ es u y v h. values (one (byte_order x ∷◌) h)
walk_all_both (macro n ps c ∷ ds) p s t m new = first_then (walk_all_both ds (p + size_of (macro n ps c)) s t m new) _ λ es u y v h. values (one (macro n ps c ∷◌) h)

book_both : (ds : List Definition) → Both (Makes (out_all ds (first_at ds)) (lifts_all ds (first_at ds)) (start ds) (begin ds)) (walk_all full ds (start ds)) (trace_book tree_head ds)
unfolding trace_book begin start find
book_both ds = walk_all_both ds (first_at ds) (start ds) (begin ds) (record { taken = refl; bytes = refl; defns = refl }) (record { new = λ x h. refl })

-- the result of codes 7 to 10, by the records
pub elaborated_by : (ds : List Definition) → outcome (lift_book_of ds) ≡ traced ds (trace_book tree_head ds)
unfolding lift_book_of outcome traced
elaborated_by ds = of (book_both ds)
  where
    of : {m : Res State (List Definition)} {n : Res Trace (Unit {0})} → Both (Makes (out_all ds (first_at ds)) (lifts_all ds (first_at ds)) (start ds) (begin ds)) m n → outcome m ≡ traced ds n
    of refusals = refl
    of (values {t = t} g) = let l = later_self t.records in rw (g.body t.records l, g.made t.records l)

pub length-out_all : (ds : List Definition) (p : ℕ) (rs : List Record) → length (out_all ds p rs) ≡ length ds
unfolding out_all
length-out_all [] p rs = refl
length-out_all (d ∷ ds) p rs = ap suc (length-out_all ds _ rs)

forward : (rs : List Record) (ls : List Lift) → AllFound rs ls → ((x : ℕ) → (Stands x ls → ⊥) → find rs x ≡ absent) → (x : ℕ) (r : Record) → find rs x ≡ just r → (r.at ≡ x) × (x < r.end)
forward rs ls f only x r e = of (at-or_none rs ls x f)
  where
    of : ((l : Lift) × Found rs l × (l.at ≡ x)) ⊎ (Stands x ls → ⊥) → (r.at ≡ x) × (x < r.end)
    of (inl (l, h, k)) =
        let g : find rs x ≡ just h.of = rw k at h.found in
        let same : h.of ≡ r = cc in
        rw (← same) (h.begins ∙ k, omega (arith, h.ends, size_some l.what))
    of (inr n) = let a : find rs x ≡ absent = only x n in let z : ◌≡◌ {A = ℕ} 0 1 = cc in absurd (omega arith)

pub was_traced : (ds : List Definition) (t : Trace) → trace_book tree_head ds ≡ ok tt t → Traced ds t
unfolding begin start find
was_traced ds t e = of (walk_all full ds (start ds)) refl (rw e at (book_both ds))
  where
    of : (m : Res State (List Definition)) → walk_all full ds (start ds) ≡ m → Both (Makes (out_all ds (first_at ds)) (lifts_all ds (first_at ds)) (start ds) (begin ds)) m (ok tt t) → Traced ds t
    of (bad k u) w v = elim v [ ]
    of (ok es u) w (values g) =
        let l = later_self t.records in
        let z = measures full ds es u w in
        let b = g.body t.records l in
        let k = g.made t.records l in
        record {
          found = g.found t.records l;
          only = λ x h. g.only x h;
          forward = forward t.records (lifts_all ds (first_at ds)) (g.found t.records l) (λ x h. g.only x h);
          finished = g.finished;
          bytes = sym g.same.bytes ∙ (rw (← b, ← k) z.0);
          defns = sym g.same.defns ∙ z.1 ∙ (rw (b, k) (simp (length-append, length-map, length-out_all) (omega arith)));
        }
