-- The walk of the naming pass refuses as the trace does, and hands over the same.
use mathlib.Core.Path.{◌≡◌, refl, sym, ap, ◌∙◌}
use mathlib.Core.Logic.{inl, inr}
use mathlib.Core.Bool.{Bool, true, false, not, ◌&&◌}
use mathlib.Core.List.{List, [], ◌∷◌, ◌++◌, map, map-append, append-nil}
use Prim.Native.Nat.{ℕ, suc, ◌+◌, ◌≤◌}
use native.Mathlib.Omega.{arith}
use lib.Dec.{leb}
use lib.ListN.{length, get_or, length-append, length-map}
use borrow.Author.Tests.{leb-true}
use Rattle.definition.specs.Code.{Code, result_long}
use Rattle.definition.specs.Res.{Maybe, Res, ok, ◌>>=◌, require}
use Rattle.definition.specs.Tree.{Name, CaseKind, Combinator, plain, chained, Inner, leaf, struct, choice, shell, bytes, invocation, macro_invocation, Fields, no_field, field, const, Cases, no_case, case, Definition, format, constant, byte_order, macro}
use Rattle.definition.specs.Names.{sorted, segment, child, case_segment, shell_segment, fresh}
use Rattle.definition.specs.Write.{w_name, w_text, w_selector, w_label, size_of}
use Rattle.definition.specs.Size.{size}
use Rattle.definition.specs.Collect.{anonymous, free, leftover}
use Rattle.laws.proofs.Tests.{both_true}
use Rattle.laws.proofs.Sizes.{size_i, size_f, size_c, head, size-format}
use Rattle.lifting.specs.Records.{Ref, Record, find, call}
use Rattle.lifting.specs.After.{chain_at, fields_at, cases_at, shell_at, field_at, const_end, case_at, replaced, out, out_i, out_f, out_c, lift_at, itself, lifts, lifts_i, lifts_f, lifts_c, lifts_d, lifts_all, first_at}
use Rattle.lifting.specs.Trace.{Trace, Binder, Tracing, enter, finish as finishTrace, fits as fitsTrace, bind_ref, tree_head, lifting, trace_by, trace, trace_i, trace_f, trace_c, own_binders, params_at, trace_all, begin, trace_book}
use Rattle.lifting.proofs.Both.{Both, refusals, values, then, first_then}
use Rattle.lifting.proofs.Found.{later_on, find_here, find_other, stands_left, stands_right}
use Rattle.lifting.proofs.Ranges.{apart, in-range, in-rangeI, in-rangeF, in-rangeC, in-rangeK}
use Rattle.lifting.proofs.Agree.{New, new_left, none_yet, later_made, new_inside}
use Rattle.lifting.proofs.Book.{in-rangeAll}
use Rattle.lift_tables.specs.tables.Rows.{row_of, last_from}
use Rattle.lift_tables.specs.enter_lift.Bound.{Bound}
use Rattle.lift_tables.specs.enter_lift.Sheet.{Sheet, call_size, head_size, entered, fits, enter_with}
use Rattle.lift_tables.specs.tables.Numbers.{plus}
use Rattle.lift_combinator.specs.naming.Walk.{Extent, Start, Step, starts, finish, called, visit, binds, walk, walk_i, walk_f, walk_c}
use Rattle.expand_definitions.specs.walked.Book.{own_bound, walk_all, blank, walk_book}
use Rattle.expand_definitions.specs.walked.Hands.{WalksAsTraced}
use Rattle.expand_definitions.proofs.walked.Alike.{last_at, last_here, last_other, last_kept, Alike, Kept, Did, Makes, nothing_made, one, two, new_right, one_more, rather}
use Rattle.expand_definitions.proofs.walked.Sizes.{cut, extent, cut_once, cut-plain, cut-chained, cut-struct, cut-choice, cut-shell, cut_no_field, cut_field, cut-const, cut_no_case, cut-case, cut_called, near_test, near_exact}
use Rattle.expand_definitions.proofs.walked.Bounds.{Means, means_on, bind_means, own_means, Typed, Each, missing, there, each_both, call-size, head_near}

-- a test inside a step, and what follows
module _ {S A B T C : Type 0} {Q : B → S → C → T → Type 0} where
  ask_in : (b : Bool) (k : Code) (s : S) (t : T) (f : Unit × S → Res S A) (h : A × S → Res S B) (g : Unit × T → Res T C)
      → (b ≡ true → Both Q (f (tt, s) >>= h) (g (tt, t))) → Both Q (require b k s >>= f >>= h) (require b k t >>= g)
  ask_in true k s t f h g go = go refl
  ask_in false k s t f h g go = refusals

abbrev started : Name → ℕ → Start
started n k = record { name = n; call = k }

module _ (c : Combinator) (p : ℕ) (inside : Step) (trail : Tracing)
    (ih : (n : Name) (env : List Bound) (bs : List Binder) (s : Sheet) (t : Trace) → Alike s t → Means env bs t.records → New (lifts c p) t.records
    → Both (Makes (λ rs. extent (out c p rs)) (lifts c p) t) (inside n env s) (trail n bs t)) where
  -- a record at a new place
  module _ (r : Record) (at : r.at ≡ p) (s : Sheet) (t : Trace) (m : Alike s t) (new : New (lifts c p ++ (lift_at c p ∷ [])) t.records) where
    numbered : last_at (t.records ++ (r ∷ [])) p ≡ suc (length s.rows)
    numbered = last_here t.records r p at ∙ ap suc (sym (ap length m.hands.rows ∙ length-map t.records row_of))

    entered_alike : (bs : List Bound) (e : ℕ) → r.end ≡ e → Typed r.params t.records bs r.types → (entered p e r.name r.params bs s).bytes ≡ (enter tree_head r t).bytes
        → Alike (entered p e r.name r.params bs s) (enter tree_head r t)
    unfolding entered enter
    entered_alike bs e ends q sum =
        let rows : (entered p e r.name r.params bs s).rows ≡ map row_of (t.records ++ (r ∷ [])) = rw (map-append row_of t.records (r ∷ []), m.hands.rows, at, ends, q.types) in
        record {
          taken = ap (r.name ∷◌) m.taken;
          hands = record {
            rows = rows;
            bytes = sum;
            defns = ap (◌+ 1) m.hands.defns;
            count = m.hands.count;
            ordered = λ i h. rw rows (last_kept t.records r (get_or t.finished i 0) (get_or s.finished i 0) (rw at (none_yet c p r at t.records new)) (rw m.hands.rows at (m.hands.ordered i h)));
          };
        }

    -- what was lifted out of it, and then itself
    finishes : (z : Extent) (u : Sheet) (v : Trace) (k : ℕ) → Did (λ rs. extent (out c p rs)) (lifts c p) (enter tree_head r t) z u v → k ≡ size (call r) → k ≤ 16384
        → Did (λ rs. extent (replaced true (out c p rs) (find rs p))) (lifts c p ++ (lift_at c p ∷ [])) t (called k) (finish (length s.rows) u) (finishTrace p v)
    unfolding enter finish finishTrace replaced call
    finishes z u v k g e small = record {
      same = record {
        taken = g.same.taken;
        hands = record {
          rows = g.same.hands.rows;
          bytes = g.same.hands.bytes;
          defns = g.same.hands.defns;
          count = simp length-append (ap (◌+ 1) g.same.hands.count);
          ordered = one_more u.finished v.finished (length s.rows) p g.same.hands.count u.rows last g.same.hands.ordered;
        };
      };
      later = later_on (later_made c p r at t.records new) g.later;
      only = λ x h. kept x (g.only x (λ k. h (stands_left x (lifts c p) (lift_at c p ∷ []) k))) (λ k. h (stands_right x (lifts c p) (lift_at c p ∷ []) (inl (sym at ∙ k))));
      says = λ rs l. rw (l.keeps p r (g.later.keeps p r (find_here t.records r p at))) (cut_called k (invocation r.name r.params) e small);
    }
      where
        last : suc (length s.rows) ≡ last_from u.rows 0 p
        last = rw g.same.hands.rows (sym ((g.only p (λ h. let k = (in-range c p).range p h in omega arith)).last ∙ numbered))

        kept : (x : ℕ) → Kept (t.records ++ (r ∷ [])) v.records x → (r.at ≡ x → ⊥) → Kept t.records v.records x
        kept x k n = record { found = k.found ∙ find_other t.records r x n; last = k.last ∙ last_other t.records r x n }

  -- from the measure on; a call is smaller than the sum that was tested
  module _ (n : Name) (env : List Bound) (binders : List Binder) (s : Sheet) (t : Trace) (m : Alike s t) (w : Means env binders t.records) (new : New (lifts c p ++ (lift_at c p ∷ [])) t.records)
      (bs : List Bound) (ts : List Ref) (q : Typed (sorted (free c)) t.records bs ts) where
    abbrev made : Record
    made = record { at = p; end = p + size c; name = n; params = sorted (free c); types = ts }

    abbrev grown : Sheet
    grown = entered p (p + size c) n (sorted (free c)) bs s

    abbrev rest : ℕ
    rest = s.bytes + 6 + size (call made)

    left : grown.bytes ≡ rest + head_size n (sorted (free c)) bs
    unfolding entered
    left = omega (arith, call-size made)

    right : (enter tree_head made t).bytes ≡ rest + tree_head t.records made
    unfolding enter
    right = let e : s.bytes ≡ t.bytes = m.hands.bytes in omega arith

    count : grown.defns ≡ (enter tree_head made t).defns
    unfolding entered enter
    count = ap (◌+ 1) m.hands.defns

    tests : leb grown.bytes 16384 && leb grown.defns 512 ≡ leb (enter tree_head made t).bytes 16384 && leb (enter tree_head made t).defns 512
    tests = rw (left, right, count, near_test rest (head_near t.records made bs q))

    sum : grown.bytes ≤ 16384 → grown.bytes ≡ (enter tree_head made t).bytes
    sum h = let e = near_exact rest (head_near t.records made bs q) (omega (arith, left)) in omega (arith, left, right)

    passed_both : leb grown.bytes 16384 && leb grown.defns 512 ≡ true
        → Both (Makes (λ rs. extent (replaced true (out c p rs) (find rs p))) (lifts c p ++ (lift_at c p ∷ [])) t)
        (do
          (z, u) ← inside n env grown
          ok (called (call_size n (sorted (free c)))) (finish (length s.rows) u))
        (do
          (u, t) ← trail n binders (enter tree_head made t)
          ok tt (finishTrace p t))
    unfolding enter
    passed_both e =
        let h = leb-true grown.bytes 16384 (both_true (leb grown.bytes 16384) (leb grown.defns 512) e).0 in
        then (ih n env binders grown (enter tree_head made t) (entered_alike made refl s t m new bs (p + size c) refl q (sum h)) (means_on w (later_made c p made refl t.records new)) (new_inside c p made refl t.records new)) _ _ λ z u x v g.
        values (finishes made refl s t m new z u v (call_size n (sorted (free c))) g (call-size made) (omega (arith, left, call-size made)))

    measured_both : (b b' : Bool) → b ≡ b' → leb grown.bytes 16384 && leb grown.defns 512 ≡ b
        → Both (Makes (λ rs. extent (replaced true (out c p rs) (find rs p))) (lifts c p ++ (lift_at c p ∷ [])) t)
        (do
          (b, u) ← do
            (k, t) ← do
              (u, t) ← require b result_long grown
              ok (call_size n (sorted (free c))) t
            ok (started n k) t
          (z, u) ← inside b.name env u
          ok (called b.call) (finish (length s.rows) u))
        (do
          (u, t) ← require b' result_long (enter tree_head made t)
          (u, t) ← trail n binders t
          ok tt (finishTrace p t))
    measured_both true true e h = passed_both h
    measured_both false false e h = refusals
    measured_both true false e h = let z : ◌≡◌ {A = ℕ} 0 1 = cc in absurd (omega arith)
    measured_both false true e h = let z : ◌≡◌ {A = ℕ} 0 1 = cc in absurd (omega arith)

  -- code 8, and then 10
  each_lift : (n : Name) (env : List Bound) (binders : List Binder) (s : Sheet) (t : Trace) → Alike s t → Means env binders t.records → New (lifts c p ++ (lift_at c p ∷ [])) t.records
      → {k : Maybe (List Bound)} {l : Res Trace (List Ref)} → Each (sorted (free c)) t k l
      → Both (Makes (λ rs. extent (replaced true (out c p rs) (find rs p))) (lifts c p ++ (lift_at c p ∷ [])) t)
      (do
        (b, u) ← do
          (k, t) ← enter_with p (p + size c) n (sorted (free c)) k s
          ok (started n k) t
        (z, u) ← inside b.name env u
        ok (called b.call) (finish (length s.rows) u))
      (do
        (rs, t) ← l
        (u, t) ← fitsTrace (enter tree_head (record { at = p; end = p + size c; name = n; params = sorted (free c); types = rs }) t)
        (u, t) ← trail n binders t
        ok tt (finishTrace p t))
  unfolding enter_with fits fitsTrace
  each_lift n env binders s t m w new missing = refusals
  each_lift n env binders s t m w new (there {bs} {ts} q) = measured_both n env binders s t m w new bs ts q _ _ (tests n env binders s t m w new bs ts q) refl

  lift_both : (base : Name) (env : List Bound) (binders : List Binder) (s : Sheet) (t : Trace) → Alike s t → Means env binders t.records → New (lifts c p ++ (lift_at c p ∷ [])) t.records
      → Both (Makes (λ rs. extent (replaced true (out c p rs) (find rs p))) (lifts c p ++ (lift_at c p ∷ [])) t) (visit true c p inside base env s) (lifting tree_head c p trail base binders t)
  unfolding visit starts lifting
  lift_both base env binders s t m w new = rw (ap (fresh base) m.taken) (
      let n = fresh base t.taken in
      ask_in (leb (length n) 255) _ s t _ _ _ λ short. ask_in (not (leftover c)) _ s t _ _ _ λ clear.
      each_lift n env binders s t m w new (each_both env binders (sorted (free c)) t w))

  -- a child: "An anonymous child is lifted ..; any other child is walked."
  kid_both : (a : Bool) (base : Name) (env : List Bound) (binders : List Binder) (s : Sheet) (t : Trace) → Alike s t → Means env binders t.records → New (lifts c p ++ itself a c p) t.records
      → Both (Makes (λ rs. extent (replaced a (out c p rs) (find rs p))) (lifts c p ++ itself a c p) t) (visit a c p inside base env s) (trace_by tree_head a c p trail base binders t)
  unfolding visit trace_by itself replaced
  kid_both true base env binders s t m w new = lift_both base env binders s t m w new
  kid_both false base env binders s t m w new = rw (append-nil (lifts c p)) (ih base env binders s t m w (rw (append-nil (lifts c p)) at new))

mutual
  unfolding walk trace out lifts

  walk_both : (c : Combinator) (p : ℕ) (n : Name) (env : List Bound) (b : List Binder) (s : Sheet) (t : Trace) → Alike s t → Means env b t.records → New (lifts c p) t.records
      → Both (Makes (λ rs. extent (out c p rs)) (lifts c p) t) (walk c p n env s) (trace tree_head c p n b t)
  walk_both (plain i) p n env b s t m w new = first_then (walk_i_both i p n env b s t m w new) _ λ k u x v g. values (one (λ rs. extent (plain (out_i i p rs))) _ g λ rs e. cut-plain k (out_i i p rs) e)
  walk_both (chained i c) p n env b s t m w new =
      then (kid_both c (chain_at p i) (λ n e t. walk c (chain_at p i) n e t) (λ n e t. trace tree_head c (chain_at p i) n e t) (λ n e b s t m w z. walk_both c (chain_at p i) n e b s t m w z) (anonymous c) n env b s t m w (new_left _ _ new)) _ _ λ z u x v g.
      first_then (walk_i_both i p n env b u v g.same (means_on w g.later) (new_right new g (apart (in-rangeK c (chain_at p i)) (in-rangeI i p) (inr (omega arith))))) _ λ k u y v h.
      values (two (λ rs. extent (chained (out_i i p rs) (replaced (anonymous c) (out c (chain_at p i) rs) (find rs (chain_at p i))))) _ g h λ rs e f. cut-chained z k (out_i i p rs) _ e f)

  walk_i_both : (i : Inner) (p : ℕ) (n : Name) (env : List Bound) (b : List Binder) (s : Sheet) (t : Trace) → Alike s t → Means env b t.records → New (lifts_i i p) t.records
      → Both (Makes (λ rs. cut (size_i (out_i i p rs))) (lifts_i i p) t) (walk_i i p n env s) (trace_i tree_head i p n b t)
  walk_i_both (leaf k x) p n env b s t m w new = values (nothing_made (λ rs. cut (size_i (leaf k x))) _ m λ rs. cut_once (size_i (leaf k x)))
  walk_i_both (struct f) p n env b s t m w new = rather (walk_f_both f 3 (fields_at p) n env b s t m w new) λ k u x v g. one (λ rs. cut (size_i (struct (out_f f (fields_at p) rs)))) k g λ rs e. cut-struct k (out_f f (fields_at p) rs) e
  walk_i_both (choice x k f) p n env b s t m w new =
      rather (walk_c_both f k 0 (length (w_selector x []) + 4) (cases_at p x) n env b s t m w new) λ j u y v g. one (λ rs. cut (size_i (choice x k (out_c f k (cases_at p x) rs)))) j g λ rs e. cut-choice j x k (out_c f k (cases_at p x) rs) e
  walk_i_both (shell x c) p n env b s t m w new =
      first_then (kid_both c (shell_at p x) (λ n e t. walk c (shell_at p x) n e t) (λ n e t. trace tree_head c (shell_at p x) n e t) (λ n e b s t m w z. walk_both c (shell_at p x) n e b s t m w z) (anonymous c) (child n (shell_segment x)) env b s t m w new) _ λ z u y v g.
      values (one (λ rs. cut (size_i (shell x (replaced (anonymous c) (out c (shell_at p x) rs) (find rs (shell_at p x)))))) _ g λ rs e. cut-shell z x _ e)
  walk_i_both (bytes l) p n env b s t m w new = values (nothing_made (λ rs. cut (size_i (bytes l))) _ m λ rs. cut_once (size_i (bytes l)))
  walk_i_both (invocation l a) p n env b s t m w new = values (nothing_made (λ rs. cut (size_i (invocation l a))) _ m λ rs. cut_once (size_i (invocation l a)))
  walk_i_both (macro_invocation l a) p n env b s t m w new = values (nothing_made (λ rs. cut (size_i (macro_invocation l a))) _ m λ rs. cut_once (size_i (macro_invocation l a)))

  walk_f_both : (f : Fields) (done p : ℕ) (n : Name) (env : List Bound) (b : List Binder) (s : Sheet) (t : Trace) → Alike s t → Means env b t.records → New (lifts_f f p) t.records
      → Both (Makes (λ rs. cut (done + size_f (out_f f p rs))) (lifts_f f p) t) (walk_f f done p n env s) (trace_f tree_head f p n b t)
  walk_f_both no_field done p n env b s t m w new = values (nothing_made (λ rs. cut (done + size_f no_field)) _ m λ rs. cut_no_field done)
  walk_f_both (field k l c f) done p n env b s t m w new =
      then (kid_both c (field_at p l) (λ n e t. walk c (field_at p l) n e t) (λ n e t. trace tree_head c (field_at p l) n e t) (λ n e b s t m w z. walk_both c (field_at p l) n e b s t m w z) (anonymous c) (child n (segment l)) env b s t m w (new_left _ _ new)) _ _ λ z u x v g.
      rather (walk_f_both f (plus (plus done (1 + length (w_name l []))) z.whole) (field_at p l + size c) n (binds k l (field_at p l) z.inner env) (bind_ref k l c (field_at p l) b) u v g.same (bind_means k l c (field_at p l) w g)
      (new_right new g (apart (in-rangeK c (field_at p l)) (in-rangeF f (field_at p l + size c)) (inl (omega arith))))) λ j u y v h.
      two (λ rs. cut (done + size_f (field k l (replaced (anonymous c) (out c (field_at p l) rs) (find rs (field_at p l))) (out_f f (field_at p l + size c) rs)))) j g h λ rs e i. cut_field done j z k l _ (out_f f (field_at p l + size c) rs) e i
  walk_f_both (const l x f) done p n env b s t m w new =
      rather (walk_f_both f (plus done (1 + length (w_name l []) + length (w_text x []))) (const_end p l x) n env b s t m w new) λ j u y v g. one (λ rs. cut (done + size_f (const l x (out_f f (const_end p l x) rs)))) j g λ rs e. cut-const done j l x (out_f f (const_end p l x) rs) e

  walk_c_both : (f : Cases) (k : CaseKind) (i done p : ℕ) (n : Name) (env : List Bound) (b : List Binder) (s : Sheet) (t : Trace) → Alike s t → Means env b t.records → New (lifts_c f k p) t.records
      → Both (Makes (λ rs. cut (done + size_c (out_c f k p rs) k)) (lifts_c f k p) t) (walk_c f k i done p n env s) (trace_c tree_head f k i p n b t)
  walk_c_both no_case k i done p n env b s t m w new = values (nothing_made (λ rs. cut (done + size_c no_case k)) _ m λ rs. cut_no_case done k)
  walk_c_both (case l c f) k i done p n env b s t m w new =
      then (kid_both c (case_at p k l) (λ n e t. walk c (case_at p k l) n e t) (λ n e t. trace tree_head c (case_at p k l) n e t) (λ n e b s t m w z. walk_both c (case_at p k l) n e b s t m w z) (anonymous c) (child n (case_segment k l i)) env b s t m w (new_left _ _ new)) _ _ λ z u x v g.
      rather (walk_c_both f k (suc i) (plus (plus done (length (w_label k l []))) z.whole) (case_at p k l + size c) n env b u v g.same (means_on w g.later)
      (new_right new g (apart (in-rangeK c (case_at p k l)) (in-rangeC f k (case_at p k l + size c)) (inl (omega arith))))) λ j u y v h.
      two (λ rs. cut (done + size_c (case l (replaced (anonymous c) (out c (case_at p k l) rs) (find rs (case_at p k l))) (out_c f k (case_at p k l + size c) rs)) k)) j g h λ rs e o. cut-case done j z k l _ (out_c f k (case_at p k l + size c) rs) e o

-- the whole list; what each body takes is of no use here
walk_all_both : (ds : List Definition) (p : ℕ) (s : Sheet) (t : Trace) → Alike s t → New (lifts_all ds p) t.records
    → Both (Makes (λ rs. tt) (lifts_all ds p) t) (walk_all ds p s) (trace_all tree_head ds p t)
unfolding walk_all trace_all lifts_all lifts_d
walk_all_both [] p s t m new = values (nothing_made (λ rs. tt) tt m λ rs. refl)
walk_all_both (format n ps c ∷ ds) p s t m new =
    then (walk_both c (p + head n ps) n (own_bound ps (params_at p n)) (own_binders ps (params_at p n)) s t m (own_means ps (params_at p n) t.records) (new_left _ _ new)) _ _ λ z u x v g.
    rather (walk_all_both ds (p + size_of (format n ps c)) u v g.same (new_right new g (apart (in-range c (p + head n ps)) (in-rangeAll ds (p + size_of (format n ps c))) (inl (omega (arith, size-format n ps c)))))) λ j u y v h.
    two (λ rs. tt) tt g h λ rs e f. refl
walk_all_both (constant n x ∷ ds) p s t m new = walk_all_both ds (p + size_of (constant n x)) s t m new
walk_all_both (byte_order x ∷ ds) p s t m new = walk_all_both ds (p + size_of (byte_order x)) s t m new
walk_all_both (macro n ps c ∷ ds) p s t m new = walk_all_both ds (p + size_of (macro n ps c)) s t m new

at_start : (ds : List Definition) → Alike (blank ds) (begin ds)
unfolding blank begin
at_start ds = record { taken = refl; hands = record { rows = refl; bytes = refl; defns = refl; count = refl; ordered = λ i h. absurd (omega arith) } }

pub walks_as_traced : WalksAsTraced
unfolding walk_book trace_book begin find
walks_as_traced ds = rather (walk_all_both ds (first_at ds) (blank ds) (begin ds) (at_start ds) (record { new = λ x h. refl })) λ a u b v g. g.same.hands
