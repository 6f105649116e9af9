-- The walk that makes records says the same as the definition's walk: the same refusals, and bodies and definitions by the records.
use mathlib.Core.Path.{◌≡◌, refl, sym, ap, ◌∙◌}
use mathlib.Core.Logic.{inl, inr}
use mathlib.Core.Bool.{Bool, true, false, cond, not, ◌&&◌}
use mathlib.Core.List.{List, [], ◌∷◌, ◌++◌, map, append_assoc, append-nil, map-append}
use Prim.Native.Nat.{ℕ, suc, ◌+◌, ◌-◌, ◌≤◌}
use native.Mathlib.Omega.{arith}
use lib.Dec.{leb}
use borrow.Author.Tests.{leb-true}
use lib.ListN.{length}
use Rattle.definition.specs.Res.{Maybe, absent, just, ok, ◌>>=◌}
use Rattle.definition.specs.Tree.{Name, CaseKind, FieldKind, ordinary, dependent, Combinator, plain, chained, Inner, leaf, struct, choice, shell, bytes, invocation, macro_invocation, Fields, no_field, field, const, Cases, no_case, case, Param, format}
use Rattle.definition.specs.Names.{eq_name, sorted, segment, child, case_segment, shell_segment, fresh}
use Rattle.definition.specs.Write.{size_of}
use Rattle.definition.specs.Size.{size}
use Rattle.definition.specs.Collect.{anonymous, free, leftover}
use Rattle.definition.specs.Lift.{full, State, Walk, binder, bound, typed, take, grow, measured, append, lift, child_by, bind, walk, walk_i, walk_f, walk_c}
use Rattle.laws.proofs.Sizes.{head, size-format}
use Rattle.lifting.specs.Records.{Ref, passed, Record, find, call}
use Rattle.lifting.specs.After.{chain_at, fields_at, cases_at, shell_at, field_at, const_end, case_at, replaced, out, out_i, out_f, out_c, Lift, lift_at, itself, lifts, lifts_i, lifts_f, lifts_c, lifts_k, type_of, params_of, made_by, definition_of, Stands, AllFound}
use Rattle.lifting.specs.Trace.{Trace, tree_head, Binder, first, ref_of, refs, enter, finish, fits, bind_ref, Tracing, lifting, trace_by, trace, trace_i, trace_f, trace_c}
use Rattle.lifting.proofs.Both.{Both, refusals, values, then, first_then, ask, ask_alike, Still, still}
use Rattle.lifting.proofs.Found.{Later, later_self, later_one, later_on, find_here, find_other, stands_left, stands_right, all_found}
use Rattle.lifting.proofs.Ranges.{apart, in-range, in-rangeI, in-rangeF, in-rangeC, in-rangeK}

-- the two states tell the same
pub record Matches (s : State) (t : Trace) : Type 0 where
  pub taken : s.taken ≡ t.taken
  pub bytes : s.bytes ≡ t.bytes
  pub defns : s.defns ≡ t.defns

-- the binders in force, by all records to come
abbrev pub param_of : List Record → Binder → Param
param_of rs b = record { name = b.name; type = type_of rs b.ref }

pub record Means (binders : List Param) (env : List Binder) (rs : List Record) : Type 0 where
  pub meant : (later : List Record) → Later rs later → binders ≡ map (param_of later) env

pub means_on : {binders : List Param} {env : List Binder} {a b : List Record} → Means binders env a → Later a b → Means binders env b
means_on m l = record { meant = λ later k. m.meant later (later_on l k) }

-- no record stands yet where these lifts do
pub record New (ls : List Lift) (rs : List Record) : Type 0 where
  pub new : (x : ℕ) → Stands x ls → find rs x ≡ absent

-- from s to u and from t to v these lifts were made; d is what o says by the records
pub record Did {A : Type 0} (o : List Record → A) (ls : List Lift) (s : State) (t : Trace) (d : A) (u : State) (v : Trace) : Type 0 where
  pub same : Matches u v
  pub later : Later t.records v.records
  pub only : (x : ℕ) → (Stands x ls → ⊥) → find v.records x ≡ find t.records x
  pub finished : v.finished ≡ t.finished ++ map (λ l. l.at) ls
  pub body : (rs : List Record) → Later v.records rs → d ≡ o rs
  pub made : (rs : List Record) → Later v.records rs → u.made ≡ s.made ++ map (definition_of rs) ls
  pub found : (rs : List Record) → Later v.records rs → AllFound rs ls

abbrev pub Makes : {A : Type 0} → (List Record → A) → List Lift → State → Trace → A → State → Unit {0} → Trace → Type 0
Makes o ls s t d u x v = Did o ls s t d u v

pub nothing_made : {A : Type 0} (a : A) {s : State} {t : Trace} → Matches s t → Did (λ rs. a) [] s t a s t
nothing_made a {s} {t} m = record {
  same = m;
  later = later_self t.records;
  only = λ x n. refl;
  finished = sym (append-nil t.finished);
  body = λ rs l. refl;
  made = λ rs l. sym (append-nil s.made);
  found = λ rs l. tt;
}

-- a part of something larger
pub one : {A B : Type 0} (f : A → B) {o : List Record → A} {ls : List Lift} {s u : State} {t v : Trace} {d : A} → Did o ls s t d u v → Did (λ rs. f (o rs)) ls s t (f d) u v
one f g = record { same = g.same; later = g.later; only = g.only; finished = g.finished; body = λ rs l. ap f (g.body rs l); made = g.made; found = g.found }

-- one after the other
pub two : {A B C : Type 0} (f : A → B → C) {o : List Record → A} {o' : List Record → B} {a b : List Lift} {s u w : State} {t v x : Trace} {d : A} {e : B}
    → Did o a s t d u v → Did o' b u v e w x → Did (λ rs. f (o rs) (o' rs)) (a ++ b) s t (f d e) w x
two f {a = a} {b = b} {s = s} {t = t} g h = record {
  same = h.same;
  later = later_on g.later h.later;
  only = λ y n. h.only y (λ z. n (stands_right y a b z)) ∙ g.only y (λ z. n (stands_left y a b z));
  finished = rw (h.finished, g.finished, map-append (λ l. l.at) a b) (append_assoc t.finished _ _);
  body = λ rs l. let p = g.body rs (later_on h.later l) in let q = h.body rs l in rw (← p, ← q);
  made = λ rs l. rw (h.made rs l, g.made rs (later_on h.later l), map-append (definition_of rs) a b) (append_assoc s.made _ _);
  found = λ rs l. all_found rs a b (g.found rs (later_on h.later l)) (h.found rs l);
}

pub new_left : (a b : List Lift) {rs : List Record} → New (a ++ b) rs → New a rs
new_left a b n = record { new = λ x h. n.new x (stands_left x a b h) }

-- what one made does not stand where the next makes its own
pub new_right : {A : Type 0} {o : List Record → A} {a b : List Lift} {s u : State} {t v : Trace} {d : A} → New (a ++ b) t.records → Did o a s t d u v
    → ((x : ℕ) → Stands x a → Stands x b → ⊥) → New b v.records
new_right {a = a} {b = b} n g far = record { new = λ x h. g.only x (λ k. far x k h) ∙ n.new x (stands_right x a b h) }

-- the first binder of a name
type_of_lem : List Record → Maybe Ref → Maybe Inner
type_of_lem rs absent = absent
type_of_lem rs (just r) = just (type_of rs r)

binder-first : (rs : List Record) (env : List Binder) (n : Name) → binder (map (param_of rs) env) n ≡ type_of_lem rs (first env n)
unfolding binder first type_of_lem
binder-first rs [] n = refl
binder-first rs (b ∷ env) n = step (eq_name b.name n) (binder-first rs env n)
  where
    step : (t : Bool) → binder (map (param_of rs) env) n ≡ type_of_lem rs (first env n)
        → cond t (just (type_of rs b.ref)) (binder (map (param_of rs) env) n) ≡ type_of_lem rs (cond t (just b.ref) (first env n))
    step true e = refl
    step false e = e

-- a parameter and what types it
record Bound (n : Name) (recs : List Record) (p : Param) (r : Ref) : Type 0 where
  type : (later : List Record) → Later recs later → p ≡ record { name = n; type = type_of later r }

bound_both : (m : Maybe Inner) (k : Maybe Ref) (n : Name) (s : State) (t : Trace) → ((later : List Record) → Later t.records later → m ≡ type_of_lem later k)
    → Both (Still (Bound n t.records) s t) (bound m n s) (ref_of k t)
unfolding bound ref_of type_of_lem
bound_both absent absent n s t h = refusals
bound_both (just i) (just r) n s t h = values (record { left = refl; right = refl; holds = of i r (λ later l. cc (h later l)) })
  where
    of : (i : Inner) (r : Ref) → ((later : List Record) → Later t.records later → i ≡ type_of later r) → Bound n t.records (record { name = n; type = i }) r
    of i r e = record { type = λ later l. rw (e later l) }
bound_both absent (just r) n s t h = let e = h t.records (later_self t.records) in let z : ◌≡◌ {A = ℕ} 0 1 = cc in absurd (omega arith)
bound_both (just i) absent n s t h = let e = h t.records (later_self t.records) in let z : ◌≡◌ {A = ℕ} 0 1 = cc in absurd (omega arith)

record Typed (ns : List Name) (recs : List Record) (ps : List Param) (rs : List Ref) : Type 0 where
  types : (later : List Record) → Later recs later → ps ≡ params_of later ns rs

typed_both : (binders : List Param) (env : List Binder) (ns : List Name) (s : State) (t : Trace) → Means binders env t.records → Both (Still (Typed ns t.records) s t) (typed binders ns s) (refs env ns t)
unfolding typed refs params_of
typed_both binders env [] s t m = values (record { left = refl; right = refl; holds = record { types = λ later l. refl } })
typed_both binders env (n ∷ ns) s t m =
    still (bound_both (binder binders n) (first env n) n s t (λ later l. ap (λ b. binder b n) (m.meant later l) ∙ binder-first later env n)) _ _ λ p r b.
    still (typed_both binders env ns s t m) _ _ λ ps rs q.
    values (record { left = refl; right = refl; holds = of p r ps rs b q })
  where
    of : (p : Param) (r : Ref) (ps : List Param) (rs : List Ref) → Bound n t.records p r → Typed ns t.records ps rs → Typed (n ∷ ns) t.records (p ∷ ps) (r ∷ rs)
    of p r ps rs b q = record { types = λ later l. rw (b.type later l, q.types later l) }

-- code 10's sum: the combinator moved is in the new body, and cancels
pub sum_closed : (n : Name) (ps : List Param) (c there : Combinator) (b : ℕ) → (b + 6 + size_of (format n ps c) + size there) - size c ≡ b + 6 + head n ps + size there
sum_closed n ps c there b = omega (arith, size-format n ps c)

-- a record at a new place
module _ (c : Combinator) (p : ℕ) (r : Record) (at : r.at ≡ p) (rs : List Record) (new : New (lifts c p ++ (lift_at c p ∷ [])) rs) where
  pub none_yet : find rs p ≡ absent
  none_yet = new.new p (stands_right p (lifts c p) (lift_at c p ∷ []) (inl refl))

  pub later_made : Later rs (rs ++ (r ∷ []))
  later_made = later_one rs r p at none_yet

  pub new_inside : New (lifts c p) (rs ++ (r ∷ []))
  new_inside = record { new = λ x h. find_other rs r x (λ e. let k = (in-range c p).range x h in omega arith) ∙ new.new x (stands_left x (lifts c p) (lift_at c p ∷ []) h) }

module _ (c : Combinator) (p : ℕ) (inside : Walk) (trail : Tracing)
    (ih : (n : Name) (b : List Param) (env : List Binder) (s : State) (t : Trace) → Matches s t → Means b env t.records → New (lifts c p) t.records
    → Both (Makes (out c p) (lifts c p) s t) (inside n b s) (trail n env t)) where
  -- the record is what is found at its place from now on
  module _ (r : Record) (at : r.at ≡ p) (s : State) (t : Trace) (n : New (lifts c p ++ (lift_at c p ∷ [])) t.records) where
    found_here : (rs : List Record) → Later (t.records ++ (r ∷ [])) rs → find rs p ≡ just r
    found_here rs l = l.keeps p r (find_here t.records r p at)

    -- what was lifted out of it, and then itself
    finishes : (ps : List Param) (s₁ : State) (d : Combinator) (u : State) (v : Trace) → s₁.made ≡ s.made → Did (out c p) (lifts c p) s₁ (enter tree_head r t) d u v
        → ((rs : List Record) → Later t.records rs → ps ≡ params_of rs r.params r.types) → r.end ≡ p + size c → length r.name ≤ 255 → r.params ≡ sorted (free c)
        → Did (λ rs. replaced true (out c p rs) (find rs p)) (lifts c p ++ (lift_at c p ∷ [])) s t (call r) (append (format r.name ps d) u) (finish p v)
    unfolding enter finish append replaced definition_of made_by
    finishes ps s₁ d u v e g types ends short needed = record {
      same = record { taken = g.same.taken; bytes = g.same.bytes; defns = g.same.defns };
      later = later_on (later_made c p r at t.records n) g.later;
      only = λ x h. g.only x (λ k. h (stands_left x (lifts c p) (lift_at c p ∷ []) k)) ∙ find_other t.records r x (λ k. h (stands_right x (lifts c p) (lift_at c p ∷ []) (inl (sym at ∙ k))));
      finished = rw (g.finished, map-append (λ l. l.at) (lifts c p) (lift_at c p ∷ [])) (append_assoc t.finished _ _);
      body = λ rs l. rw (found_here rs (later_on g.later l));
      made = λ rs l. rw (
        g.made rs l,
        e,
        map-append (definition_of rs) (lifts c p) (lift_at c p ∷ []),
        found_here rs (later_on g.later l),
        types rs (later_on (later_made c p r at t.records n) (later_on g.later l)),
        g.body rs l,
      ) (append_assoc s.made _ _);
      found = λ rs l. all_found rs (lifts c p) (lift_at c p ∷ []) (g.found rs l) (record { of = r; found = found_here rs (later_on g.later l); begins = at; ends = ends; named = short; needed = needed }, tt);
    }

  -- from the measure on
  module _ (n : Name) (b : List Param) (env : List Binder) (s : State) (t : Trace) (m : Matches s t) (w : Means b env t.records) (new : New (lifts c p ++ (lift_at c p ∷ [])) t.records)
      (short : length n ≤ 255) (ps : List Param) (ts : List Ref) (types : (rs : List Record) → Later t.records rs → ps ≡ params_of rs (sorted (free c)) ts) where
    abbrev made : Record
    made = record { at = p; end = p + size c; name = n; params = sorted (free c); types = ts }

    abbrev grown : State
    grown = grow (format n ps c) (call made) c s

    sum : grown.bytes ≡ (enter tree_head made t).bytes
    unfolding grow enter tree_head
    sum = rw (m.bytes, ← (types t.records (later_self t.records))) (sum_closed n ps c (call made) t.bytes)

    count : grown.defns ≡ (enter tree_head made t).defns
    unfolding grow enter
    count = rw m.defns

    tests : leb grown.bytes 16384 && leb grown.defns 512 ≡ leb (enter tree_head made t).bytes 16384 && leb (enter tree_head made t).defns 512
    tests = rw (sum, count)

    entered : Matches (take n grown) (enter tree_head made t)
    unfolding take grow enter
    entered = record { taken = ap (n ∷◌) m.taken; bytes = sum; defns = count }

    measured_both : Both (Makes (λ rs. replaced true (out c p rs) (find rs p)) (lifts c p ++ (lift_at c p ∷ [])) s t)
        (do
          (u, s) ← measured full grown
          (d, s) ← inside n b (take n s)
          ok (call made) (append (format n ps d) s))
        (do
          (u, t) ← fits (enter tree_head made t)
          (u, t) ← trail n env t
          ok tt (finish p t))
    unfolding measured fits enter take grow
    measured_both = ask_alike _ _ tests _ grown (enter tree_head made t) _ _ (
        then (ih n b env (take n grown) (enter tree_head made t) entered (means_on w (later_made c p made refl t.records new)) (new_inside c p made refl t.records new)) _ _ λ d u x v g.
        values (finishes made refl s t new ps (take n grown) d u v refl g types refl short refl))

  lift_both : (base : Name) (b : List Param) (env : List Binder) (s : State) (t : Trace) → Matches s t → Means b env t.records → New (lifts c p ++ (lift_at c p ∷ [])) t.records
      → Both (Makes (λ rs. replaced true (out c p rs) (find rs p)) (lifts c p ++ (lift_at c p ∷ [])) s t) (lift full c inside base b s) (lifting tree_head c p trail base env t)
  unfolding lift lifting call
  lift_both base b env s t m w new = rw (ap (fresh base) m.taken) (
      let n = fresh base t.taken in
      ask (leb (length n) 255) _ s t _ _ λ short. ask (not (leftover c)) _ s t _ _ λ clear.
      still (typed_both b env (sorted (free c)) s t w) _ _ λ ps ts q. measured_both n b env s t m w new (leb-true (length n) 255 short) ps ts q.types)

  -- a child: "An anonymous child is lifted ..; any other child is walked."
  kid_both : (a : Bool) (base : Name) (b : List Param) (env : List Binder) (s : State) (t : Trace) → Matches s t → Means b env t.records → New (lifts c p ++ itself a c p) t.records
      → Both (Makes (λ rs. replaced a (out c p rs) (find rs p)) (lifts c p ++ itself a c p) s t) (child_by full a c inside base b s) (trace_by tree_head a c p trail base env t)
  unfolding child_by trace_by itself replaced
  kid_both true base b env s t m w new = lift_both base b env s t m w new
  kid_both false base b env s t m w new = rw (append-nil (lifts c p)) (ih base b env s t m w (rw (append-nil (lifts c p)) at new))

-- "A Dependent field binds its label for the fields after it", "types as they stand after lifting, without chain"
pub bind_means : (k : FieldKind) (l : Name) (c : Combinator) (p : ℕ) {b : List Param} {env : List Binder} {ls : List Lift} {s u : State} {t v : Trace} {d : Combinator} → Means b env t.records
    → Did (λ rs. replaced (anonymous c) (out c p rs) (find rs p)) ls s t d u v → Means (bind k l d b) (bind_ref k l c p env) v.records
unfolding bind bind_ref type_of
bind_means ordinary l c p w g = means_on w g.later
bind_means dependent l c p {env = env} w g = record { meant = λ rs h. rw (map-append (param_of rs) env (record { name = l; ref = passed c p } ∷ []), w.meant rs (later_on g.later h), g.body rs h) }

mutual
  unfolding walk trace out lifts

  pub walk_both : (c : Combinator) (p : ℕ) (n : Name) (b : List Param) (env : List Binder) (s : State) (t : Trace) → Matches s t → Means b env t.records → New (lifts c p) t.records
      → Both (Makes (out c p) (lifts c p) s t) (walk full c n b s) (trace tree_head c p n env t)
  walk_both (plain i) p n b env s t m w new = first_then (walk_i_both i p n b env s t m w new) _ λ j u x v g. values (one plain g)
  walk_both (chained i c) p n b env s t m w new =
      then (kid_both c (chain_at p i) (λ n b s. walk full c n b s) (λ n e t. trace tree_head c (chain_at p i) n e t) (λ n b e s t m w z. walk_both c (chain_at p i) n b e s t m w z) (anonymous c) n b env s t m w (new_left _ _ new)) _ _ λ d u x v g.
      first_then (walk_i_both i p n b env u v g.same (means_on w g.later) (new_right new g (apart (in-rangeK c (chain_at p i)) (in-rangeI i p) (inr (omega arith))))) _ λ j u y v h.
      values (two (λ d j. chained j d) g h)

  walk_i_both : (i : Inner) (p : ℕ) (n : Name) (b : List Param) (env : List Binder) (s : State) (t : Trace) → Matches s t → Means b env t.records → New (lifts_i i p) t.records
      → Both (Makes (out_i i p) (lifts_i i p) s t) (walk_i full i n b s) (trace_i tree_head i p n env t)
  walk_i_both (leaf k x) p n b env s t m w new = values (nothing_made (leaf k x) m)
  walk_i_both (struct f) p n b env s t m w new = first_then (walk_f_both f (fields_at p) n b env s t m w new) _ λ g u x v h. values (one struct h)
  walk_i_both (choice x k f) p n b env s t m w new = first_then (walk_c_both f k 0 (cases_at p x) n b env s t m w new) _ λ g u y v h. values (one (λ g. choice x k g) h)
  walk_i_both (shell x c) p n b env s t m w new =
      first_then (kid_both c (shell_at p x) (λ n b s. walk full c n b s) (λ n e t. trace tree_head c (shell_at p x) n e t) (λ n b e s t m w z. walk_both c (shell_at p x) n b e s t m w z) (anonymous c) (child n (shell_segment x)) b env s t m w new) _ λ d u y v g.
      values (one (λ d. shell x d) g)
  walk_i_both (bytes l) p n b env s t m w new = values (nothing_made (bytes l) m)
  walk_i_both (invocation l a) p n b env s t m w new = values (nothing_made (invocation l a) m)
  walk_i_both (macro_invocation l a) p n b env s t m w new = values (nothing_made (macro_invocation l a) m)

  walk_f_both : (f : Fields) (p : ℕ) (n : Name) (b : List Param) (env : List Binder) (s : State) (t : Trace) → Matches s t → Means b env t.records → New (lifts_f f p) t.records
      → Both (Makes (out_f f p) (lifts_f f p) s t) (walk_f full f n b s) (trace_f tree_head f p n env t)
  walk_f_both no_field p n b env s t m w new = values (nothing_made no_field m)
  walk_f_both (field k l c f) p n b env s t m w new =
      then (kid_both c (field_at p l) (λ n b s. walk full c n b s) (λ n e t. trace tree_head c (field_at p l) n e t) (λ n b e s t m w z. walk_both c (field_at p l) n b e s t m w z) (anonymous c) (child n (segment l)) b env s t m w (new_left _ _ new)) _ _ λ d u x v g.
      first_then (walk_f_both f (field_at p l + size c) n (bind k l d b) (bind_ref k l c (field_at p l) env) u v g.same (bind_means k l c (field_at p l) w g)
      (new_right new g (apart (in-rangeK c (field_at p l)) (in-rangeF f (field_at p l + size c)) (inl (omega arith))))) _ λ j u y v h.
      values (two (λ d j. field k l d j) g h)
  walk_f_both (const l x f) p n b env s t m w new = first_then (walk_f_both f (const_end p l x) n b env s t m w new) _ λ g u y v h. values (one (λ g. const l x g) h)

  walk_c_both : (f : Cases) (k : CaseKind) (i p : ℕ) (n : Name) (b : List Param) (env : List Binder) (s : State) (t : Trace) → Matches s t → Means b env t.records → New (lifts_c f k p) t.records
      → Both (Makes (out_c f k p) (lifts_c f k p) s t) (walk_c full f k i n b s) (trace_c tree_head f k i p n env t)
  walk_c_both no_case k i p n b env s t m w new = values (nothing_made no_case m)
  walk_c_both (case l c f) k i p n b env s t m w new =
      then (kid_both c (case_at p k l) (λ n b s. walk full c n b s) (λ n e t. trace tree_head c (case_at p k l) n e t) (λ n b e s t m w z. walk_both c (case_at p k l) n b e s t m w z) (anonymous c) (child n (case_segment k l i)) b env s t m w (new_left _ _ new)) _ _ λ d u x v g.
      first_then (walk_c_both f k (suc i) (case_at p k l + size c) n b env u v g.same (means_on w g.later) (new_right new g (apart (in-rangeK c (case_at p k l)) (in-rangeC f k (case_at p k l + size c)) (inl (omega arith))))) _ λ j u y v h.
      values (two (λ d j. case l d j) g h)

pub child_both : (c : Combinator) (p : ℕ) (n : Name) (b : List Param) (env : List Binder) (s : State) (t : Trace) → Matches s t → Means b env t.records → New (lifts_k c p) t.records
    → Both (Makes (λ rs. replaced (anonymous c) (out c p rs) (find rs p)) (lifts_k c p) s t) (child_by full (anonymous c) c (λ n b s. walk full c n b s) n b s) (trace_by tree_head (anonymous c) c p (λ n e t. trace tree_head c p n e t) n env t)
child_both c p n b env s t m w new = kid_both c p (λ n b s. walk full c n b s) (λ n e t. trace tree_head c p n e t) (walk_both c p) (anonymous c) n b env s t m w new
