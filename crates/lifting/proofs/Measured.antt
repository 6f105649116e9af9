-- Code 10's sum by bytes: the trace that counts heads in the expanded book's bytes is the trace.
use mathlib.Core.Path.{◌≡◌, refl, ap, ◌∙◌}
use mathlib.Core.Logic.{◌⊎◌, inl, inr}
use mathlib.Core.Bool.{Bool, true, false, not, ◌&&◌}
use mathlib.Core.List.{List, [], ◌∷◌, ◌++◌}
use Prim.Native.Nat.{ℕ, suc, ◌+◌, ◌≤◌, ◌<◌}
use native.Mathlib.Omega.{arith}
use lib.Dec.{leb}
use lib.ListN.{length, length-append}
use Rattle.definition.specs.Code.{Code}
use Rattle.definition.specs.Res.{Res, ok, ◌>>=◌, require}
use Rattle.definition.specs.Tree.{Name, CaseKind, FieldKind, ordinary, dependent, Combinator, plain, chained, Inner, leaf, struct, choice, shell, bytes, invocation, macro_invocation, Fields, no_field, field, const, Cases, no_case, case, Param, Definition, format, constant, byte_order, macro}
use Rattle.definition.specs.Names.{sorted, segment, child, case_segment, shell_segment, fresh}
use Rattle.definition.specs.Write.{w_name, w_text, w_selector, case_byte, w_label, w_open, w_shut, count_c, w_u16, w_all, w_list, w_param, w_inner, w_fields, w_cases, w_combinator, w_definition, size_of, w_book}
use Rattle.definition.specs.Size.{size}
use Rattle.definition.specs.Collect.{anonymous, free, leftover}
use Rattle.definition.specs.Lift.{State, bind}
use Rattle.laws.proofs.Splits.{Splits, s_name, s_all, s_selector, s_label, s_open, s_comb, s_inner, s_definition}
use Rattle.laws.proofs.Sizes.{adds, size_i, size_f, size_c, head, size-plain, size-chained, size_struct, size_choice, size-shell, size-field, size_constant, size-case, size-format, open-some, size_i_some, size_some}
use Rattle.laws.proofs.Steps.{Gives, refusal, value}
use Rattle.lifting.specs.Records.{Ref, own, passed, Record, find, call}
use Rattle.lifting.specs.After.{chain_at, fields_at, cases_at, shell_at, field_at, const_end, case_at, Lift, lifts_k, type_of, params_of, first_at, Stands, AllFound}
use Rattle.lifting.specs.Calls.{param_room, byte_head, names_room, call_room}
use Rattle.lifting.specs.Trace.{Trace, Binder, enter, finish, fits, bind_ref, Tracing, lifting, trace_by, trace, trace_i, trace_f, trace_c, own_binders, params_at, tree_head, trace_all, begin, trace_book}
use Rattle.lifting.proofs.Both.{alike}
use Rattle.lifting.proofs.Found.{later_self, later_one, find_other}
use Rattle.lifting.proofs.Ranges.{Between, in-range, in-rangeK}
use Rattle.lifting.proofs.Parts.{w_struct, w_choice, s_choice, w_field, s_field, w_const, s_const, first_none, none_under, none_over, Part, Kid, split}
use Rattle.lifting.proofs.Refs.{AllRefs, AllBinders, WellTyped, Dep, refs_hold, bind_holds}
use Rattle.lifting.proofs.Standing.{limit, Stood, ref_bytes_lem}
use Rattle.lifting.proofs.Book.{bodies, bodies-cons, own_means}
use Rattle.lifting.proofs.Written.{w_head, s_head, head-length, own_stood, bodies_stand}
use Rattle.lifting.proofs.Agree.{Matches, Means, means_on, New, Did, bind_means, walk_both, child_both}

-- the bytes of a call
size_names : (ns : List Name) → length (w_all w_name ns []) ≡ names_room ns
unfolding w_all w_name names_room
size_names [] = refl
size_names (n ∷ ns) = simp length-append (omega (arith, size_names ns))

pub size-call : (r : Record) → size (call r) ≡ call_room r
unfolding size call call_room w_combinator w_name w_list w_u16
size-call r = simp length-append (omega (arith, size_names r.params, adds (w_all w_name r.params) (s_all w_name s_name r.params) (0 ∷ [])))

module _ (s : List ℕ) (rs : List Record) where
  room_params : (ns : List Name) (ts : List Ref) → AllRefs (Stood s rs) ts → length (w_all w_param (params_of rs ns ts) []) ≡ param_room s rs ns ts
  unfolding w_all w_param params_of param_room w_name
  room_params [] ts h = refl
  room_params (n ∷ ns) [] h = refl
  room_params (n ∷ ns) (t ∷ ts) h =
      let e = adds (w_inner (type_of rs t)) (s_inner (type_of rs t)) (w_all w_param (params_of rs ns ts) []) in
      let f = ap length (ref_bytes_lem s rs t h.0) in
      simp length-append (omega (arith, room_params ns ts h.1))

  pub head_bytes : (r : Record) → WellTyped (Stood s rs) r → tree_head rs r ≡ byte_head s rs r
  unfolding tree_head byte_head head w_name w_list w_u16
  head_bytes r w = simp length-append (omega (arith, room_params r.params r.types w.refs))

-- one step, and what follows
still_on : {C : Type 0} (b : Bool) (k : Code) (t : Trace) (f g : Unit {0} × Trace → Res Trace C) → f (tt, t) ≡ g (tt, t) → require b k t >>= f ≡ require b k t >>= g
still_on true k t f g e = e
still_on false k t f g e = refl

abbrev After : ℕ → Trace → (Trace → Res Trace (Unit {0})) → Res Trace (Unit {0})
After p t m = do
  (u, t) ← fits t
  (u, t) ← m t
  ok tt (finish p t)

fits_on : (p : ℕ) (t : Trace) (m l : Trace → Res Trace (Unit {0})) → m t ≡ l t → After p t m ≡ After p t l
unfolding fits
fits_on p t m l e = still_on (leb t.bytes 16384 && leb t.defns 512) _ t _ _ (ap (λ (x : Res Trace (Unit {0})). x >>= λ (u, t). ok tt (finish p t)) e)

gives_on : {A C : Type 0} {P : A → Trace → Type 0} {m : Res Trace A} → Gives P m → (f g : A × Trace → Res Trace C) → ((a : A) (t : Trace) → P a t → f (a, t) ≡ g (a, t)) → m >>= f ≡ m >>= g
gives_on refusal f g go = refl
gives_on (value p) f g go = go _ _ p

-- the records before a place are as they were
abbrev Kept : List Record → List Record → ℕ → Type 0
Kept a b q = (x : ℕ) → x < q → find b x ≡ find a x

found_on : (a b : List Record) (ls : List Lift) → AllFound a ls → ((x : ℕ) → Stands x ls → find b x ≡ find a x) → AllFound b ls
found_on a b [] f h = tt
found_on a b (l ∷ ls) f h = (
  record { of = f.0.of; found = h l.at (inl refl) ∙ f.0.found; begins = f.0.begins; ends = f.0.ends; named = f.0.named; needed = f.0.needed },
  found_on a b ls f.1 (λ x k. h x (inr k)),
)

module _ (s : List ℕ) where
  stood_on : (a b : List Record) (t : Ref) (q : ℕ) → Stood s a t → limit t ≤ q → Kept a b q → Stood s b t
  unfolding limit
  stood_on a b (own i p) q t h k = record { rest = t.rest; stands = t.stands; clear = λ x i j n. k x (omega arith) ∙ t.clear x i j n; found = tt }
  stood_on a b (passed c p) q t h k = record {
    rest = t.rest;
    stands = t.stands;
    clear = λ x i j n. k x (omega arith) ∙ t.clear x i j n;
    found = found_on a b (lifts_k c p) t.found (λ x n. k x (let r = (in-rangeK c p).range x n in omega arith));
  }

  -- every binder stands before a place
  abbrev Known : List Record → ℕ → List Binder → Type 0
  Known rs p env = AllBinders (λ t. Stood s rs t × (limit t ≤ p)) env

  known_on : (a b : List Record) (p q : ℕ) (env : List Binder) → Known a p env → p ≤ q → Kept a b p → Known b q env
  known_on a b p q [] k h f = tt
  known_on a b p q (x ∷ env) k h f = ((stood_on a b x.ref p k.0.0 k.0.1 f, omega arith), known_on a b p q env k.1 h f)

  known_up : (rs : List Record) (p q : ℕ) (env : List Binder) → Known rs p env → p ≤ q → Known rs q env
  known_up rs p q env k h = known_on rs rs p q env k h (λ x j. refl)

  -- what is not walked yet: no record stands in it
  abbrev Blank : List Record → (List ℕ → List ℕ) → ℕ → ℕ → ℕ → Type 0
  Blank rs w p a e = Part s rs w p a e []

  blank_on : (a b : List Record) {w : List ℕ → List ℕ} {p lo hi : ℕ} → Blank a w p lo hi → ((x : ℕ) → lo ≤ x → x < hi → find b x ≡ find a x) → Blank b w p lo hi
  blank_on a b t h = record { rest = t.rest; stands = t.stands; clear = λ x i j n. h x i j ∙ t.clear x i j n; found = tt }

  -- a child that was walked stands with its records
  kid_after : {o : List Record → Combinator} (c : Combinator) (p : ℕ) {x y : State} {t v : Trace} {d : Combinator} → Blank t.records (w_combinator c) p p (p + size c) → Did o (lifts_k c p) x t d y v → Kid s v.records c p
  kid_after c p {v = v} t g = record { rest = t.rest; stands = t.stands; clear = λ x i j n. g.only x n ∙ t.clear x i j (λ k. k); found = g.found v.records (later_self v.records) }

  new_blank : {rs : List Record} {w : List ℕ → List ℕ} {p lo hi : ℕ} {ls : List Lift} → Blank rs w p lo hi → Between lo hi ls → New ls rs
  new_blank t b = record { new = λ x h. let r = b.range x h in t.clear x r.0 r.1 (λ k. k) }

  -- a state of the definition's walk that tells the same
  abbrev state_of : Trace → State
  state_of t = record { taken = t.taken; made = []; bytes = t.bytes; defns = t.defns }

  module _ (c : Combinator) (p : ℕ) (one two : Tracing)
      (ih : (n : Name) (b : List Param) (env : List Binder) (t : Trace) → Means b env t.records → Known t.records p env → Blank t.records (w_combinator c) p (suc p) (p + size c) → one n env t ≡ two n env t) where
    refs_left : (q : ℕ) (rs : List Record) (ts : List Ref) → AllRefs (λ r. Stood s rs r × (limit r ≤ q)) ts → AllRefs (Stood s rs) ts
    refs_left q rs [] h = tt
    refs_left q rs (t ∷ ts) h = (h.0.0, refs_left q rs ts h.1)

    enter_alike : (t : Trace) (r : Record) → WellTyped (Stood s t.records) r → enter tree_head r t ≡ enter (byte_head s) r t
    unfolding enter
    enter_alike t r w = rw (head_bytes s t.records r w)

    entered : (n : Name) (b : List Param) (env : List Binder) (t : Trace) (r : Record) → r.at ≡ p → Means b env t.records → Known t.records p env → Blank t.records (w_combinator c) p p (p + size c)
        → one n env (enter tree_head r t) ≡ two n env (enter tree_head r t)
    unfolding enter
    entered n b env t r at w k z = ih n b env (enter tree_head r t) (means_on w (later_one t.records r p at (z.clear p (omega arith) (omega (arith, size_some c)) (λ k. k))))
        (known_on t.records (t.records ++ (r ∷ [])) p p env k (omega arith) (λ x h. find_other t.records r x (λ e. omega arith)))
        (record { rest = z.rest; stands = z.stands; clear = λ x i j h. find_other t.records r x (λ e. omega arith) ∙ z.clear x (omega arith) j h; found = tt })

    entered_alike : (n : Name) (b : List Param) (env : List Binder) (t : Trace) (ts : List Ref) → Means b env t.records → Known t.records p env → Blank t.records (w_combinator c) p p (p + size c)
        → length ts ≡ length (sorted (free c)) → AllRefs (λ r. Stood s t.records r × (limit r ≤ p)) ts
        → (After p (enter tree_head (record { at = p; end = p + size c; name = n; params = sorted (free c); types = ts }) t) (one n env)) ≡ (After p (enter (byte_head s) (record { at = p; end = p + size c; name = n; params = sorted (free c); types = ts }) t) (two n env))
    entered_alike n b env t ts w k z e h =
        let r : Record = record { at = p; end = p + size c; name = n; params = sorted (free c); types = ts } in
        rw (← (enter_alike t r (record { count = e; refs = refs_left p t.records ts h }))) (fits_on p (enter tree_head r t) (one n env) (two n env) (entered n b env t r refl w k z))

    lifting_alike : (base : Name) (b : List Param) (env : List Binder) (t : Trace) → Means b env t.records → Known t.records p env → Blank t.records (w_combinator c) p p (p + size c)
        → lifting tree_head c p one base env t ≡ lifting (byte_head s) c p two base env t
    unfolding lifting
    lifting_alike base b env t w k z =
        still_on (leb (length (fresh base t.taken)) 255) _ t _ _ (still_on (not (leftover c)) _ t _ _ (gives_on (refs_hold (λ r. Stood s t.records r × (limit r ≤ p)) env (sorted (free c)) t k) _ _ (λ ts v h. of (fresh base t.taken) ts v h)))
      where
        of : (n : Name) (ts : List Ref) (v : Trace) → (v ≡ t) × (length ts ≡ length (sorted (free c))) × AllRefs (λ r. Stood s t.records r × (limit r ≤ p)) ts
            → (After p (enter tree_head (record { at = p; end = p + size c; name = n; params = sorted (free c); types = ts }) v) (one n env)) ≡ (After p (enter (byte_head s) (record { at = p; end = p + size c; name = n; params = sorted (free c); types = ts }) v) (two n env))
        of n ts v h = rw h.0 (entered_alike n b env t ts w k z h.1 h.2)

    kid_alike : (a : Bool) (base : Name) (b : List Param) (env : List Binder) (t : Trace) → Means b env t.records → Known t.records p env → Blank t.records (w_combinator c) p p (p + size c)
        → trace_by tree_head a c p one base env t ≡ trace_by (byte_head s) a c p two base env t
    unfolding trace_by
    kid_alike true base b env t w k z = lifting_alike base b env t w k z
    kid_alike false base b env t w k z = ih base b env t w k (record { rest = z.rest; stands = z.stands; clear = λ x i j h. z.clear x (omega arith) j h; found = tt })

  size_is : (i : Inner) (p : ℕ) → p + length (w_inner i []) ≡ p + size_i i
  unfolding size_i
  size_is i p = refl

  size_of_lem : (c : Combinator) (p : ℕ) → p + length (w_combinator c []) ≡ p + size c
  unfolding size
  size_of_lem c p = refl

  tells : {t : Trace} → Matches (state_of t) t
  tells = record { taken = refl; bytes = refl; defns = refl }

  -- a blank in two
  cut : (v w : List ℕ → List ℕ) → Splits v → (q e : ℕ) {rs : List Record} {p a f : ℕ} → Blank rs (λ z. v (w z)) p a f → f ≡ e → p + length (v []) ≡ q → a ≤ q → q ≤ e → Blank rs v p a q × Blank rs w q q e
  cut v w sp q e {rs} t ends at lo hi = split s rs v w sp q e t ends at lo hi (first_none []) none_under none_over

  -- after a child or a body was walked
  module _ {o : List Record → Combinator} {ls : List Lift} {x y : State} {t v : Trace} {d : Combinator} (g : Did o ls x t d y v) {lo hi : ℕ} (r : Between lo hi ls) where
    known_after : (p q : ℕ) (env : List Binder) → Known t.records p env → p ≤ lo → p ≤ q → Known v.records q env
    known_after p q env k h i = known_on t.records v.records p q env k i (λ x j. g.only x (λ n. let b = r.range x n in omega arith))

    blank_after : {w : List ℕ → List ℕ} {p a e : ℕ} → Blank t.records w p a e → (hi ≤ a) ⊎ (e ≤ lo) → Blank v.records w p a e
    blank_after {w} {p} {a} {e} z (inl h) = blank_on t.records v.records z (λ x i j. g.only x (λ n. let b = r.range x n in omega arith))
    blank_after {w} {p} {a} {e} z (inr h) = blank_on t.records v.records z (λ x i j. g.only x (λ n. let b = r.range x n in omega arith))

  dep_known : (k : FieldKind) {o : List Record → Combinator} (c : Combinator) (p : ℕ) {x y : State} {t v : Trace} {d : Combinator} → Blank t.records (w_combinator c) p p (p + size c) → Did o (lifts_k c p) x t d y v
      → Dep (λ t. Stood s v.records t × (limit t ≤ p + size c)) k c p
  unfolding limit
  dep_known ordinary c p z g = tt
  dep_known dependent c p z g = (kid_after c p z g, omega arith)

  mutual
    unfolding trace w_combinator w_u16

    trace_alike : (c : Combinator) (p : ℕ) (n : Name) (b : List Param) (env : List Binder) (t : Trace) → Means b env t.records → Known t.records p env → Blank t.records (w_combinator c) p (suc p) (p + size c)
        → trace tree_head c p n env t ≡ trace (byte_head s) c p n env t
    trace_alike (plain i) p n b env t w k z =
        trace_i_alike i p n b env t w k (cut (w_inner i) (0 ∷◌) (s_inner i) (p + size_i i) (p + size_i i + 1) z (omega (arith, size-plain i)) (size_is i p) (omega (arith, size_i_some i)) (omega arith)).0
    trace_alike (chained i c) p n b env t w k z =
        let q = chain_at p i in
        let a = cut (w_inner i) (λ z. 1 ∷ w_combinator c z) (s_inner i) (p + size_i i) (q + size c) z (omega (arith, size-chained i c)) (size_is i p) (omega (arith, size_i_some i)) (omega arith) in
        let r = (cut (1 ∷◌) (w_combinator c) (λ x y. refl) q (q + size c) a.1 refl refl (omega arith) (omega arith)).1 in
        alike (child_both c q n b env (state_of t) t tells w (new_blank r (in-rangeK c q)))
        (kid_alike c q (λ n e t. trace tree_head c q n e t) (λ n e t. trace (byte_head s) c q n e t) (λ n b e t w k z. trace_alike c q n b e t w k z) (anonymous c) n b env t w (known_up t.records p q env k (omega arith)) r)
        _ _ λ d u x v g. trace_i_alike i p n b env v (means_on w g.later) (known_after g (in-rangeK c q) p p env k (omega arith) (omega arith)) (blank_after g (in-rangeK c q) a.0 (inr (omega arith)))

    trace_i_alike : (i : Inner) (p : ℕ) (n : Name) (b : List Param) (env : List Binder) (t : Trace) → Means b env t.records → Known t.records p env → Blank t.records (w_inner i) p (suc p) (p + size_i i)
        → trace_i tree_head i p n env t ≡ trace_i (byte_head s) i p n env t
    trace_i_alike (leaf k x) p n b env t w h z = refl
    trace_i_alike (struct f) p n b env t w h z =
        let q = fields_at p in
        trace_f_alike f q n b env t w (known_up t.records p q env h (omega arith)) (cut (w_struct f) (w_fields f) (λ x y. refl) q (q + size_f f) z (omega (arith, size_struct f)) (omega arith) (omega arith) (omega arith)).1
    trace_i_alike (choice x k f) p n b env t w h z =
        let q = cases_at p x in
        trace_c_alike f k 0 q n b env t w (known_up t.records p q env h (omega arith))
        (cut (w_choice x k f) (w_cases f k) (s_choice x k f) q (q + size_c f k) z (omega (arith, size_choice x k f)) (omega (arith, adds (w_selector x) (s_selector x) (case_byte k ∷ w_u16 (count_c f) []))) (omega arith) (omega arith)).1
    trace_i_alike (shell x c) p n b env t w h z =
        let q = shell_at p x in
        let a = (cut (w_open x) (λ z. w_combinator c (w_shut x z)) (s_open x) q (p + size_i (shell x c)) z refl refl (omega (arith, open-some x)) (omega (arith, size-shell x c))).1 in
        let r = (cut (w_combinator c) (w_shut x) (s_comb c) (q + size c) (p + size_i (shell x c)) a refl (size_of_lem c q) (omega arith) (omega (arith, size-shell x c))).0 in
        kid_alike c q (λ n e t. trace tree_head c q n e t) (λ n e t. trace (byte_head s) c q n e t) (λ n b e t w k z. trace_alike c q n b e t w k z) (anonymous c) (child n (shell_segment x)) b env t w (known_up t.records p q env h (omega arith)) r
    trace_i_alike (bytes l) p n b env t w h z = refl
    trace_i_alike (invocation m a) p n b env t w h z = refl
    trace_i_alike (macro_invocation m a) p n b env t w h z = refl

    trace_f_alike : (f : Fields) (p : ℕ) (n : Name) (b : List Param) (env : List Binder) (t : Trace) → Means b env t.records → Known t.records p env → Blank t.records (w_fields f) p p (p + size_f f)
        → trace_f tree_head f p n env t ≡ trace_f (byte_head s) f p n env t
    trace_f_alike no_field p n b env t w h z = refl
    trace_f_alike (field k l c f) p n b env t w h z =
        let q = field_at p l in
        let a = (cut (w_field k l) (λ z. w_combinator c (w_fields f z)) (s_field k l) q (q + size c + size_f f) z (omega (arith, size-field k l c f)) (omega arith) (omega arith) (omega arith)).1 in
        let r = cut (w_combinator c) (w_fields f) (s_comb c) (q + size c) (q + size c + size_f f) a refl (size_of_lem c q) (omega arith) (omega arith) in
        alike (child_both c q (child n (segment l)) b env (state_of t) t tells w (new_blank r.0 (in-rangeK c q)))
        (kid_alike c q (λ n e t. trace tree_head c q n e t) (λ n e t. trace (byte_head s) c q n e t) (λ n b e t w k z. trace_alike c q n b e t w k z) (anonymous c) (child n (segment l)) b env t w (known_up t.records p q env h (omega arith)) r.0)
        _ _ λ d u x v g. trace_f_alike f (q + size c) n (bind k l d b) (bind_ref k l c q env) v (bind_means k l c q w g)
        (bind_holds (λ t. Stood s v.records t × (limit t ≤ q + size c)) k l c q env (known_after g (in-rangeK c q) p (q + size c) env h (omega arith) (omega arith)) (dep_known k c q r.0 g))
        (blank_after g (in-rangeK c q) r.1 (inl (omega arith)))
    trace_f_alike (const l x f) p n b env t w h z =
        let q = const_end p l x in
        trace_f_alike f q n b env t w (known_up t.records p q env h (omega arith))
        (cut (w_const l x) (w_fields f) (s_const l x) q (q + size_f f) z (omega (arith, size_constant l x f)) (omega (arith, adds (w_name l) (s_name l) (w_text x []))) (omega arith) (omega arith)).1

    trace_c_alike : (f : Cases) (k : CaseKind) (i p : ℕ) (n : Name) (b : List Param) (env : List Binder) (t : Trace) → Means b env t.records → Known t.records p env → Blank t.records (w_cases f k) p p (p + size_c f k)
        → trace_c tree_head f k i p n env t ≡ trace_c (byte_head s) f k i p n env t
    trace_c_alike no_case k i p n b env t w h z = refl
    trace_c_alike (case l c f) k i p n b env t w h z =
        let q = case_at p k l in
        let a = (cut (w_label k l) (λ z. w_combinator c (w_cases f k z)) (s_label k l) q (q + size c + size_c f k) z (omega (arith, size-case l c f k)) refl (omega arith) (omega arith)).1 in
        let r = cut (w_combinator c) (w_cases f k) (s_comb c) (q + size c) (q + size c + size_c f k) a refl (size_of_lem c q) (omega arith) (omega arith) in
        alike (child_both c q (child n (case_segment k l i)) b env (state_of t) t tells w (new_blank r.0 (in-rangeK c q)))
        (kid_alike c q (λ n e t. trace tree_head c q n e t) (λ n e t. trace (byte_head s) c q n e t) (λ n b e t w k z. trace_alike c q n b e t w k z) (anonymous c) (child n (case_segment k l i)) b env t w (known_up t.records p q env h (omega arith)) r.0)
        _ _ λ d u x v g. trace_c_alike f k (suc i) (q + size c) n b env v (means_on w g.later) (known_after g (in-rangeK c q) p (q + size c) env h (omega arith) (omega arith)) (blank_after g (in-rangeK c q) r.1 (inl (omega arith)))

  next : (d : Definition) (ds : List Definition) (p : ℕ) {rs : List Record} → Blank rs (w_all w_definition (d ∷ ds)) p p (p + bodies (d ∷ ds)) → Blank rs (w_definition d) p p (p + size_of d) × Blank rs (w_all w_definition ds) (p + size_of d) (p + size_of d) (p + size_of d + bodies ds)
  unfolding w_all size_of
  next d ds p z = cut (w_definition d) (w_all w_definition ds) (s_definition d) (p + size_of d) (p + size_of d + bodies ds) z (omega (arith, bodies-cons d ds)) refl (omega arith) (omega arith)

  trace_all_alike : (ds : List Definition) (p : ℕ) (t : Trace) → Blank t.records (w_all w_definition ds) p p (p + bodies ds) → trace_all tree_head ds p t ≡ trace_all (byte_head s) ds p t
  unfolding trace_all w_definition
  trace_all_alike [] p t z = refl
  trace_all_alike (format n ps c ∷ ds) p t z =
      let a = next (format n ps c) ds p z in
      let q = p + head n ps in
      let b = cut (w_head n ps) (w_combinator c) (s_head n ps) q (q + size c) a.0 (omega (arith, size-format n ps c)) (omega (arith, head-length n ps)) (omega arith) (omega arith) in
      let w = own_means ps (params_at p n) t.records in
      let y : Blank t.records (w_combinator c) q (suc q) (q + size c) = record { rest = b.1.rest; stands = b.1.stands; clear = λ x i j h. b.1.clear x (omega arith) j h; found = tt } in
      alike (walk_both c q n ps (own_binders ps (params_at p n)) (state_of t) t tells w (record { new = λ x h. let r = (in-range c q).range x h in b.1.clear x (omega arith) r.1 (λ k. k) }))
      (trace_alike c q n ps (own_binders ps (params_at p n)) t w (own_stood s t.records n ps p b.0) y)
      _ _ λ d u x v g. trace_all_alike ds (p + size_of (format n ps c)) v (blank_after g (in-range c q) a.1 (inl (omega (arith, size-format n ps c))))
  trace_all_alike (constant n x ∷ ds) p t z = trace_all_alike ds (p + size_of (constant n x)) t (next (constant n x) ds p z).1
  trace_all_alike (byte_order x ∷ ds) p t z = trace_all_alike ds (p + size_of (byte_order x)) t (next (byte_order x) ds p z).1
  trace_all_alike (macro n ps c ∷ ds) p t z = trace_all_alike ds (p + size_of (macro n ps c)) t (next (macro n ps c) ds p z).1

-- the naming pass may count in the bytes of the expanded book, whatever follows it
pub measured_by_bytes : (ds : List Definition) (z : List ℕ) → trace_book tree_head ds ≡ trace_book (byte_head (w_book ds ++ z)) ds
unfolding trace_book begin find
measured_by_bytes ds z = trace_all_alike (w_book ds ++ z) ds (first_at ds) (begin ds) (record { rest = z; stands = bodies_stand ds z; clear = λ x i j h. refl; found = tt })
