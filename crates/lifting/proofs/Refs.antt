-- What holds of every binder holds of everything that types a parameter.
use mathlib.Core.Path.{◌≡◌, refl, ap}
use mathlib.Core.Bool.{Bool, true, false, cond, not, ◌&&◌}
use mathlib.Core.List.{List, [], ◌∷◌, ◌++◌}
use Prim.Native.Nat.{ℕ, suc, ◌+◌}
use lib.Dec.{leb}
use lib.ListN.{length}
use Rattle.definition.specs.Code.{result_long}
use Rattle.definition.specs.Res.{just, ok, require, ◌>>=◌}
use Rattle.definition.specs.Tree.{Name, CaseKind, FieldKind, ordinary, dependent, Combinator, plain, chained, Inner, leaf, struct, choice, shell, bytes, invocation, macro_invocation, Fields, no_field, field, const, Cases, no_case, case}
use Rattle.definition.specs.Names.{eq_name, sorted, segment, child, case_segment, shell_segment, fresh}
use Rattle.definition.specs.Size.{size}
use Rattle.definition.specs.Collect.{anonymous, free, leftover}
use Rattle.laws.proofs.Steps.{Gives, refusal, value, then, ask}
use Rattle.lifting.specs.Records.{Ref, passed, Record}
use Rattle.lifting.specs.After.{chain_at, fields_at, cases_at, shell_at, field_at, const_end, case_at}
use Rattle.lifting.specs.Trace.{Trace, Binder, first, ref_of, refs, enter, finish, fits, bind_ref, Tracing, lifting, trace_by, trace, trace_i, trace_f, trace_c}

module _ (Q : Ref → Type 0) where
  abbrev pub AllRefs : List Ref → Type 0
  AllRefs [] = Unit {0}
  AllRefs (r ∷ rs) = Q r × AllRefs rs

  abbrev pub AllBinders : List Binder → Type 0
  AllBinders [] = Unit {0}
  AllBinders (b ∷ bs) = Q b.ref × AllBinders bs

  -- one for each parameter
  pub record WellTyped (r : Record) : Type 0 where
    pub count : length r.types ≡ length r.params
    pub refs : AllRefs r.types

  abbrev pub AllTyped : List Record → Type 0
  AllTyped [] = Unit {0}
  AllTyped (r ∷ rs) = WellTyped r × AllTyped rs

  abbrev pub Typing : Unit {0} → Trace → Type 0
  Typing u t = AllTyped t.records

  -- it holds of the Dependent fields
  abbrev pub Dep : FieldKind → Combinator → ℕ → Type 0
  Dep ordinary c p = Unit {0}
  Dep dependent c p = Q (passed c p)

  abbrev mutual
    pub Deps : Combinator → ℕ → Type 0
    Deps (plain i) p = DepsI i p
    Deps (chained i c) p = Deps c (chain_at p i) × DepsI i p

    pub DepsI : Inner → ℕ → Type 0
    DepsI (leaf k x) p = Unit {0}
    DepsI (struct f) p = DepsF f (fields_at p)
    DepsI (choice s k f) p = DepsC f k (cases_at p s)
    DepsI (shell x c) p = Deps c (shell_at p x)
    DepsI (bytes l) p = Unit {0}
    DepsI (invocation n a) p = Unit {0}
    DepsI (macro_invocation n a) p = Unit {0}

    pub DepsF : Fields → ℕ → Type 0
    DepsF no_field p = Unit {0}
    DepsF (field k l c f) p = Dep k c (field_at p l) × (Deps c (field_at p l) × DepsF f (field_at p l + size c))
    DepsF (const l x f) p = DepsF f (const_end p l x)

    pub DepsC : Cases → CaseKind → ℕ → Type 0
    DepsC no_case k p = Unit {0}
    DepsC (case l c f) k p = Deps c (case_at p k l) × DepsC f k (case_at p k l + size c)

  binders_snoc : (env : List Binder) (b : Binder) → AllBinders env → Q b.ref → AllBinders (env ++ (b ∷ []))
  binders_snoc [] b a q = (q, tt)
  binders_snoc (x ∷ env) b a q = (a.0, binders_snoc env b a.1 q)

  typed_snoc : (rs : List Record) (r : Record) → AllTyped rs → WellTyped r → AllTyped (rs ++ (r ∷ []))
  typed_snoc [] r a q = (q, tt)
  typed_snoc (x ∷ rs) r a q = (a.0, typed_snoc rs r a.1 q)

  pub bind_holds : (k : FieldKind) (l : Name) (c : Combinator) (p : ℕ) (env : List Binder) → AllBinders env → Dep k c p → AllBinders (bind_ref k l c p env)
  unfolding bind_ref
  bind_holds ordinary l c p env a d = a
  bind_holds dependent l c p env a d = binders_snoc env _ a d

  pub refs_hold : (env : List Binder) (ns : List Name) (t : Trace) → AllBinders env → Gives (λ rs v. (v ≡ t) × (length rs ≡ length ns) × AllRefs rs) (refs env ns t)
  unfolding refs ref_of first
  refs_hold env [] t a = value (refl, refl, tt)
  refs_hold env (n ∷ ns) t a = then (one env a) _ λ r v h. then (refs_hold env ns v a) _ λ rs w k. value (rw k.0 h.0, ap suc k.1, (h.1, k.2))
    where
      step : (b : Binder) (env : List Binder) (y : Bool) → Q b.ref → Gives (λ r v. (v ≡ t) × Q r) (ref_of (first env n) t) → Gives (λ r v. (v ≡ t) × Q r) (ref_of (cond y (just b.ref) (first env n)) t)
      step b env true q g = value (refl, q)
      step b env false q g = g

      one : (env : List Binder) → AllBinders env → Gives (λ r v. (v ≡ t) × Q r) (ref_of (first env n) t)
      one [] a = refusal
      one (b ∷ env) a = step b env (eq_name b.name n) a.0 (one env a.1)

fits_says : (t : Trace) → Gives (λ u v. v ≡ t) (fits t)
unfolding fits
fits_says t = of (leb t.bytes 16384 && leb t.defns 512)
  where
    of : (b : Bool) → Gives (λ u v. v ≡ t) (require b result_long t)
    of true = value refl
    of false = refusal

module _ (head_of : List Record → Record → ℕ) (Q : Ref → Type 0) where
  -- a lift, its record among them
  module _ (c : Combinator) (p : ℕ) (trail : Tracing) (ih : (n : Name) (env : List Binder) (t : Trace) → AllBinders Q env → AllTyped Q t.records → Gives (Typing Q) (trail n env t)) where
    measured : (n : Name) (env : List Binder) (ts : List Ref) (t : Trace) → AllBinders Q env → length ts ≡ length (sorted (free c)) → AllRefs Q ts → AllTyped Q t.records
        → Gives (Typing Q) (do
          (u, t) ← fits (enter head_of (record { at = p; end = p + size c; name = n; params = sorted (free c); types = ts }) t)
          (u, t) ← trail n env t
          ok tt (finish p t))
    unfolding enter finish
    measured n env ts t a e h w =
        let r : Record = record { at = p; end = p + size c; name = n; params = sorted (free c); types = ts } in
        then (fits_says (enter head_of r t)) _ λ u v k. then (ih n env v a (rw k (typed_snoc Q t.records r w (record { count = e; refs = h })))) _ λ u x k. value k

    kid_types : (a : Bool) (n : Name) (env : List Binder) (t : Trace) → AllBinders Q env → AllTyped Q t.records → Gives (Typing Q) (trace_by head_of a c p trail n env t)
    unfolding trace_by lifting
    kid_types true base env t a w =
        let n = fresh base t.taken in
        ask (leb (length n) 255) _ t _ λ short. ask (not (leftover c)) _ t _ λ clear.
        then (refs_hold Q env (sorted (free c)) t a) _ λ ts v h.
        measured n env ts v a h.1 h.2 (rw h.0 w)
    kid_types false base env t a w = ih base env t a w

  mutual
    unfolding trace

    pub trace_types : (c : Combinator) (p : ℕ) (n : Name) (env : List Binder) (t : Trace) → Deps Q c p → AllBinders Q env → AllTyped Q t.records → Gives (Typing Q) (trace head_of c p n env t)
    trace_types (plain i) p n env t d a w = trace_types_i i p n env t d a w
    trace_types (chained i c) p n env t d a w = then (kid_types c (chain_at p i) (λ n e t. trace head_of c (chain_at p i) n e t) (λ n e t a w. trace_types c (chain_at p i) n e t d.0 a w) (anonymous c) n env t a w) _ λ u v h.
        trace_types_i i p n env v d.1 a h

    trace_types_i : (i : Inner) (p : ℕ) (n : Name) (env : List Binder) (t : Trace) → DepsI Q i p → AllBinders Q env → AllTyped Q t.records → Gives (Typing Q) (trace_i head_of i p n env t)
    trace_types_i (leaf k x) p n env t d a w = value w
    trace_types_i (struct f) p n env t d a w = trace_types_f f (fields_at p) n env t d a w
    trace_types_i (choice x k f) p n env t d a w = trace_types_c f k 0 (cases_at p x) n env t d a w
    trace_types_i (shell x c) p n env t d a w = kid_types c (shell_at p x) (λ n e t. trace head_of c (shell_at p x) n e t) (λ n e t a w. trace_types c (shell_at p x) n e t d a w) (anonymous c) (child n (shell_segment x)) env t a w
    trace_types_i (bytes l) p n env t d a w = value w
    trace_types_i (invocation m x) p n env t d a w = value w
    trace_types_i (macro_invocation m x) p n env t d a w = value w

    trace_types_f : (f : Fields) (p : ℕ) (n : Name) (env : List Binder) (t : Trace) → DepsF Q f p → AllBinders Q env → AllTyped Q t.records → Gives (Typing Q) (trace_f head_of f p n env t)
    trace_types_f no_field p n env t d a w = value w
    trace_types_f (field k l c f) p n env t d a w = then (kid_types c (field_at p l) (λ n e t. trace head_of c (field_at p l) n e t) (λ n e t a w. trace_types c (field_at p l) n e t d.1.0 a w) (anonymous c) (child n (segment l)) env t a w) _ λ u v h.
        trace_types_f f (field_at p l + size c) n (bind_ref k l c (field_at p l) env) v d.1.1 (bind_holds Q k l c (field_at p l) env a d.0) h
    trace_types_f (const l x f) p n env t d a w = trace_types_f f (const_end p l x) n env t d a w

    trace_types_c : (f : Cases) (k : CaseKind) (i p : ℕ) (n : Name) (env : List Binder) (t : Trace) → DepsC Q f k p → AllBinders Q env → AllTyped Q t.records → Gives (Typing Q) (trace_c head_of f k i p n env t)
    trace_types_c no_case k i p n env t d a w = value w
    trace_types_c (case l c f) k i p n env t d a w = then (kid_types c (case_at p k l) (λ n e t. trace head_of c (case_at p k l) n e t) (λ n e t a w. trace_types c (case_at p k l) n e t d.0 a w) (anonymous c) (child n (case_segment k l i)) env t a w) _ λ u v h.
        trace_types_c f k (suc i) (case_at p k l + size c) n env v d.1 a h
