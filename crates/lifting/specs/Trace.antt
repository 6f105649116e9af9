-- The walk that makes records: in walk order, it names, collects, finds binders and measures, and rewrites no tree. Document 01, "Lifting rules", codes 7 to 10.
use Rattle.std.specs.Prelude.{Bool, true, false, cond, not, ◌&&◌, List, [], ◌∷◌, ◌++◌, map, ℕ, suc, ◌+◌, leb, length}
use Rattle.definition.specs.Code.{leftover_macro, name_long, no_binder, result_long}
use Rattle.definition.specs.Res.{Maybe, absent, just, Res, bad, ok, require, ◌>>=◌}
use Rattle.definition.specs.Out.{Out, refused, done}
use Rattle.definition.specs.Answer.{Result}
use Rattle.definition.specs.Tree.{Name, CaseKind, FieldKind, ordinary, dependent, Combinator, plain, chained, Inner, leaf, struct, choice, shell, bytes, invocation, macro_invocation, Fields, no_field, field, const, Cases, no_case, case, Param, Definition, format, constant, byte_order, macro}
use Rattle.definition.specs.Names.{eq_name, sorted, segment, child, case_segment, shell_segment, fresh}
use Rattle.definition.specs.Write.{w_name, w_param, size_of}
use Rattle.definition.specs.Size.{size, size_book}
use Rattle.definition.specs.Collect.{anonymous, free, leftover}
use Rattle.definition.specs.Lift.{names}
use Rattle.laws.proofs.Sizes.{head}
use Rattle.lifting.specs.Records.{Ref, own, passed, Record, call}
use Rattle.lifting.specs.After.{chain_at, fields_at, cases_at, shell_at, field_at, const_end, case_at, params_of, definition_of, out_all, lifts_all, first_at}

-- what it carries: the names taken, the records in walk order, the places of the lifts that are finished, and the book as code 10 measures it
pub record Trace : Type 0 where
  pub taken : List Name
  pub records : List Record
  pub finished : List ℕ
  pub bytes : ℕ
  pub defns : ℕ

pub record Binder : Type 0 where
  pub name : Name
  pub ref : Ref

-- "A parameter's type is that of the first binder of that name"
unfoldable pub first : List Binder → Name → Maybe Ref
first [] n = absent
first (b ∷ bs) n = let r = first bs n in cond (eq_name b.name n) (just b.ref) r

unfoldable pub ref_of : Maybe Ref → Trace → Res Trace Ref
ref_of absent t = bad no_binder t
ref_of (just r) t = ok r t

unfoldable pub refs : List Binder → List Name → Trace → Res Trace (List Ref)
refs env [] t = ok [] t
refs env (n ∷ ns) t = do
  (r, t) ← ref_of (first env n) t
  (rs, t) ← refs env ns t
  ok (r ∷ rs) t

unfoldable pub finish : ℕ → Trace → Trace
finish p t = record { taken = t.taken; records = t.records; finished = t.finished ++ (p ∷ []); bytes = t.bytes; defns = t.defns }

unfoldable pub fits : Trace → Res Trace Unit
fits t = require (leb t.bytes 16384 && leb t.defns 512) result_long t

-- "A Dependent field binds its label for the fields after it"
unfoldable pub bind_ref : FieldKind → Name → Combinator → ℕ → List Binder → List Binder
bind_ref ordinary l c p env = env
bind_ref dependent l c p env = env ++ (record { name = l; ref = passed c p } ∷ [])

abbrev pub Tracing : Type 0
Tracing = Name → List Binder → Trace → Res Trace Unit

-- the definition's own parameters as binders; the first parameter begins at p
unfoldable pub own_binders : List Param → ℕ → List Binder
own_binders [] p = []
own_binders (x ∷ ps) p = record { name = x.name; ref = own x.type (p + length (w_name x.name [])) } ∷ own_binders ps (p + length (w_param x []))

abbrev pub params_at : ℕ → Name → ℕ
params_at p n = p + length (w_name n []) + 2

-- "Taken at the start: all kind 1 and 2 names."
unfoldable pub begin : List Definition → Trace
begin ds = record { taken = names ds; records = []; finished = []; bytes = size_book ds; defns = length ds }

-- the bytes of the name and the parameters of a new body, by the records so far
unfoldable pub tree_head : List Record → Record → ℕ
tree_head rs r = head r.name (params_of rs r.params r.types)

-- over how these bytes are counted; document 01's is `tree_head`
module _ (head_of : List Record → Record → ℕ) where
  -- "for each lift so far, 6 bytes of contents, the new body and the call, less the combinator moved": the new body is its head, in bytes `head_of` the records so far, and the combinator moved
  unfoldable pub enter : Record → Trace → Trace
  enter r t = record {
    taken = r.name ∷ t.taken;
    records = t.records ++ (r ∷ []);
    finished = t.finished;
    bytes = t.bytes + 6 + head_of t.records r + size (call r);
    defns = t.defns + 1;
  }

  -- "9, 7, 8, 10"
  unfoldable pub lifting : Combinator → ℕ → Tracing → Tracing
  lifting c p inside base env t =
      let n = fresh base t.taken in
      let ns = sorted (free c) in do
        (u, t) ← require (leb (length n) 255) name_long t
        (u, t) ← require (not (leftover c)) leftover_macro t
        (rs, t) ← refs env ns t
        (u, t) ← fits (enter (record { at = p; end = p + size c; name = n; params = ns; types = rs }) t)
        (u, t) ← inside n env t
        ok tt (finish p t)

  unfoldable pub trace_by : Bool → Combinator → ℕ → Tracing → Tracing
  trace_by true c p inside base env t = lifting c p inside base env t
  trace_by false c p inside base env t = inside base env t

  -- "At a node: the chain first, then the children in order."
  unfoldable mutual
    pub trace : Combinator → ℕ → Name → List Binder → Trace → Res Trace Unit
    trace (plain i) p name env t = trace_i i p name env t
    trace (chained i c) p name env t = do
      (u, t) ← trace_by (anonymous c) c (chain_at p i) (λ n e t. trace c (chain_at p i) n e t) name env t
      trace_i i p name env t

    pub trace_i : Inner → ℕ → Name → List Binder → Trace → Res Trace Unit
    trace_i (leaf k x) p name env t = ok tt t
    trace_i (struct f) p name env t = trace_f f (fields_at p) name env t
    trace_i (choice s k f) p name env t = trace_c f k 0 (cases_at p s) name env t
    trace_i (shell x c) p name env t = trace_by (anonymous c) c (shell_at p x) (λ n e t. trace c (shell_at p x) n e t) (child name (shell_segment x)) env t
    trace_i (bytes l) p name env t = ok tt t
    trace_i (invocation n a) p name env t = ok tt t
    trace_i (macro_invocation n a) p name env t = ok tt t

    pub trace_f : Fields → ℕ → Name → List Binder → Trace → Res Trace Unit
    trace_f no_field p name env t = ok tt t
    trace_f (field k l c f) p name env t = do
      (u, t) ← trace_by (anonymous c) c (field_at p l) (λ n e t. trace c (field_at p l) n e t) (child name (segment l)) env t
      trace_f f (field_at p l + size c) name (bind_ref k l c (field_at p l) env) t
    trace_f (const l x f) p name env t = trace_f f (const_end p l x) name env t

    pub trace_c : Cases → CaseKind → ℕ → ℕ → Name → List Binder → Trace → Res Trace Unit
    trace_c no_case k i p name env t = ok tt t
    trace_c (case l c f) k i p name env t = do
      (u, t) ← trace_by (anonymous c) c (case_at p k l) (λ n e t. trace c (case_at p k l) n e t) (child name (case_segment k l i)) env t
      trace_c f k (suc i) (case_at p k l + size c) name env t

  unfoldable pub trace_all : List Definition → ℕ → Trace → Res Trace Unit
  trace_all [] p t = ok tt t
  trace_all (format n ps c ∷ ds) p t = do
    (u, t) ← trace c (p + head n ps) n (own_binders ps (params_at p n)) t
    trace_all ds (p + size_of (format n ps c)) t
  trace_all (constant n x ∷ ds) p t = trace_all ds (p + size_of (constant n x)) t
  trace_all (byte_order x ∷ ds) p t = trace_all ds (p + size_of (byte_order x)) t
  trace_all (macro n ps c ∷ ds) p t = trace_all ds (p + size_of (macro n ps c)) t

  unfoldable pub trace_book : List Definition → Res Trace Unit
  trace_book ds = trace_all ds (first_at ds) (begin ds)

-- the result, by the records
abbrev pub result_of : List Definition → Trace → Result
result_of ds t = record { kept = out_all ds (first_at ds) t.records; lifted = map (definition_of t.records) (lifts_all ds (first_at ds)) }

unfoldable pub traced : List Definition → Res Trace Unit → Out Result
traced ds (bad k t) = refused k
traced ds (ok u t) = done (result_of ds t)
