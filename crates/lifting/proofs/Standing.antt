-- Every lift out of what stands at a place, and every Dependent field in it, stands at its own place; the bytes of types and of lifted definitions.
use mathlib.Core.Path.{◌≡◌, refl, sym, ap, ◌∙◌}
use mathlib.Core.Bool.{Bool, true, false}
use mathlib.Core.List.{List, [], ◌∷◌, ◌++◌, append-nil}
use Prim.Native.Nat.{ℕ, suc, ◌+◌}
use native.Mathlib.Omega.{arith}
use lib.ListN.{length, get_or}
use Rattle.definition.specs.Res.{absent}
use Rattle.definition.specs.Tree.{Name, CaseKind, FieldKind, ordinary, dependent, Combinator, plain, chained, Inner, leaf, struct, choice, shell, bytes, invocation, macro_invocation, Fields, no_field, field, const, Cases, no_case, case}
use Rattle.definition.specs.Write.{w_name, w_all, w_list, w_param, w_combinator, w_inner, w_definition}
use Rattle.definition.specs.Macros.{inner_of}
use Rattle.definition.specs.Size.{size}
use Rattle.definition.specs.Collect.{anonymous}
use Rattle.laws.proofs.Splits.{s_inner}
use Rattle.laws.proofs.Sizes.{size_i, size_i_some, size_some}
use Rattle.lifting.specs.Records.{Ref, own, passed, Record, find, call}
use Rattle.lifting.specs.After.{chain_at, fields_at, cases_at, shell_at, field_at, const_end, case_at, replaced, out, out_i, Lift, itself, lift_at, lifts, lifts_i, lifts_f, lifts_c, lifts_k, type_of, params_of, made_by, definition_of, Found}
use Rattle.lifting.specs.Calls.{with_calls, ref_at, ref_end, type_bytes, ref_bytes, param_bytes, lifted_bytes}
use Rattle.lifting.proofs.Found.{found_right}
use Rattle.lifting.proofs.Ranges.{in-range}
use Rattle.lifting.proofs.Calls.{ends, goes_on}
use Rattle.lifting.proofs.Parts.{Part, Whole, WholeI, WholeF, WholeC, Kid, Raw, of_plain, of_chained, of_struct, of_choice, of_shell, of_field, of_const, of_case}
use Rattle.lifting.proofs.Bytes.{kid_whole, raw, bytes_of, bytes_of_i}
use Rattle.lifting.proofs.Refs.{AllRefs, WellTyped, Dep, Deps, DepsI, DepsF, DepsC}

-- where what types a parameter ends, its chain with it
unfoldable pub limit : Ref → ℕ
limit (own i p) = p + size_i i
limit (passed c p) = p + size c

module _ (s : List ℕ) (rs : List Record) where
  -- what types a parameter stands at its place
  abbrev pub Stood : Ref → Type 0
  Stood (own i p) = Raw s rs (w_inner i) p p (p + size_i i)
  Stood (passed c p) = Kid s rs c p

  abbrev pub AllWhole : List Lift → Type 0
  AllWhole [] = Unit {0}
  AllWhole (l ∷ ls) = Whole s rs l.what l.at × AllWhole ls

  pub all_whole : (a b : List Lift) → AllWhole a → AllWhole b → AllWhole (a ++ b)
  all_whole [] b f g = g
  all_whole (l ∷ a) b f g = (f.0, all_whole a b f.1 g)

  kid_all : (a : Bool) (c : Combinator) (p : ℕ) → Whole s rs c p → AllWhole (lifts c p) → AllWhole (lifts c p ++ itself a c p)
  unfolding itself
  kid_all true c p t w = all_whole (lifts c p) _ w (t, tt)
  kid_all false c p t w = all_whole (lifts c p) [] w tt

  dep_stood : (k : FieldKind) (c : Combinator) (p : ℕ) → Kid s rs c p → Dep Stood k c p
  dep_stood ordinary c p t = tt
  dep_stood dependent c p t = t

  mutual
    unfolding lifts

    pub inside : (c : Combinator) (p : ℕ) → Whole s rs c p → AllWhole (lifts c p) × Deps Stood c p
    inside (plain i) p t = inside_i i p (of_plain s rs i p t).0
    inside (chained i c) p t =
        let q = of_chained s rs i c p t in
        let w = kid_whole s rs (anonymous c) c (chain_at p i) q.2 in
        let k = inside c (chain_at p i) w in
        let h = inside_i i p q.0 in
        (all_whole (lifts_k c (chain_at p i)) (lifts_i i p) (kid_all (anonymous c) c (chain_at p i) w k.0) h.0, (k.1, h.1))

    inside_i : (i : Inner) (p : ℕ) → WholeI s rs i p → AllWhole (lifts_i i p) × DepsI Stood i p
    inside_i (leaf k x) p t = (tt, tt)
    inside_i (struct f) p t = inside_f f (fields_at p) (of_struct s rs f p t).1
    inside_i (choice x k f) p t = inside_c f k (cases_at p x) (of_choice s rs x k f p t).1
    inside_i (shell x c) p t =
        let w = kid_whole s rs (anonymous c) c (shell_at p x) (of_shell s rs x c p t).1 in
        let k = inside c (shell_at p x) w in
        (kid_all (anonymous c) c (shell_at p x) w k.0, k.1)
    inside_i (bytes l) p t = (tt, tt)
    inside_i (invocation n a) p t = (tt, tt)
    inside_i (macro_invocation n a) p t = (tt, tt)

    inside_f : (f : Fields) (p : ℕ) → WholeF s rs f p → AllWhole (lifts_f f p) × DepsF Stood f p
    inside_f no_field p t = (tt, tt)
    inside_f (field k l c f) p t =
        let q = of_field s rs k l c f p t in
        let w = kid_whole s rs (anonymous c) c (field_at p l) q.1 in
        let h = inside c (field_at p l) w in
        let g = inside_f f (field_at p l + size c) q.2 in
        (all_whole (lifts_k c (field_at p l)) (lifts_f f (field_at p l + size c)) (kid_all (anonymous c) c (field_at p l) w h.0) g.0, (dep_stood k c (field_at p l) q.1, (h.1, g.1)))
    inside_f (const l x f) p t = inside_f f (const_end p l x) (of_const s rs l x f p t).1

    inside_c : (f : Cases) (k : CaseKind) (p : ℕ) → WholeC s rs f k p → AllWhole (lifts_c f k p) × DepsC Stood f k p
    inside_c no_case k p t = (tt, tt)
    inside_c (case l c f) k p t =
        let q = of_case s rs l c f k p t in
        let w = kid_whole s rs (anonymous c) c (case_at p k l) q.1 in
        let h = inside c (case_at p k l) w in
        let g = inside_c f k (case_at p k l + size c) q.2 in
        (all_whole (lifts_k c (case_at p k l)) (lifts_c f k (case_at p k l + size c)) (kid_all (anonymous c) c (case_at p k l) w h.0) g.0, (h.1, g.1))

  -- the bytes of a type
  inner_whole : (c : Combinator) (p : ℕ) → Whole s rs c p → WholeI s rs (inner_of c) p
  unfolding inner_of
  inner_whole (plain i) p t = (of_plain s rs i p t).0
  inner_whole (chained i c) p t = (of_chained s rs i c p t).0

  inner_out : (c : Combinator) (p : ℕ) → inner_of (out c p rs) ≡ out_i (inner_of c) p rs
  unfolding inner_of out
  inner_out (plain i) p = refl
  inner_out (chained i c) p = refl

  kid_type : (a : Bool) (c : Combinator) (p : ℕ) → Part s rs (w_combinator c) p p (p + size c) (lifts c p ++ itself a c p)
      → w_inner (inner_of (replaced a (out c p rs) (find rs p))) [] ≡ type_bytes (find rs p) (with_calls s rs p (p + size_i (inner_of c)))
  unfolding itself replaced type_bytes inner_of call
  kid_type true c p t = let f : Found rs (lift_at c p) = (found_right rs (lifts c p) _ t.found).0 in rw f.found
  kid_type false c p t =
      let e : find rs p ≡ absent = t.clear p (omega arith) (omega (arith, size_some c)) (λ k. let q = (in-range c p).range p (rw (append-nil (lifts c p)) at k) in omega arith) in
      let g = goes_on s rs e (bytes_of_i s rs (inner_of c) p (inner_whole c p (kid_whole s rs false c p t)) (ends s rs (p + size_i (inner_of c)))) in
      rw (e, inner_out c p) (sym g.is)

  pub ref_bytes_lem : (t : Ref) → Stood t → w_inner (type_of rs t) [] ≡ ref_bytes s rs t
  unfolding type_of ref_bytes ref_at ref_end type_bytes size_i
  ref_bytes_lem (own i p) t =
      let e : find rs p ≡ absent = t.clear p (omega arith) (omega (arith, size_i_some i)) (λ k. k) in
      rw e (sym (raw s rs (w_inner i) (s_inner i) t refl (ends s rs (p + size_i i))).is)
  ref_bytes_lem (passed c p) t = kid_type (anonymous c) c p t

  -- the bytes of the parameters
  pub params_bytes : (ns : List Name) (ts : List Ref) (r : List ℕ) → AllRefs Stood ts → w_all w_param (params_of rs ns ts) r ≡ param_bytes s rs ns ts r
  unfolding w_all w_param params_of param_bytes
  params_bytes [] ts r h = refl
  params_bytes (n ∷ ns) [] r h = refl
  params_bytes (n ∷ ns) (t ∷ ts) r h = ap (w_name n) (rw (params_bytes ns ts r h.1) (s_inner (type_of rs t) [] (param_bytes s rs ns ts r) ∙ ap (◌++ param_bytes s rs ns ts r) (ref_bytes_lem t h.0)))

  length_params : (ns : List Name) (ts : List Ref) → length ts ≡ length ns → length (params_of rs ns ts) ≡ length ns
  unfolding params_of
  length_params [] ts e = refl
  length_params (n ∷ ns) [] e = absurd (omega arith)
  length_params (n ∷ ns) (t ∷ ts) e = ap suc (length_params ns ts (omega arith))

  -- the bytes of a lifted definition
  pub lifted_bytes_lem : (l : Lift) (f : Found rs l) → Whole s rs l.what l.at → WellTyped Stood f.of → w_definition (definition_of rs l) [] ≡ lifted_bytes s rs (find rs l.at)
  unfolding definition_of made_by w_definition w_list lifted_bytes
  lifted_bytes_lem l f t w =
      let r = f.of in
      let o = bytes_of s rs l.what l.at t (ends s rs (l.at + size l.what)) in
      rw (f.found, f.begins, f.ends, length_params r.params r.types w.count, o.is, params_bytes r.params r.types (get_or s l.at 0 ∷ with_calls s rs (suc l.at) (l.at + size l.what)) w.refs)
