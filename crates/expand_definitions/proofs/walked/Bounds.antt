-- Binders with sizes for binders with trees; codes 8 and 10.
use mathlib.Core.Path.{◌≡◌, refl, ap}
use mathlib.Core.Bool.{Bool, true, false, cond}
use mathlib.Core.List.{List, [], ◌∷◌, map, map-append}
use Prim.Native.Nat.{ℕ, ◌+◌}
use native.Mathlib.Omega.{arith}
use lib.ListN.{length, length-append}
use Rattle.definition.specs.Code.{no_binder}
use Rattle.definition.specs.Res.{Maybe, absent, just, Res, bad, ok, ◌>>=◌}
use Rattle.definition.specs.Tree.{Name, FieldKind, ordinary, dependent, Combinator, Param}
use Rattle.definition.specs.Names.{eq_name}
use Rattle.definition.specs.Write.{w_u16, w_name, w_all, w_list, w_param, w_inner}
use Rattle.definition.specs.Size.{size}
use Rattle.definition.specs.Macros.{inner_of}
use Rattle.definition.specs.Collect.{anonymous}
use Rattle.laws.proofs.Splits.{s_inner}
use Rattle.laws.proofs.Sizes.{adds, size_i, head}
use Rattle.lifting.specs.Records.{Ref, passed, Record, find, call}
use Rattle.lifting.specs.After.{Lift, replaced, out, type_of, params_of}
use Rattle.lifting.specs.Calls.{names_room, call_room}
use Rattle.lifting.specs.Trace.{Trace, Binder, first, ref_of, refs, bind_ref, own_binders, tree_head}
use Rattle.lifting.proofs.Found.{Later, later_self, later_on}
use Rattle.lifting.proofs.Measured.{size-call}
use Rattle.lift_tables.specs.tables.Rows.{type_at}
use Rattle.lift_tables.specs.enter_lift.Bound.{Bound, type_of as boundType, first_of, joined, binders_of, types_size}
use Rattle.lift_tables.specs.enter_lift.Sheet.{Sheet, call_size, head_size}
use Rattle.lift_combinator.specs.naming.Walk.{Extent, binds}
use Rattle.expand_definitions.specs.walked.Book.{own_bound}
use Rattle.expand_definitions.proofs.walked.Alike.{Did}
use Rattle.expand_definitions.proofs.walked.Sizes.{cut, extent, Near, exact, near_cut, near_sum}

-- the binders in force, by all records to come
abbrev pub bound_of : List Record → Binder → Bound
bound_of rs b = record { name = b.name; type = type_at b.ref; size = cut (size_i (type_of rs b.ref)) }

pub record Means (env : List Bound) (binders : List Binder) (rs : List Record) : Type 0 where
  pub meant : (later : List Record) → Later rs later → env ≡ map (bound_of later) binders

pub means_on : {env : List Bound} {binders : List Binder} {a b : List Record} → Means env binders a → Later a b → Means env binders b
means_on m l = record { meant = λ later k. m.meant later (later_on l k) }

-- "A Dependent field binds its label for the fields after it", "types as they stand after lifting, without chain"
pub bind_means : (k : FieldKind) (l : Name) (c : Combinator) (p : ℕ) {env : List Bound} {binders : List Binder} {ls : List Lift} {u : Sheet} {t v : Trace} {z : Extent} → Means env binders t.records
    → Did (λ rs. extent (replaced (anonymous c) (out c p rs) (find rs p))) ls t z u v → Means (binds k l p z.inner env) (bind_ref k l c p binders) v.records
unfolding binds bind_ref type_of extent
bind_means ordinary l c p w g = means_on w g.later
bind_means dependent l c p {binders = binders} {z = z} w g = record {
  meant = λ rs h.
      let e : z.inner ≡ cut (size_i (inner_of (replaced (anonymous c) (out c p rs) (find rs p)))) = ap (λ z. z.inner) (g.says rs h) in
      rw (map-append (bound_of rs) binders (record { name = l; ref = passed c p } ∷ []), w.meant rs (later_on g.later h), e);
}

-- the definition's own parameters
pub own_means : (ps : List Param) (p : ℕ) (rs : List Record) → Means (own_bound ps p) (own_binders ps p) rs
unfolding own_bound own_binders type_of cut
own_means ps p rs = record { meant = λ later l. same later ps p }
  where
    same : (later : List Record) (ps : List Param) (p : ℕ) → own_bound ps p ≡ map (bound_of later) (own_binders ps p)
    same later [] p = refl
    same later (x ∷ ps) p = rw (same later ps (p + length (w_param x [])))

-- the first binder of a name
data First (rs : List Record) : Maybe Bound → Maybe Ref → Type 0 where
  neither : First rs absent absent
  both : {b : Bound} {r : Ref} → b.type ≡ type_at r → b.size ≡ cut (size_i (type_of rs r)) → First rs (just b) (just r)

first_both : (rs : List Record) (binders : List Binder) (n : Name) → First rs (first_of (map (bound_of rs) binders) n) (first binders n)
unfolding first_of first
first_both rs [] n = neither
first_both rs (b ∷ binders) n = step (eq_name b.name n) (first_both rs binders n)
  where
    step : (t : Bool) → First rs (first_of (map (bound_of rs) binders) n) (first binders n)
        → First rs (cond t (just (bound_of rs b)) (first_of (map (bound_of rs) binders) n)) (cond t (just b.ref) (first binders n))
    step true h = both refl refl
    step false h = h

-- what types the parameters, by place and by size
pub record Typed (ns : List Name) (rs : List Record) (bs : List Bound) (ts : List Ref) : Type 0 where
  pub types : map boundType bs ≡ map type_at ts
  pub sizes : Near (names_room ns + types_size bs) (length (w_all w_param (params_of rs ns ts) []))

-- code 8 in both, or in neither
pub data Each (ns : List Name) (t : Trace) : Maybe (List Bound) → Res Trace (List Ref) → Type 0 where
  missing : Each ns t absent (bad no_binder t)
  there : {bs : List Bound} {ts : List Ref} → Typed ns t.records bs ts → Each ns t (just bs) (ok ts t)

param_room : (rs : List Record) (n : Name) (ns : List Name) (t : Ref) (ts : List Ref)
    → length (w_all w_param (params_of rs (n ∷ ns) (t ∷ ts)) []) ≡ 1 + length n + size_i (type_of rs t) + length (w_all w_param (params_of rs ns ts) [])
unfolding w_all w_param params_of w_name size_i
param_room rs n ns t ts = let e = adds (w_inner (type_of rs t)) (s_inner (type_of rs t)) (w_all w_param (params_of rs ns ts) []) in simp length-append (omega arith)

typed_cons : (n : Name) (ns : List Name) (rs : List Record) (b : Bound) (bs : List Bound) (r : Ref) (ts : List Ref) → b.type ≡ type_at r → b.size ≡ cut (size_i (type_of rs r)) → Typed ns rs bs ts → Typed (n ∷ ns) rs (b ∷ bs) (r ∷ ts)
unfolding names_room types_size
typed_cons n ns rs b bs r ts e f q =
    let here : Near (1 + length n + b.size) (1 + length n + size_i (type_of rs r)) = rw f (near_sum (exact refl) (near_cut (size_i (type_of rs r)))) in
    let a : 1 + length n + names_room ns + (b.size + types_size bs) ≡ 1 + length n + b.size + (names_room ns + types_size bs) = omega arith in
    record { types = rw (e, q.types); sizes = rw (a, param_room rs n ns r ts) (near_sum here q.sizes) }

pub each_both : (env : List Bound) (binders : List Binder) (ns : List Name) (t : Trace) → Means env binders t.records → Each ns t (binders_of env ns) (refs binders ns t)
unfolding binders_of refs joined ref_of names_room types_size w_all params_of
each_both env binders [] t m = there (record { types = refl; sizes = exact refl })
each_both env binders (n ∷ ns) t m =
    let f : First t.records (first_of env n) (first binders n) = rw (m.meant t.records (later_self t.records)) (first_both t.records binders n) in
    step f (each_both env binders ns t m)
  where
    rest : (b : Bound) (r : Ref) → b.type ≡ type_at r → b.size ≡ cut (size_i (type_of t.records r)) → {l : Maybe (List Bound)} {x : Res Trace (List Ref)} → Each ns t l x
        → Each (n ∷ ns) t (joined (just b) l) (x >>= λ (rs, t). ok (r ∷ rs) t)
    rest b r e f missing = missing
    rest b r e f (there q) = there (typed_cons n ns t.records _ _ _ _ e f q)

    step : {k : Maybe Bound} {m : Maybe Ref} → First t.records k m → Each ns t (binders_of env ns) (refs binders ns t)
        → Each (n ∷ ns) t (joined k (binders_of env ns)) (ref_of m t >>= λ (r, t). refs binders ns t >>= λ (rs, t). ok (r ∷ rs) t)
    step neither h = missing
    step (both {b} {r} e f) h = rest b r e f h

-- code 10's sums
pub call-size : (r : Record) → call_size r.name r.params ≡ size (call r)
unfolding call_size call_room
call-size r = omega (arith, size-call r)

pub head_near : (rs : List Record) (r : Record) (bs : List Bound) → Typed r.params rs bs r.types → Near (head_size r.name r.params bs) (tree_head rs r)
unfolding head_size tree_head head w_name w_list w_u16
head_near rs r bs q =
    let a : length r.name + 3 + names_room r.params + types_size bs ≡ length r.name + 3 + (names_room r.params + types_size bs) = omega arith in
    let b : tree_head rs r ≡ length r.name + 3 + length (w_all w_param (params_of rs r.params r.types) []) = simp length-append (omega arith) in
    rw (a, b) (near_sum (exact refl) q.sizes)
