-- One definition: a format's name, its own parameters and its body.
-- Assumes nothing.
use mathlib.Core.Path.{◌≡◌, refl, sym, ◌∙◌}
use mathlib.Core.List.{List, [], ◌∷◌}
use Prim.Native.Nat.{ℕ, ◌+◌, ◌≤◌}
use native.Mathlib.Omega.{arith}
use lib.ListN.{length, take}
use lib.Seq.{take-nil}
use Rattle.definition.specs.Res.{Res, bad, ok, ◌>>=◌}
use Rattle.definition.specs.Tree.{Name, Combinator, Param, Definition, format, constant, byte_order, macro}
use Rattle.definition.specs.Write.{w_name, w_list, w_param, w_combinator, w_definition, kind_of, kind_byte, w_all}
use Rattle.definition.specs.Size.{levels, levels_p, levels_book}
use Rattle.laws.proofs.Splits.{s_name, s_list, s_param}
use Rattle.laws.proofs.Sizes.{adds, head}
use Rattle.layout.specs.items.At.{name_past_of, number_at}
use Rattle.layout.specs.items.Here.{Here}
use Rattle.layout.proofs.items.Here.{here_length, number_here, name_here}
use Rattle.layout.specs.lookup.Name.{name_at}
use Rattle.layout.proofs.lookup.Names.{stands}
use Rattle.buffer.specs.writes.Buf.{Wrote}
use Rattle.buffer.proofs.writes.Wrote.{place_is}
use Rattle.generated_name.specs.child_name.Name.{Held}
use Rattle.generated_name.proofs.child_name.Held.{grown}
use Rattle.lift_tables.specs.declared.enter_lift.Counts.{Counts}
use Rattle.lift_tables.specs.enter_lift.Bound.{bound_from}
use Rattle.lift_tables.specs.enter_lift.Sheet.{Sheet, sheet_of}
use Rattle.lifting.specs.Trace.{params_at}
use Rattle.lift_combinator.specs.naming.Walk.{Extent, walk}
use Rattle.lift_combinator.specs.naming.Lifts.{Scratch}
use Rattle.expand_definitions.specs.walked.Book.{own_bound, walk_all}
use Rattle.expand_combinator.specs.declared.body.Named.{Named}
use Rattle.std.specs.Prelude.{Result, Ok, Err}
use Rattle.what_comes_back.specs.declared.Code.{Code}
use Rattle.expand_combinator.specs.open_child.Good.{Good}
use Rattle.expand_combinator.specs.body.Walks.{Ready, Ends, Walks}
use Rattle.expand_definitions.specs.own_params.Own.{Params, Binds, Own}
use Rattle.expand_definitions.specs.format.Formats.{Format, EndsIn, Defined}

-- what is said of a format
pub record Formatted (s : List ℕ) (at : ℕ) (made places rows params order : List ℕ) (w : Counts) (n : ℕ) (made' places' ways' hints' rows' params' number' order' : List ℕ) (r : Result Named Code) : Type 0 where
  pub says : (m : Name) (ps : List Param) (c : Combinator) (z : List ℕ) → Here s at (w_definition (format m ps c) z) → levels_p ps ≤ 64 → levels c ≤ 64
      → EndsIn (walk c (at + head m ps) m (own_bound ps (params_at at m)) (sheet_of s made places rows params (take n order) w)) s made' places' ways' hints' rows' params' number' order' r

-- a name that was put into an empty path
pub held : {d : List ℕ} {name : Name} {d' : List ℕ} {r : ℕ} → Wrote d 0 name d' r → Held d' r name
held {d} w = grown {name = []} (record { place = omega arith; bytes = sym (take-nil (length d)) }) w

pub len_most : {d name d' : List ℕ} {r : ℕ} → Wrote d 0 name d' r → length d ≡ 255 → r ≤ 256
len_most w l = omega (arith, place_is w)

module _ {s : List ℕ} {at : ℕ} (short : length s ≤ 16384) {list : ℕ} (el : list ≡ name_past_of s at) where
  module _ (m : Name) (ps : List Param) (c : Combinator) (z : List ℕ) (h : Here s at (w_definition (format m ps c) z)) where
    list_here : Here s list (w_list w_param ps (w_combinator c z))
    unfolding w_definition
    list_here = rw el (name_here m h)

    list_at : list ≡ at + length (w_name m [])
    unfolding w_definition
    list_at = omega (arith, here_length h, here_length list_here, adds (w_name m) (s_name m) (w_list w_param ps (w_combinator c z)))

    body_at : {body : ℕ} → Here s body (w_combinator c z) → body ≡ at + head m ps
    unfolding head
    body_at k = omega (arith, list_at, here_length list_here, here_length k, adds (w_list w_param ps) (s_list w_param s_param ps) (w_combinator c z))

    named : name_at s at ≡ m
    unfolding w_definition
    named = stands s at m (w_list w_param ps (w_combinator c z)) h.is

  pub has_params : Format s at → Params s list
  has_params f = record { of = f.params; after = _; is = list_here f.name f.params f.body f.after f.is; deep = f.deep_params }

  module _ {binders : List ℕ} {body : ℕ} (o : Own s list binders body) {b : ℕ} (eb : b ≡ number_at s list) where
    module _ (m : Name) (ps : List Param) (c : Combinator) (z : List ℕ) (h : Here s at (w_definition (format m ps c) z)) (dp : levels_p ps ≤ 64) (dc : levels c ≤ 64) where
      binds : Binds s (list + 2) ps (w_combinator c z) binders (length ps) body
      binds = o.says ps (w_combinator c z) (list_here m ps c z h) dp

      count : b ≡ length ps
      unfolding w_list
      count = eb ∙ number_here (length ps) (w_all w_param ps (w_combinator c z)) (list_here m ps c z h)

    pub ready : Format s at → {path bound uses spare : List ℕ} → length path ≡ 255 → length s ≤ length binders → Scratch s bound uses spare → Ready s body path binders b bound uses spare
    ready f lp lb sc =
        let e = count f.name f.params f.body f.after f.is f.deep_params f.deep in
        let g = binds f.name f.params f.body f.after f.is f.deep_params f.deep in
        record {
          stands = record { what = f.body; stands = record { after = f.after; is = g.rest }; deep = f.deep };
          scratch = sc;
          path_long = lp;
          binders_long = lb;
          few = rw e g.few;
          sized = rw e g.sized;
        }

    pub formatted : {path₀ path : List ℕ} {len : ℕ} → Wrote path₀ 0 (name_at s at) path len → {made places rows params order : List ℕ} {w : Counts} {n : ℕ} {made' places' ways' hints' rows' params' number' order' : List ℕ} {r : Result Named Code}
        → Walks s body path len binders b made places rows params order w n made' places' ways' hints' rows' params' number' order' r
        → Formatted s at made places rows params order w n made' places' ways' hints' rows' params' number' order' r
    formatted put walks = record {
      says = λ m ps c z h dp dc.
          let g = binds m ps c z h dp dc in
          let e : bound_from s binders 0 b ≡ own_bound ps (params_at at m) = rw (count m ps c z h dp dc, ← (list_at m ps c z h)) g.bound in
          rw (← e, ← (body_at m ps c z h g.rest)) (walks.walks c m (record { after = z; is = g.rest }) dc (held (rw (named m ps c z h) at put)));
    }

-- ---- a definition by its kind
ends_after : (m : Res Sheet Extent) (r : Result Named Code) (sheet : Counts → ℕ → Sheet) (good : Counts → ℕ → Type 0) → Ends m r sheet good → Ends (m >>= (λ x. ok (tt {0}) x.1)) r sheet good
unfolding Ends
ends_after (bad k t) (Err c) sheet good h = h
ends_after (ok z t) (Ok a) sheet good h = h
ends_after (bad k t) (Ok a) sheet good h = h
ends_after (ok z t) (Err c) sheet good h = h

module _ {s : List ℕ} {kind at : ℕ} {made places rows params order : List ℕ} {w : Counts} {n : ℕ} where
  pub defined_format : kind ≡ 1 → {made' places' ways' hints' rows' params' number' order' : List ℕ} {r : Result Named Code} → Formatted s at made places rows params order w n made' places' ways' hints' rows' params' number' order' r
      → Defined s kind at made places rows params order w n made' places' ways' hints' rows' params' number' order' r
  unfolding walk_all kind_byte kind_of levels_book
  defined_format k {made'} {places'} {ways'} {hints'} {rows'} {params'} {number'} {order'} {r} f = record { says = λ d z h e l. of d z h e l }
    where
      of : (d : Definition) (z : List ℕ) → Here s at (w_definition d z) → kind ≡ kind_byte (kind_of d) → levels_book (d ∷ []) ≤ 64
          → EndsIn (walk_all (d ∷ []) at (sheet_of s made places rows params (take n order) w)) s made' places' ways' hints' rows' params' number' order' r
      of (format m ps c) z h e l = ends_after _ r _ _ (f.says m ps c z h (omega arith) (omega arith))
      of (constant m x) z h e l = absurd (omega arith)
      of (byte_order x) z h e l = absurd (omega arith)
      of (macro m ps c) z h e l = absurd (omega arith)

pub defined_none : {s : List ℕ} {kind at : ℕ} {made places rows params order : List ℕ} {v : Named} → (kind ≡ 1 → ⊥) → {ways hints number : List ℕ} → Good s made places ways hints rows params number order v.counts v.finished
    → Defined s kind at made places rows params order v.counts v.finished made places ways hints rows params number order (Ok v)
unfolding walk_all kind_byte kind_of Ends
defined_none {s} {kind} {at} {made} {places} {rows} {params} {order} {v} k {ways} {hints} {number} g = record { says = λ d z h e l. of d e }
  where
    of : (d : Definition) → kind ≡ kind_byte (kind_of d) → EndsIn (walk_all (d ∷ []) at (sheet_of s made places rows params (take v.finished order) v.counts)) s made places ways hints rows params number order (Ok v)
    of (format m ps c) e = absurd (k e)
    of (constant m x) e = (refl, g)
    of (byte_order x) e = (refl, g)
    of (macro m ps c) e = (refl, g)
