-- A child is done: the frame that waited stands for what its node then is.
-- Assumes nothing.
use mathlib.Core.Path.{◌≡◌, refl, ◌∙◌}
use mathlib.Core.Bool.{Bool, false}
use mathlib.Core.List.{List, [], ◌∷◌, ◌++◌}
use Prim.Native.Nat.{ℕ, ◌+◌, ◌-◌, ◌≤◌, min}
use native.Mathlib.Omega.{arith}
use lib.Dec.{eqb}
use lib.ListN.{length}
use Rattle.definition.specs.Tree.{Name, Shell, CaseKind, enums, ints, arrays, FieldKind, ordinary, dependent, Combinator, plain, chained, Inner, leaf, struct, choice, shell, bytes, invocation, macro_invocation, Fields, field, Cases, case}
use Rattle.definition.specs.Write.{w_name, w_label, w_open, count_f, count_c, field_byte, w_combinator, w_fields, w_cases}
use Rattle.definition.specs.Size.{size, levels}
use Rattle.laws.proofs.Sizes.{adds, size_i, size-plain, size-chained, size-field, size-case, size-shell}
use Rattle.laws.proofs.Splits.{s_comb, s_label, s_name, Splits}
use Rattle.lifting.proofs.Ranges.{size_some}
use Rattle.layout.specs.lookup.Name.{name_at}
use Rattle.layout.proofs.lookup.Names.{stands}
use Rattle.layout.specs.items.At.{byte_at, past_at, pick}
use Rattle.layout.specs.items.Here.{Here}
use Rattle.layout.proofs.items.Here.{here_length, past_here, byte_here, next_here}
use Rattle.lift_combinator.specs.declared.frames.Frame.{Frame}
use Rattle.lift_combinator.specs.done.Done.{are_fields, kind_after, binding, bind_by, bound_after, delivered}
use Rattle.lift_tables.specs.enter_lift.Bound.{Bound}
use Rattle.lifting.specs.After.{field_at, case_at, shell_at}
use Rattle.lift_combinator.specs.naming.Walk.{Extent, binds}
use Rattle.lift_combinator.specs.naming.Nodes.{Rest, fields, cases, one, Own, Link, ahead, behind, Node, linked, for_chain, for_field, for_case, for_one, advanced, deliver}
use Rattle.lift_combinator.specs.naming.Frames.{kind_of, RestIs, size_rest, levels_rest, levels_link, LinkIs, FrameIs}
use Rattle.lift_combinator.proofs.naming.Bound.{bound_more}

-- behind what was written
pub behind_here : {s : List ℕ} {p : ℕ} (w : List ℕ → List ℕ) → Splits w → (z : List ℕ) → Here s p (w z) → Here s (p + length (w [])) z
unfolding past_at
behind_here {s} {p} w h z k =
    let l : Here s p (w [] ++ z) = rw (h [] z) at k in
    let e : past_at s p (length (w [])) ≡ p + length (w []) = omega (arith, here_length k, adds w h z) in
    rw e at (past_here (w []) l)

pub past_one : {s : List ℕ} {p x : ℕ} {z : List ℕ} → Here s p (x ∷ z) → past_at s p 1 ≡ p + 1
unfolding past_at
past_one h = omega (arith, here_length h)

some_inner : (i : Inner) → 1 ≤ size_i i
unfolding size_i w_combinator
some_inner (leaf k x) = omega arith
some_inner (struct f) = omega arith
some_inner (choice x k f) = omega arith
some_inner (shell x c) = omega (arith, size-shell x c, size_some c)
some_inner (bytes x) = omega arith
some_inner (invocation n a) = omega arith
some_inner (macro_invocation n a) = omega arith

some_size : (c : Combinator) → 2 ≤ length (w_combinator c [])
unfolding size
some_size (plain i) = omega (arith, size-plain i, some_inner i)
some_size (chained i c) = omega (arith, size-chained i c, some_inner i)

name_some : (a : Name) → 1 ≤ length (w_name a [])
unfolding w_name
name_some a = omega arith

no_bind : (j : CaseKind) (b : Bool) → pick (are_fields (kind_of j)) b false ≡ false
unfolding kind_of are_fields
no_bind enums b = refl
no_bind ints b = refl
no_bind arrays b = refl

cases_stay : (j : CaseKind) → kind_after (kind_of j) ≡ kind_of j
unfolding kind_of kind_after
cases_stay enums = refl
cases_stay ints = refl
cases_stay arrays = refl

module _ (at done : ℕ) (name : Name) (env : List Bound) (own : Own) where
  abbrev pub node : Link → Rest → Node
  node l r = record { link = l; rest = r; at = at; done = done; name = name; env = env; own = own }

  module _ {s path binders : List ℕ} {k : ℕ} {f : Frame ℕ} (z : Extent) where
    pub back_chain : (c : Combinator) (p : ℕ) (r : Rest) (q : ℕ) → FrameIs s path binders k f (node (ahead c p) r)
        → FrameIs s path (bind_by s f q z.inner binders) k (delivered f q (q + size c) z.whole (bound_after s f)) (deliver (for_chain (node (ahead c p) r)) z)
    unfolding LinkIs bind_by bound_after binding delivered deliver linked levels_link
    back_chain c p r q g = rw g.link.0 (record {
      after = g.after;
      rest = g.rest;
      ends = g.ends;
      here = g.here;
      done = g.done;
      link = (refl, refl);
      name = g.name;
      env = g.env;
      own = g.own;
      few = g.few;
      deep = g.deep;
      deep_link = omega arith;
    })

    module _ (small : length s ≤ 16384) (room : length s ≤ length binders) (few : z.inner ≤ 65535) (l : ℕ) where
      pub back_case : (x : List ℕ) (c : Combinator) (h : Cases) (j : CaseKind) (i : ℕ) → FrameIs s path binders k f (node (behind l) (cases (case x c h) j i))
          → FrameIs s path (bind_by s f (case_at at j x) z.inner binders) k (delivered f (case_at at j x) (case_at at j x + size c) z.whole (bound_after s f)) (deliver (for_case x c h j i (node (behind l) (cases (case x c h) j i))) z)
      unfolding LinkIs RestIs size_rest levels_rest levels bind_by bound_after binding delivered deliver advanced w_combinator count_c size
      back_case x c h j i g =
          let y = g.after in
          let r = g.rest.0 in
          let u = behind_here (w_label j x) (s_label j x) (w_combinator c (w_cases h j y)) r in
          let v = behind_here (w_combinator c) (s_comb c) (w_cases h j y) u in
          let e : case_at at j x - f.here ≡ length (w_label j x []) = omega (arith, g.here) in
          let q = size-case x c h j in
          let m : f.here + length (w_label j x []) + length (w_combinator c []) ≡ at + length (w_label j x []) + length (w_combinator c []) = omega (arith, g.here) in
          rw (g.link.0, g.rest.1, no_bind j (eqb (byte_at s f.here) 2), e) (record {
            after = y;
            rest = (rw m at v, cases_stay j, omega (arith, g.rest.2), omega (arith, g.rest.3));
            ends = omega (arith, g.ends, g.here);
            here = refl;
            done = rw g.done;
            link = (refl, g.link.1);
            name = g.name;
            env = g.env;
            own = g.own;
            few = omega (arith, g.few, g.here);
            deep = omega (arith, g.deep);
            deep_link = g.deep_link;
          })

      pub back_one : (x : Shell) (c : Combinator) → FrameIs s path binders k f (node (behind l) (one x c))
          → FrameIs s path (bind_by s f (shell_at at x) z.inner binders) k (delivered f (shell_at at x) (shell_at at x + size c) z.whole (bound_after s f)) (deliver (for_one x c (node (behind l) (one x c))) z)
      unfolding LinkIs RestIs size_rest levels_rest are_fields kind_after bind_by bound_after binding delivered deliver advanced size
      back_one x c g =
          let e : shell_at at x - f.here ≡ length (w_open x []) = omega (arith, g.here) in
          rw (g.link.0, g.rest.1, e) (record {
            after = g.after;
            rest = refl;
            ends = omega (arith, g.ends, g.here, size-shell x c);
            here = refl;
            done = rw g.done;
            link = (refl, g.link.1);
            name = g.name;
            env = g.env;
            own = g.own;
            few = omega (arith, g.few, g.here);
            deep = omega arith;
            deep_link = g.deep_link;
          })

      pub back_field : (j : FieldKind) (a : Name) (c : Combinator) (h : Fields) → FrameIs s path binders k f (node (behind l) (fields (field j a c h)))
          → FrameIs s path (bind_by s f (field_at at a) z.inner binders) k (delivered f (field_at at a) (field_at at a + size c) z.whole (bound_after s f)) (deliver (for_field j a c h (node (behind l) (fields (field j a c h)))) z)
      unfolding LinkIs RestIs size_rest levels_rest levels are_fields kind_after bind_by bound_after binding delivered deliver advanced w_combinator count_f size binds field_byte
      back_field ordinary a c h g =
          let y = g.after in
          let r = g.rest.0 in
          let u = behind_here (w_name a) (s_name a) (w_combinator c (w_fields h y)) (next_here r) in
          let v = behind_here (w_combinator c) (s_comb c) (w_fields h y) u in
          let p = past_one r in
          let e : field_at at a - f.here ≡ 1 + length (w_name a []) = omega (arith, g.here) in
          let q = size-field ordinary a c h in
          let m : past_at s f.here 1 + length (w_name a []) + length (w_combinator c []) ≡ field_at at a + length (w_combinator c []) = omega (arith, g.here) in
          rw (g.link.0, g.rest.1, byte_here r, e) (record {
            after = y;
            rest = (rw m at v, refl, omega (arith, g.rest.2));
            ends = omega (arith, g.ends, g.here);
            here = refl;
            done = rw g.done;
            link = (refl, g.link.1);
            name = g.name;
            env = g.env;
            own = g.own;
            few = omega (arith, g.few, g.here);
            deep = omega (arith, g.deep);
            deep_link = g.deep_link;
          })
      back_field dependent a c h g =
          let y = g.after in
          let r = g.rest.0 in
          let u = behind_here (w_name a) (s_name a) (w_combinator c (w_fields h y)) (next_here r) in
          let v = behind_here (w_combinator c) (s_comb c) (w_fields h y) u in
          let p = past_one r in
          let e : field_at at a - f.here ≡ 1 + length (w_name a []) = omega (arith, g.here) in
          let q = size-field dependent a c h in
          let m : past_at s f.here 1 + length (w_name a []) + length (w_combinator c []) ≡ field_at at a + length (w_combinator c []) = omega (arith, g.here) in
          let t = u.reach in
          let x : min (past_at s f.here 1) 65535 ≡ past_at s f.here 1 = omega arith in
          let w : min (field_at at a) 65535 ≡ field_at at a = omega (arith, g.here) in
          let i : min z.inner 65535 ≡ z.inner = omega arith in
          let n : name_at s (past_at s f.here 1) ≡ a = stands s (past_at s f.here 1) a (w_combinator c (w_fields h y)) (next_here r).is in
          rw (g.link.0, g.rest.1, byte_here r, e, x, w, i) (record {
            after = y;
            rest = (rw m at v, refl, omega (arith, g.rest.2));
            ends = omega (arith, g.ends, g.here);
            here = refl;
            done = rw g.done;
            link = (refl, g.link.1);
            name = g.name;
            env = bound_more s binders f.bound (past_at s f.here 1) (field_at at a) 0 z.inner (omega (arith, g.few, g.here, some_size c, name_some a, v.reach)) ∙ (rw (n, g.env));
            own = g.own;
            few = omega (arith, g.few, g.here, some_size c, name_some a);
            deep = omega (arith, g.deep);
            deep_link = g.deep_link;
          })
