-- A definition's own parameters, one after the other.
-- Assumes nothing.
use mathlib.Core.Path.{◌≡◌, refl, sym, ◌∙◌}
use mathlib.Core.Logic.{⊎_elim}
use mathlib.Core.Bool.{true}
use mathlib.Core.List.{List, [], ◌∷◌, ◌++◌, append-nil}
use Prim.Native.Nat.{ℕ, suc, ◌+◌, ◌-◌, ◌*◌, ◌≤◌, ◌<◌, min}
use native.Mathlib.Omega.{arith}
use lib.ListN.{length}
use lib.Seq.{append_snoc}
use Rattle.definition.specs.Tree.{Param}
use Rattle.definition.specs.Write.{w_u16, w_name, w_all, w_list, w_inner, w_param}
use Rattle.definition.specs.Size.{levels_i, levels_p}
use Rattle.laws.proofs.Splits.{s_name}
use Rattle.laws.proofs.Sizes.{adds, size_i}
use Rattle.layout.specs.items.At.{past_at, number_at, name_past_of}
use Rattle.layout.specs.items.Here.{Here}
use Rattle.layout.proofs.items.Here.{here_length, number_here, number_past, name_here}
use Rattle.layout.specs.lookup.Name.{name_at}
use Rattle.buffer.proofs.writes.Put.{within}
use Rattle.layout.proofs.lookup.Names.{stands}
use Rattle.lift_tables.specs.tables.Rows.{with_param}
use Rattle.lift_tables.proofs.tables.Params.{param_before, param_own}
use Rattle.lift_tables.specs.enter_lift.Bound.{bound_from, Sized}
use Rattle.walker.specs.ends.Ends.{inner_end_of}
use Rattle.walker.proofs.ends.Ends.{inner_rest, inner_end_lem}
use Rattle.lift_combinator.proofs.naming.Bound.{bound_more}
use Rattle.expand_definitions.specs.walked.Book.{own_bound}
use Rattle.expand_combinator.proofs.open_child.Children.{inner_least}
use Rattle.expand_definitions.specs.own_params.Own.{Binds, Own}

-- ---- one parameter
module _ {s : List ℕ} (short : length s ≤ 16384) {here : ℕ} (x : Param) (z : List ℕ) (h : Here s here (w_param x z)) (d : levels_i x.type ≤ 64) where
  there : Here s (name_past_of s here) (w_inner x.type z)
  unfolding w_param
  there = name_here x.name h

  pub param_rest : Here s (inner_end_of s (name_past_of s here)) z
  param_rest = inner_rest (omega arith) x.type z there

  pub type_size : inner_end_of s (name_past_of s here) ≡ name_past_of s here + size_i x.type
  type_size = inner_end_lem (omega arith) x.type z there

  type_place : name_past_of s here ≡ here + length (w_name x.name [])
  unfolding w_param
  type_place = omega (arith, here_length h, here_length there, adds (w_name x.name) (s_name x.name) (w_inner x.type z))

  param_place : inner_end_of s (name_past_of s here) ≡ here + length (w_param x [])
  unfolding w_param size_i
  param_place = omega (arith, type_size, type_place, adds (w_name x.name) (s_name x.name) (w_inner x.type []))

  is_named : name_at s here ≡ x.name
  unfolding w_param
  is_named = stands s here x.name (w_inner x.type z) h.is

  pub four : here + 4 ≤ inner_end_of s (name_past_of s here)
  unfolding w_name
  four = omega (arith, type_size, type_place, inner_least x.type)

  -- it becomes the binder that stands for it
  pub binder_is : (more : List Param)
      → record { name = name_at s (min here 65535); type = record { own = true; at = min (name_past_of s here) 65535 }; size = min (inner_end_of s (name_past_of s here) - name_past_of s here) 65535 }
      ∷ own_bound more (inner_end_of s (name_past_of s here)) ≡ own_bound (x ∷ more) here
  unfolding own_bound
  binder_is more =
      let a : min here 65535 ≡ here = omega (arith, h.reach) in
      let b : min (name_past_of s here) 65535 ≡ here + length (w_name x.name []) = omega (arith, there.reach, type_place) in
      let e : inner_end_of s (name_past_of s here) - name_past_of s here ≡ size_i x.type = omega (arith, type_size) in
      rw (a, is_named, b, e, param_place)

-- ---- the loop
pub record Binding (s : List ℕ) (first : ℕ) (ps : List Param) (after binders : List ℕ) (b here : ℕ) : Type 0 where
  pub rest : List Param
  pub left : b + length rest ≡ length ps
  pub is : Here s here (w_all w_param rest after)
  pub deep : levels_p rest ≤ 64
  pub bound : bound_from s binders 0 b ++ own_bound rest here ≡ own_bound ps first
  pub few : 4 * b ≤ here
  pub sized : Sized binders b

pub none_yet : (s : List ℕ) (first : ℕ) (ps : List Param) (after binders : List ℕ) → Here s first (w_all w_param ps after) → levels_p ps ≤ 64 → Binding s first ps after binders 0 first
unfolding bound_from
none_yet s first ps after binders h d = record { rest = ps; left = omega arith; is = h; deep = d; bound = refl; few = omega arith; sized = λ j k. absurd (omega arith) }

module _ {s : List ℕ} {first : ℕ} {ps : List Param} {after binders : List ℕ} {b here : ℕ} (short : length s ≤ 16384) (g : Binding s first ps after binders b here) where
  pub binding_all : length ps ≤ b → Binds s first ps after binders (length ps) here
  unfolding w_all own_bound
  binding_all h = all g.rest g.left g.is g.bound
    where
      all : (rest : List Param) → b + length rest ≡ length ps → Here s here (w_all w_param rest after) → bound_from s binders 0 b ++ own_bound rest here ≡ own_bound ps first → Binds s first ps after binders (length ps) here
      all [] l i e =
          let z : length ps ≡ b = omega arith in
          rw z (record { rest = i; bound = sym (append-nil (bound_from s binders 0 b)) ∙ e; few = g.few; sized = g.sized })
      all (x ∷ rest) l i e = absurd (omega arith)

  module _ (more : b < length ps) where
    pub type_first : name_past_of s here ≤ inner_end_of s (name_past_of s here)
    unfolding w_all levels_p
    type_first = of g.rest g.left g.is g.deep
      where
        of : (rest : List Param) → b + length rest ≡ length ps → Here s here (w_all w_param rest after) → levels_p rest ≤ 64 → name_past_of s here ≤ inner_end_of s (name_past_of s here)
        of [] l i d = absurd (omega arith)
        of (x ∷ rest) l i d = omega (arith, type_size short x (w_all w_param rest after) i (omega arith))

    pub binding_step : length s ≤ length binders → {type end : ℕ} → type ≡ name_past_of s here → end ≡ inner_end_of s type → {binders' : List ℕ}
        → binders' ≡ with_param binders b (min here 65535) (min type 65535) 1 (min (end - type) 65535) → Binding s first ps after binders' (b + 1) end
    unfolding w_all levels_p
    binding_step long {type} {end} et ee {binders'} eb = of g.rest g.left g.is g.deep g.bound
      where
        of : (rest : List Param) → b + length rest ≡ length ps → Here s here (w_all w_param rest after) → levels_p rest ≤ 64 → bound_from s binders 0 b ++ own_bound rest here ≡ own_bound ps first
            → Binding s first ps after binders' (b + 1) end
        of [] l i d e = absurd (omega arith)
        of (x ∷ rest) l i d e =
            let z = w_all w_param rest after in
            let h : levels_i x.type ≤ 64 = omega arith in
            let r = param_rest short x z i h in
            let q : 4 * (b + 1) ≤ length binders = omega (arith, four short x z i h, r.reach, g.few) in
            let t = min (name_past_of s here) 65535 in
            let k = min (inner_end_of s (name_past_of s here) - name_past_of s here) 65535 in
            rw (eb, ee, et) (record {
              rest = rest;
              left = omega arith;
              is = r;
              deep = omega arith;
              bound = rw (bound_more s binders b (min here 65535) t 1 k q) (append_snoc (bound_from s binders 0 b) _ (own_bound rest (inner_end_of s (name_past_of s here))) ∙ rw (binder_is short x z i h rest) e);
              few = omega (arith, four short x z i h, g.few);
              sized = λ j m. ⊎_elim
                  (λ (v : suc j ≤ b). rw (param_before binders b (min here 65535) t 1 k (4 * j + 3) (omega arith)) (g.sized j v))
                  (λ (v : b < suc j). let e : j ≡ b = omega arith in rw (e, param_own binders b (min here 65535) t 1 k q) (omega (arith, type_size short x z i h, inner_least x.type)))
                  (within (suc j) b);
            })

-- ---- all of them
pub params_shown : {s : List ℕ} {at here count : ℕ} → here ≡ past_at s at 2 → count ≡ number_at s at → (ps : List Param) (after : List ℕ) → Here s at (w_list w_param ps after) → (count ≡ length ps) × Here s here (w_all w_param ps after) × (here ≡ at + 2)
unfolding w_list w_u16
params_shown {s} {at} {here} {count} eh ec ps after h =
    let k = number_past (length ps) h in
    (ec ∙ number_here (length ps) (w_all w_param ps after) h, rw eh k, eh ∙ omega (arith, here_length h, here_length k))

pub own_all : {s : List ℕ} {at here count : ℕ} → here ≡ past_at s at 2 → count ≡ number_at s at → {binders : List ℕ} {r : ℕ}
    → ((ps : List Param) (after : List ℕ) → Here s here (w_all w_param ps after) → levels_p ps ≤ 64 → count ≡ length ps → Binds s here ps after binders (length ps) r) → Own s at binders r
own_all {s} {at} {here} {count} eh ec {binders} {r} f = record {
  says = λ ps after h d. let k = params_shown eh ec ps after h in rw k.2 at (f ps after k.1 d k.0);
}
