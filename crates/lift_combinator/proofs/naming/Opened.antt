-- The frame of a node that is opened, and what a frame does next.
-- Assumes nothing.
use mathlib.Core.Path.{◌≡◌, refl, ◌∙◌}
use mathlib.Core.Bool.{Bool, true, false}
use mathlib.Core.List.{List, [], ◌∷◌}
use Prim.Native.Nat.{ℕ, ◌+◌, ◌-◌, ◌*◌, ◌≤◌, ◌<◌}
use native.Mathlib.Omega.{arith}
use lib.Dec.{eqb}
use lib.ListN.{length}
use borrow.Author.Tests.{ne_eqb}
use Rattle.definition.specs.Tree.{Name, Shell, wrap, vec, option, array, CaseKind, enums, ints, arrays, FieldKind, ordinary, dependent, Combinator, plain, chained, Inner, leaf, struct, choice, shell, bytes, invocation, macro_invocation, Fields, no_field, field, const, Cases, no_case, case}
use Rattle.definition.specs.Names.{case_segment, shell_segment}
use Rattle.definition.specs.Write.{w_name, w_text, w_label, w_len, w_open, w_shut, count_f, count_c, field_byte, w_combinator, w_fields, w_cases}
use Rattle.definition.specs.Size.{levels, levels_i}
use Rattle.laws.proofs.Sizes.{adds, size_i, size_f, size_c, size_struct, size_choice, size_constant}
use Rattle.laws.proofs.Splits.{s_name, s_text, s_len}
use Rattle.layout.specs.lookup.Name.{name_at}
use Rattle.layout.proofs.lookup.Names.{stands}
use Rattle.layout.specs.items.At.{past_at, name_past_of, text_past_of, length_past_of, pick}
use Rattle.layout.specs.items.Here.{Here}
use Rattle.layout.proofs.items.Here.{here_length, byte_here, next_here, name_here, text_here, len_here}
use Rattle.generated_name.specs.child_name.Name.{Held}
use Rattle.lift_tables.specs.tables.Numbers.{plus}
use Rattle.lift_combinator.specs.declared.frames.Frame.{Frame}
use Rattle.lift_combinator.specs.frames.Frames.{frame_at}
use Rattle.lift_combinator.specs.declared.children.Next.TheVariants.{Done, Chain}
use Rattle.lift_combinator.specs.declared.frames.Kind.TheVariants as kind
use Rattle.lift_combinator.specs.children.Next.{next_field_of, next_one_of, next_by, next_of}
use Rattle.lift_combinator.specs.done.Done.{passed}
use Rattle.lift_tables.specs.enter_lift.Bound.{Bound, bound_from}
use Rattle.lifting.specs.After.{chain_at, field_at, const_end, case_at}
use Rattle.lift_combinator.specs.naming.Nodes.{Rest, fields, cases, one, tail, Own, Link, ahead, behind, Node, rest_of, skip, node_of, advanced}
use Rattle.walker.specs.ends.Ends.{inner_end_of}
use Rattle.walker.proofs.ends.Ends.{inner_rest, inner_end_lem}
use Rattle.lift_combinator.specs.naming.Frames.{kind_of, RestIs, size_rest, levels_rest, levels_link, LinkIs, OwnIs, FrameIs, NextIs}
use Rattle.lift_combinator.proofs.naming.Begins.{begins}
use Rattle.lift_combinator.proofs.naming.Back.{past_one, node, back_chain, back_field, back_case, back_one}
use Rattle.lift_combinator.proofs.naming.Machine.{opens_chain, opens_field, opens_case, opens_one, passes_const, ends_fields, ends_cases, ends_tail}

pub size_rest_lem : (i : Inner) → skip i + size_rest (rest_of i) ≡ size_i i
unfolding skip size_rest rest_of
size_rest_lem (leaf k x) = omega arith
size_rest_lem (struct f) = omega (arith, size_struct f)
size_rest_lem (choice s k f) = omega (arith, size_choice s k f)
size_rest_lem (shell x c) = omega arith
size_rest_lem (bytes l) = omega arith
size_rest_lem (invocation n a) = omega arith
size_rest_lem (macro_invocation n a) = omega arith

levels_rest_lem : (i : Inner) → levels_rest (rest_of i) ≤ levels_i i
unfolding levels_rest rest_of levels
levels_rest_lem (leaf k x) = omega arith
levels_rest_lem (struct f) = omega arith
levels_rest_lem (choice s k f) = omega arith
levels_rest_lem (shell x c) = omega arith
levels_rest_lem (bytes l) = omega arith
levels_rest_lem (invocation n a) = omega arith
levels_rest_lem (macro_invocation n a) = omega arith

module _ {s path binders : List ℕ} (small : length s ≤ 65535) where
  -- a node that is opened
  pub frame_opens : (c : Combinator) (z : List ℕ) (k at last len bound own call : ℕ) (name : Name) (env : List Bound) (o : Own) → Here s at (w_combinator c z) → levels c ≤ k + 1 → k < 64
      → Held path len name → bound_from s binders 0 bound ≡ env → OwnIs own call o → 4 * bound ≤ at → FrameIs s path binders k (frame_at s at last len bound own call) (node_of c at name env o)
  unfolding frame_at node_of w_combinator levels LinkIs levels_link
  frame_opens (plain i) z k at last len bound own call name env o h d m held e ow fw =
      let b = begins i (0 ∷ z) h in
      let q = inner_rest small i (0 ∷ z) h in
      let p = inner_end_lem small i (0 ∷ z) h in
      record {
        after = 0 ∷ z;
        rest = b.rest;
        ends = omega (arith, b.here, size_rest_lem i);
        here = b.here;
        done = omega (arith, b.here);
        link = (rw (byte_here q), refl);
        name = held;
        env = e;
        own = ow;
        few = omega (arith, b.here);
        deep = omega (arith, levels_rest_lem i);
        deep_link = omega arith;
      }
  frame_opens (chained i c) z k at last len bound own call name env o h d m held e ow fw =
      let b = begins i (1 ∷ w_combinator c z) h in
      let q = inner_rest small i (1 ∷ w_combinator c z) h in
      let p = inner_end_lem small i (1 ∷ w_combinator c z) h in
      let g : past_at s (inner_end_of s at) 1 ≡ chain_at at i = past_one q ∙ omega arith in
      record {
        after = 1 ∷ w_combinator c z;
        rest = b.rest;
        ends = omega (arith, b.here, size_rest_lem i);
        here = b.here;
        done = omega (arith, b.here);
        link = (rw (byte_here q), omega arith, record { after = z; is = rw g at (next_here q) });
        name = held;
        env = e;
        own = ow;
        few = omega (arith, b.here);
        deep = omega (arith, levels_rest_lem i);
        deep_link = omega arith;
      }

-- ---- what a frame does next, by its numbers
both_done : (b : Bool) → pick b Done Done ≡ Done
both_done true = refl
both_done false = refl

module _ (s : List ℕ) (f : Frame ℕ) where
  next_chain : f.chained ≡ true → next_of s f ≡ Chain (past_at s f.end 1)
  unfolding next_of
  next_chain e = rw e

  module _ (e : f.chained ≡ false) where
    next_none : f.left ≡ 0 → next_of s f ≡ Done
    unfolding next_of
    next_none z = rw (e, z)

    next_tail : f.kind ≡ kind.Nothing → next_of s f ≡ Done
    unfolding next_of next_by
    next_tail z = rw (e, z) (both_done (eqb f.left 0))

    next_child : 0 < f.left → next_of s f ≡ next_by f.kind s f.here
    unfolding next_of
    next_child some = let l : eqb f.left 0 ≡ false = ne_eqb f.left 0 (λ q. absurd (omega arith)) in rw (e, l)

no_third : (k : FieldKind) → eqb (field_byte k) 3 ≡ false
unfolding field_byte
no_third ordinary = refl
no_third dependent = refl

-- ---- where the child stands
module _ {s : List ℕ} {p : ℕ} where
  field_at_lem : (b : ℕ) (l : Name) (z : List ℕ) → Here s p (b ∷ w_name l z) → name_past_of s (past_at s p 1) ≡ field_at p l
  field_at_lem b l z h = omega (arith, here_length h, here_length (name_here l (next_here h)), adds (w_name l) (s_name l) z)

  const_at : (b : ℕ) (l : Name) (x z : List ℕ) → Here s p (b ∷ w_name l (w_text x z)) → text_past_of s (name_past_of s (past_at s p 1)) ≡ const_end p l x
  const_at b l x z h = omega (arith, here_length h, here_length (text_here x (name_here l (next_here h))), adds (w_name l) (s_name l) (w_text x z), adds (w_text x) (s_text x) z)

  label_at : (l : Name) (z : List ℕ) → Here s p (w_name l z) → name_past_of s p ≡ case_at p enums l
  unfolding w_label
  label_at l z h = omega (arith, here_length h, here_length (name_here l h), adds (w_name l) (s_name l) z)

  text_at : (x z : List ℕ) → Here s p (w_text x z) → text_past_of s p ≡ p + length (w_text x [])
  text_at x z h = omega (arith, here_length h, here_length (text_here x h), adds (w_text x) (s_text x) z)

past_step : (s : List ℕ) (e p : ℕ) → p ≡ e + 1 → p ≤ length s → past_at s e 1 ≡ p
unfolding past_at
past_step s e p q h = omega arith

module _ (at done : ℕ) (name : Name) (env : List Bound) (own : Own) where
  next_link : {s path binders : List ℕ} {k : ℕ} {f : Frame ℕ} (c : Combinator) (p : ℕ) (r : Rest) → FrameIs s path binders k f (node at done name env own (ahead c p) r) → NextIs s path binders k f (node at done name env own (ahead c p) r) (next_of s f)
  unfolding NextIs LinkIs levels_link
  next_link {s} {path} {binders} {k} {f} c p r g =
      let l = g.link in
      rw (next_chain s f l.0, past_step s f.end p l.1 l.2.is.reach) (record { child = c; wait = _; opens = opens_chain r at done name env own c p; stands = l.2; deep = g.deep_link; behind = omega (arith, g.ends, l.1); back = λ path binders h room z few. back_chain at done name env own z c p r p h })

  module _ {s path binders : List ℕ} {k : ℕ} {f : Frame ℕ} (small : length s ≤ 16384) (l : ℕ) where
    next_no_field : FrameIs s path binders k f (node at done name env own (behind l) (fields no_field)) → NextIs s path binders k f (node at done name env own (behind l) (fields no_field)) (next_of s f)
    unfolding NextIs LinkIs RestIs size_rest size_f w_combinator count_f
    next_no_field g =
        let z : f.end - f.here ≡ 0 = omega (arith, g.ends) in
        rw (next_none s f g.link.0 g.rest.2) (record { closes = λ t. rw (z, g.done, g.link.1) (ends_fields l at done name env own t) })

    next_no_case : (j : CaseKind) (i : ℕ) → FrameIs s path binders k f (node at done name env own (behind l) (cases no_case j i)) → NextIs s path binders k f (node at done name env own (behind l) (cases no_case j i)) (next_of s f)
    unfolding NextIs LinkIs RestIs size_rest size_c w_combinator count_c
    next_no_case j i g =
        let z : f.end - f.here ≡ 0 = omega (arith, g.ends) in
        rw (next_none s f g.link.0 g.rest.2) (record { closes = λ t. rw (z, g.done, g.link.1) (ends_cases l at done name env own j i t) })

    next_bytes : (j : ℕ) → FrameIs s path binders k f (node at done name env own (behind l) (tail j)) → NextIs s path binders k f (node at done name env own (behind l) (tail j)) (next_of s f)
    unfolding NextIs LinkIs RestIs size_rest
    next_bytes j g =
        let z : f.end - f.here ≡ j = omega (arith, g.ends) in
        rw (next_tail s f g.link.0 g.rest) (record { closes = λ t. rw (z, g.done, g.link.1) (ends_tail l at done name env own j t) })

    next_a-field : (j : FieldKind) (a : Name) (c : Combinator) (h : Fields) → FrameIs s path binders k f (node at done name env own (behind l) (fields (field j a c h))) → NextIs s path binders k f (node at done name env own (behind l) (fields (field j a c h))) (next_of s f)
    unfolding NextIs LinkIs RestIs levels_rest w_combinator count_f levels next_by next_field_of
    next_a-field j a c h g =
        let y = g.after in
        let r = g.rest.0 in
        let b = name_here a (next_here r) in
        let e : name_past_of s (past_at s f.here 1) ≡ field_at at a = field_at_lem (field_byte j) a (w_combinator c (w_fields h y)) r ∙ (rw g.here) in
        let m : name_at s (past_at s f.here 1) ≡ a = stands s (past_at s f.here 1) a (w_combinator c (w_fields h y)) (next_here r).is in
        rw (next_child s f g.link.0 (omega (arith, g.rest.2)), g.rest.1, byte_here r, no_third j, m, e)
        (record { child = c; wait = _; opens = opens_field l at done name env own j a c h; stands = record { after = w_fields h y; is = rw e at b }; deep = omega (arith, g.deep); behind = omega (arith, g.here); back = λ path binders fr room z few. back_field at done name env own z small room few l j a c h fr })

    next_a-const : (a : Name) (x : List ℕ) (h : Fields) → FrameIs s path binders k f (node at done name env own (behind l) (fields (const a x h))) → NextIs s path binders k f (node at done name env own (behind l) (fields (const a x h))) (next_of s f)
    unfolding NextIs LinkIs RestIs levels_rest w_combinator count_f levels next_by next_field_of size_rest passed advanced
    next_a-const a x h g =
        let y = g.after in
        let r = g.rest.0 in
        let b = text_here x (name_here a (next_here r)) in
        let e : text_past_of s (name_past_of s (past_at s f.here 1)) ≡ const_end f.here a x = const_at 3 a x (w_fields h y) r in
        let q = size_constant a x h in
        let d : const_end f.here a x - f.here ≡ 1 + length (w_name a []) + length (w_text x []) = omega arith in
        rw (next_child s f g.link.0 (omega (arith, g.rest.2)), g.rest.1, byte_here r, e)
        (record {
          next = advanced (node at done name env own (behind l) (fields (const a x h))) (fields h) (const_end at a x) (plus done (1 + length (w_name a []) + length (w_text x []))) env;
          frame = record {
            after = y;
            rest = (rw e at b, refl, omega (arith, g.rest.2));
            ends = omega (arith, g.ends);
            here = rw g.here;
            done = rw (d, g.done);
            link = g.link;
            name = g.name;
            env = g.env;
            own = g.own;
            few = omega (arith, g.few);
            deep = g.deep;
            deep_link = g.deep_link;
          };
          ahead = omega arith;
          same = λ ws t. passes_const l at done name env own a x h ws t;
        })

    next_a_case : (x : List ℕ) (c : Combinator) (h : Cases) (j : CaseKind) (i : ℕ) → FrameIs s path binders k f (node at done name env own (behind l) (cases (case x c h) j i)) → NextIs s path binders k f (node at done name env own (behind l) (cases (case x c h) j i)) (next_of s f)
    unfolding NextIs LinkIs RestIs levels_rest w_combinator count_c levels w_label kind_of next_by case_segment
    next_a_case x c h enums i g =
        let y = g.after in
        let r = g.rest.0 in
        let e : name_past_of s f.here ≡ case_at at enums x = label_at x (w_combinator c (w_cases h enums y)) r ∙ (rw g.here) in
        let m : name_at s f.here ≡ x = stands s f.here x (w_combinator c (w_cases h enums y)) r.is in
        rw (next_child s f g.link.0 (omega (arith, g.rest.2)), g.rest.1, m, e)
        (record { child = c; wait = _; opens = opens_case l at done name env own x c h enums i; stands = record { after = w_cases h enums y; is = rw e at (name_here x r) }; deep = omega (arith, g.deep); behind = omega (arith, g.here); back = λ path binders fr room z few. back_case at done name env own z small room few l x c h enums i fr })
    next_a_case x c h ints i g =
        let y = g.after in
        let r = g.rest.0 in
        let e : text_past_of s f.here ≡ at + length (w_text x []) = text_at x (w_combinator c (w_cases h ints y)) r ∙ (rw g.here) in
        rw (next_child s f g.link.0 (omega (arith, g.rest.2)), g.rest.1, e, g.rest.3)
        (record { child = c; wait = _; opens = opens_case l at done name env own x c h ints i; stands = record { after = w_cases h ints y; is = rw e at (text_here x r) }; deep = omega (arith, g.deep); behind = omega (arith, g.here); back = λ path binders fr room z few. back_case at done name env own z small room few l x c h ints i fr })
    next_a_case x c h arrays i g =
        let y = g.after in
        let r = g.rest.0 in
        let e : text_past_of s f.here ≡ at + length (w_text x []) = text_at x (w_combinator c (w_cases h arrays y)) r ∙ (rw g.here) in
        rw (next_child s f g.link.0 (omega (arith, g.rest.2)), g.rest.1, e, g.rest.3)
        (record { child = c; wait = _; opens = opens_case l at done name env own x c h arrays i; stands = record { after = w_cases h arrays y; is = rw e at (text_here x r) }; deep = omega (arith, g.deep); behind = omega (arith, g.here); back = λ path binders fr room z few. back_case at done name env own z small room few l x c h arrays i fr })

    next_a_one : (x : Shell) (c : Combinator) → FrameIs s path binders k f (node at done name env own (behind l) (one x c)) → NextIs s path binders k f (node at done name env own (behind l) (one x c)) (next_of s f)
    unfolding NextIs LinkIs RestIs levels_rest w_open w_shut next_by next_one_of shell_segment
    next_a_one (wrap u v) c g =
        let r = g.rest.0 in
        let b = text_here u (next_here r) in
        let e : text_past_of s (past_at s f.here 1) ≡ at + length (5 ∷ w_text u []) = omega (arith, here_length r, here_length b, adds (w_text u) (s_text u) (w_combinator c (w_text v g.after)), g.here) in
        rw (next_child s f g.link.0 (omega (arith, g.rest.2)), g.rest.1, byte_here r, e)
        (record { child = c; wait = _; opens = opens_one l at done name env own (wrap u v) c; stands = record { after = w_text v g.after; is = rw e at b }; deep = g.deep; behind = omega (arith, g.here); back = λ path binders fr room z few. back_one at done name env own z small room few l (wrap u v) c fr })
    next_a_one vec c g =
        let r = g.rest.0 in
        let e : past_at s f.here 1 ≡ at + 1 = past_one r ∙ (rw g.here) in
        rw (next_child s f g.link.0 (omega (arith, g.rest.2)), g.rest.1, byte_here r, e)
        (record { child = c; wait = _; opens = opens_one l at done name env own vec c; stands = record { after = g.after; is = rw e at (next_here r) }; deep = g.deep; behind = omega (arith, g.here); back = λ path binders fr room z few. back_one at done name env own z small room few l vec c fr })
    next_a_one option c g =
        let r = g.rest.0 in
        let e : past_at s f.here 1 ≡ at + 1 = past_one r ∙ (rw g.here) in
        rw (next_child s f g.link.0 (omega (arith, g.rest.2)), g.rest.1, byte_here r, e)
        (record { child = c; wait = _; opens = opens_one l at done name env own option c; stands = record { after = g.after; is = rw e at (next_here r) }; deep = g.deep; behind = omega (arith, g.here); back = λ path binders fr room z few. back_one at done name env own z small room few l option c fr })
    next_a_one (array u) c g =
        let r = g.rest.0 in
        let b = len_here u (next_here r) in
        let e : length_past_of s (past_at s f.here 1) ≡ at + length (9 ∷ w_len u []) = omega (arith, here_length r, here_length b, adds (w_len u) (s_len u) (w_combinator c g.after), g.here) in
        rw (next_child s f g.link.0 (omega (arith, g.rest.2)), g.rest.1, byte_here r, e)
        (record { child = c; wait = _; opens = opens_one l at done name env own (array u) c; stands = record { after = g.after; is = rw e at b }; deep = g.deep; behind = omega (arith, g.here); back = λ path binders fr room z few. back_one at done name env own z small room few l (array u) c fr })

-- a frame does next what its node does
next_each : {s path binders : List ℕ} {k : ℕ} {f : Frame ℕ} (small : length s ≤ 16384) (l : Link) (r : Rest) (at done : ℕ) (name : Name) (env : List Bound) (own : Own) → FrameIs s path binders k f (node at done name env own l r)
    → NextIs s path binders k f (node at done name env own l r) (next_of s f)
next_each small (ahead c p) r at done name env own g = next_link at done name env own c p r g
next_each small (behind l) (fields no_field) at done name env own g = next_no_field at done name env own small l g
next_each small (behind l) (fields (field j a c h)) at done name env own g = next_a-field at done name env own small l j a c h g
next_each small (behind l) (fields (const a x h)) at done name env own g = next_a-const at done name env own small l a x h g
next_each small (behind l) (cases no_case j i) at done name env own g = next_no_case at done name env own small l j i g
next_each small (behind l) (cases (case x c h) j i) at done name env own g = next_a_case at done name env own small l x c h j i g
next_each small (behind l) (one x c) at done name env own g = next_a_one at done name env own small l x c g
next_each small (behind l) (tail j) at done name env own g = next_bytes at done name env own small l j g

pub next_is : {s path binders : List ℕ} {k : ℕ} {f : Frame ℕ} {n : Node} → length s ≤ 16384 → FrameIs s path binders k f n → NextIs s path binders k f n (next_of s f)
next_is {n = n} small g = next_each small n.link n.rest n.at n.done n.name n.env n.own g
