-- Where a combinator stands, the walk collects the definition's free names that are not bound, and tells whether a macro call is left.
-- Assumes nothing.
use mathlib.Core.Path.{◌≡◌, refl, sym, ap, ◌∙◌}
use mathlib.Core.Logic.{⊎_elim}
use mathlib.Core.List.{List, [], ◌∷◌, ◌++◌, map}
use mathlib.Core.Bool.{Bool, true, false, ◌||◌, or-false, or-true}
use Prim.Native.Nat.{ℕ, zero, suc, ◌+◌, ◌*◌, ◌≤◌, ◌<◌}
use native.Mathlib.Nat.{not-suc-le-zero}
use native.Mathlib.Omega.{arith}
use lib.ListN.{length}
use Rattle.definition.specs.Tree.{Name, Leaf, constraint_int, constraint_enum, bits, enum, tail, nothing, never, Len, wrap, vec, option, array, Selector, none, by, CaseKind, ordinary, dependent, Combinator, plain, chained, Inner, leaf, struct, choice, shell, bytes, invocation, macro_invocation, Fields, no_field, field, const, Cases, no_case, case, Inners, no_inner, inner}
use Rattle.definition.specs.Names.{elem, root, remove}
use Rattle.definition.specs.Write.{w_u16, w_name, w_text, w_all, w_list, w_len, w_selector, case_byte, w_label, leaf_tag, field_byte, w_open, w_shut, count_f, count_c, count_a, w_combinator, w_inner, w_fields, w_cases, w_inners}
use Rattle.definition.specs.Size.{levels, levels_i, levels_f, levels_c, levels_a}
use Rattle.definition.specs.Collect.{bytes_or_tail, selector_uses, shell_uses, free, free_i, free_f, free_c, leftover, leftover_i, leftover_f, leftover_c, unbound}
use Rattle.laws.proofs.Tests.{yes_no}
use Rattle.laws.proofs.Splits.{s_u16, s_name, s_text, s_len, s_selector, s_label, s_comb, s_inner}
use Rattle.layout.specs.items.At.{byte_at, past_at, name_past_of, text_past_of, label_past_of}
use Rattle.layout.specs.items.Here.{Here}
use Rattle.layout.proofs.items.Here.{here_length, byte_here, next_here, number_here, number_past, name_here, text_here, label_here}
use Rattle.layout.proofs.items.Stands.{stands}
use Rattle.collect_params.specs.declared.scope.Walk.{Walk}
use Rattle.layout.specs.lookup.Name.{name_at}
use Rattle.layout.proofs.lookup.Names.{stands as label-stands}
use Rattle.collect_params.specs.labels.Labels.{labels_in}
use Rattle.collect_params.proofs.labels.Found.{Same, same_self, labelled, labelled_long, bind_is, finds_bind}
use Rattle.collect_params.specs.uses.Uses.{name_in, names_in_of, use_at_of}
use Rattle.collect_params.specs.scope.Steps.{walk, moved, counted, bind_by}
use Rattle.collect_params.specs.roots.Recorded.{is_bound_of, times_use, name_by, names_by, length_by, call_by, selector_by}
use Rattle.collect_params.specs.collect.Walk.{State, Step, times, many, field_by, fields_by, wrap_by, case_by, choice_by, array_by, macro_by, inner_by, chain_by, tail_by, combinator_by, argument_by, combinator_at, argument_at}
use Rattle.collect_params.proofs.uses.Without.{cut_by, use-here, without_here, without_new}
use Rattle.collect_params.proofs.collect.Room.{name_long, combinator_long}
use Rattle.collect_params.proofs.collect.Gathered.{Gathered, Ready, ready_past, ready_on, moves, then, wrote_nothing, nothing_used, hushed, Closed, closed_none, closed_then, binds}

same_names : (ns : List Name) → map (cut_by false) ns ≡ ns
same_names [] = refl
same_names (n ∷ ns) = ap (λ (l : List Name). n ∷ l) (same_names ns)

-- what a walk over the arguments of a macro would collect; it is forgotten
free_a : Inners → List Name
free_a no_inner = []
free_a (inner i f) = free_i i ++ free_a f

leftover_a : Inners → Bool
leftover_a no_inner = false
leftover_a (inner i f) = leftover_i i || leftover_a f

module _ (s : List ℕ) (small : (i : ℕ) → byte_at s i < 256) (short : length s < 16777216) where
  module _ (bound : List ℕ) where
    one_name : (cut : Bool) (m z : List ℕ) (w : Walk) (uses : List ℕ) → Ready s w.at (w_name m z) w.n w.b bound uses
        → Gathered s z (cut_by cut m ∷ []) false w.n w.b w.leftover bound uses ((name_by s cut bound w uses).0, bound, (name_by s cut bound w uses).1)
    unfolding name_by is_bound_of names_in_of
    one_name cut m z w uses r =
        let x : ℕ = use_at_of s w.at cut in
        let named : name_in s x ≡ cut_by cut m = use-here small short cut m z r.here in
        let found : is_bound_of s x bound w.b ≡ elem (cut_by cut m) (labels_in s bound w.b) = r.finds.is (name_in s x) ∙ ap (λ (n : Name). elem n (labels_in s bound w.b)) named in
        let same : Same bound bound w.b = same_self in
        ⊎_elim
        (λ (e : is_bound_of s x bound w.b ≡ true).
        rw e record { here = name_here m r.here; left = sym (or-false w.leftover); used = []; wrote = wrote_nothing r; named = sym (without_here _ _ (sym found ∙ e)); same = refl; kept = same; long = refl })
        (λ (e : is_bound_of s x bound w.b ≡ false).
        rw e record { here = name_here m r.here; left = sym (or-false w.leftover); used = x ∷ []; wrote = record { place = refl; holds = refl }; named = ap (λ (n : Name). n ∷ []) named ∙ sym (without_new _ _ (sym found ∙ e)); same = refl; kept = same; long = refl })
        (yes_no (is_bound_of s x bound w.b))

    all_names : (cut : Bool) (ns : List Name) (z : List ℕ) (w : Walk) (uses : List ℕ) → Ready s w.at (w_all w_name ns z) w.n w.b bound uses
        → Gathered s z (map (cut_by cut) ns) false w.n w.b w.leftover bound uses ((times_use (name_by s cut bound) (length ns) w uses).0, bound, (times_use (name_by s cut bound) (length ns) w uses).1)
    unfolding w_all times_use
    all_names cut [] z w uses r = nothing_used w.leftover r r.here
    all_names cut (n ∷ ns) z w uses r =
        let g = one_name cut n (w_all w_name ns z) w uses r in
        let v : Walk = (name_by s cut bound w uses).0 in
        then g (all_names cut ns z v (name_by s cut bound w uses).1 (ready_on g (w_name n) (s_name n) r))

    names_gathered : (cut : Bool) (ns : List Name) (z : List ℕ) (w : Walk) (uses : List ℕ) → Ready s w.at (w_list w_name ns z) w.n w.b bound uses
        → Gathered s z (map (cut_by cut) ns) false w.n w.b w.leftover bound uses ((names_by s cut bound w uses).0, bound, (names_by s cut bound w uses).1)
    unfolding names_by w_list
    names_gathered cut ns z w uses r =
        rw (number_here (length ns) (w_all w_name ns z) r.here)
        (all_names cut ns z (moved w (past_at s w.at 2)) uses (ready_past (w_u16 (length ns)) (s_u16 (length ns)) (w_all w_name ns z) r (number_past (length ns) r.here)))

    length_gathered : (l : Len) (z : List ℕ) (w : Walk) (uses : List ℕ) → Ready s w.at (w_len l z) w.n w.b bound uses
        → Gathered s z l.roots false w.n w.b w.leftover bound uses ((length_by s bound w uses).0, bound, (length_by s bound w uses).1)
    unfolding length_by w_len
    length_gathered l z w uses r =
        let g = names_gathered false l.roots (w_text l.text z) w uses r in
        rw same_names at (moves g (text_here l.text g.here))

    call_gathered : (n : Name) (a : List Name) (z : List ℕ) (w : Walk) (uses : List ℕ) → Ready s w.at (w_name n (w_list w_name a z)) w.n w.b bound uses
        → Gathered s z (map root a) false w.n w.b w.leftover bound uses ((call_by s bound w uses).0, bound, (call_by s bound w uses).1)
    unfolding call_by
    call_gathered n a z w uses r = names_gathered true a z (moved w (name_past_of s w.at)) uses (ready_past (w_name n) (s_name n) (w_list w_name a z) r (name_here n r.here))

    selector_gathered : (x : Selector) (z : List ℕ) (w : Walk) (uses : List ℕ) → Ready s w.at (w_selector x z) w.n w.b bound uses
        → Gathered s z (selector_uses x) false w.n w.b w.leftover bound uses ((selector_by s bound w uses).0, bound, (selector_by s bound w uses).1)
    unfolding selector_by w_selector selector_uses
    selector_gathered none z w uses r = rw (byte_here r.here) (nothing_used w.leftover r (next_here r.here))
    selector_gathered (by m) z w uses r = rw (byte_here r.here) (one_name true m z (moved w (past_at s w.at 1)) uses (ready_past (λ l. 1 ∷ l) (λ a b. refl) (w_name m z) r (next_here r.here)))

  -- behind one byte
  after_byte : {x p n b : ℕ} {bound uses : List ℕ} (z : List ℕ) → Ready s p (x ∷ z) n b bound uses → Ready s (past_at s p 1) z n b bound uses
  after_byte {x} z r = ready_past (λ l. x ∷ l) (λ a b. refl) z r (next_here r.here)

  module _ (w : Walk) (bound uses : List ℕ) where
    once : (step : Step) (n : ℕ) → times step (suc n) w bound uses ≡ times step n (step w bound uses).0 (step w bound uses).1 (step w bound uses).2
    unfolding times
    once step n = refl

    many_is : (step : Step) (n : ℕ) (z : List ℕ) → Here s w.at (w_u16 n z) → many step s w bound uses ≡ times step n (moved w (past_at s w.at 2)) bound uses
    unfolding many
    many_is step n z h = rw (number_here n z h)

    module _ (deep : Step) where
      ordinary_is : (z : List ℕ) → Here s w.at (1 ∷ z) → field_by deep s w bound uses ≡ deep (moved w (name_past_of s (past_at s w.at 1))) bound uses
      unfolding field_by
      ordinary_is z h = rw (byte_here h)

      dependent_is : (z : List ℕ) → Here s w.at (2 ∷ z) → let g = deep (moved w (name_past_of s (past_at s w.at 1))) bound uses in
          field_by deep s w bound uses ≡ ((bind_by s (past_at s w.at 1) g.0 g.1).0, (bind_by s (past_at s w.at 1) g.0 g.1).1, g.2)
      unfolding field_by
      dependent_is z h = rw (byte_here h)

      const_is : (z : List ℕ) → Here s w.at (3 ∷ z) → field_by deep s w bound uses ≡ (moved w (text_past_of s (name_past_of s (past_at s w.at 1))), bound, uses)
      unfolding field_by
      const_is z h = rw (byte_here h)

      leaf_is : (arg : Step) (x : Leaf) (z : List ℕ) → Here s w.at (leaf_tag x ∷ z) → inner_by deep arg s w bound uses ≡ (moved w (text_past_of s (past_at s w.at 1)), bound, uses)
      unfolding inner_by leaf_tag
      leaf_is arg constraint_int z h = rw (byte_here h)
      leaf_is arg constraint_enum z h = rw (byte_here h)
      leaf_is arg bits z h = rw (byte_here h)
      leaf_is arg enum z h = rw (byte_here h)
      leaf_is arg tail z h = rw (byte_here h)
      leaf_is arg nothing z h = rw (byte_here h)
      leaf_is arg never z h = rw (byte_here h)

  -- what stands behind the inner
  behind_plain : (i : Inner) (k : ℕ) (w : Walk) (bound uses z : List ℕ) → Gathered s (0 ∷ z) (free_i i) (leftover_i i) w.n w.b w.leftover bound uses (inner_by (combinator_at k s) (argument_at k s) s w bound uses)
      → Gathered s z (free_i i) (leftover_i i) w.n w.b w.leftover bound uses (combinator_at (suc k) s w bound uses)
  unfolding combinator_at combinator_by tail_by
  behind_plain i k w bound uses z g = rw (byte_here g.here) (moves g (next_here g.here))

  behind_chained : (i : Inner) (c : Combinator) (k : ℕ) (w : Walk) (bound uses z : List ℕ) → Ready s w.at (w_inner i (1 ∷ w_combinator c z)) w.n w.b bound uses
      → Gathered s (1 ∷ w_combinator c z) (free_i i) (leftover_i i) w.n w.b w.leftover bound uses (inner_by (combinator_at k s) (argument_at k s) s w bound uses)
      → ((v : Walk) (l m : List ℕ) → Ready s v.at (w_combinator c z) v.n v.b l m → Gathered s z (free c) (leftover c) v.n v.b v.leftover l m (combinator_at k s v l m))
      → Gathered s z (free (chained i c)) (leftover (chained i c)) w.n w.b w.leftover bound uses (combinator_at (suc k) s w bound uses)
  unfolding combinator_at combinator_by tail_by chain_by free leftover
  behind_chained i c k w bound uses z r g chain =
      let G : State = inner_by (combinator_at k s) (argument_at k s) s w bound uses in
      let u : Walk = moved G.0 (past_at s G.0.at 1) in
      let h = moves g (next_here g.here) in
      let q : Ready s u.at (w_combinator c z) u.n u.b G.1 G.2 = after_byte (w_combinator c z) (ready_on g (w_inner i) (s_inner i) r) in
      ⊎_elim
      (λ (e : bytes_or_tail i ≡ true).
      rw (byte_here g.here, stands i (1 ∷ w_combinator c z) r.here, e) (then h (chain u G.1 G.2 q)))
      (λ (e : bytes_or_tail i ≡ false).
      let v : Walk = counted u u.at (length G.2 + 1) in
      rw (byte_here g.here, stands i (1 ∷ w_combinator c z) r.here, e)
      (then h (hushed false q (chain v G.1 G.2 record { here = q.here; few = q.few; room = q.room; finds = q.finds; fits = omega arith }) (sym (or-false u.leftover)))))
      (yes_no (bytes_or_tail i))

  -- each inner, from what is known of the combinators in it
  inner_leaf : (x : Leaf) (t : List ℕ) (k : ℕ) (w : Walk) (bound uses z : List ℕ) → Ready s w.at (w_inner (leaf x t) z) w.n w.b bound uses → Gathered s z [] false w.n w.b w.leftover bound uses (inner_by (combinator_at k s) (argument_at k s) s w bound uses)
  unfolding w_inner
  inner_leaf x t k w bound uses z r = rw (leaf_is w bound uses (combinator_at k s) (argument_at k s) x (w_text t z) r.here) (nothing_used w.leftover r (text_here t (next_here r.here)))

  inner_struct : (f : Fields) (k : ℕ) (w : Walk) (bound uses z : List ℕ) → Ready s w.at (w_inner (struct f) z) w.n w.b bound uses
      → ((v : Walk) → Ready s v.at (w_fields f z) v.n v.b bound uses → Closed s z (free_f f) (leftover_f f) v.n v.b v.leftover bound uses (times (field_by (combinator_at k s) s) (count_f f) v bound uses)) → Gathered s z (free_f f) (leftover_f f) w.n w.b w.leftover bound uses (inner_by (combinator_at k s) (argument_at k s) s w bound uses)
  unfolding w_inner inner_by fields_by
  inner_struct f k w bound uses z r deep =
      let v : Walk = moved w (past_at s w.at 1) in
      let q : Ready s v.at (w_u16 (count_f f) (w_fields f z)) v.n v.b bound uses = after_byte (w_u16 (count_f f) (w_fields f z)) r in
      rw (byte_here r.here, many_is v bound uses (field_by (combinator_at k s) s) (count_f f) (w_fields f z) q.here)
      (deep (moved v (past_at s v.at 2)) (ready_past (w_u16 (count_f f)) (s_u16 (count_f f)) (w_fields f z) q (number_past (count_f f) q.here))).gathered

  inner_choice : (x : Selector) (y : CaseKind) (f : Cases) (k : ℕ) (w : Walk) (bound uses z : List ℕ) → Ready s w.at (w_inner (choice x y f) z) w.n w.b bound uses
      → ((v : Walk) (m : List ℕ) → Ready s v.at (w_cases f y z) v.n v.b bound m → Gathered s z (free_c f) (leftover_c f) v.n v.b v.leftover bound m (times (case_by (combinator_at k s) s (case_byte y)) (count_c f) v bound m))
      → Gathered s z (selector_uses x ++ free_c f) (leftover_c f) w.n w.b w.leftover bound uses (inner_by (combinator_at k s) (argument_at k s) s w bound uses)
  unfolding w_inner inner_by choice_by
  inner_choice x y f k w bound uses z r deep =
      let v : Walk = moved w (past_at s w.at 1) in
      let rest : List ℕ = w_u16 (count_c f) (w_cases f y z) in
      let q : Ready s v.at (w_selector x (case_byte y ∷ rest)) v.n v.b bound uses = after_byte (w_selector x (case_byte y ∷ rest)) r in
      let g = selector_gathered bound x (case_byte y ∷ rest) v uses q in
      let m : List ℕ = (selector_by s bound v uses).1 in
      let u : Walk = moved (selector_by s bound v uses).0 (past_at s (selector_by s bound v uses).0.at 1) in
      let p : Ready s u.at (rest) u.n u.b bound m = after_byte rest (ready_on g (w_selector x) (s_selector x) q) in
      rw (byte_here r.here, byte_here g.here, many_is u bound m (case_by (combinator_at k s) s (case_byte y)) (count_c f) (w_cases f y z) p.here)
      (then g (deep (moved u (past_at s u.at 2)) m (ready_past (w_u16 (count_c f)) (s_u16 (count_c f)) (w_cases f y z) p (number_past (count_c f) p.here))))

  inner_wrap : (x y : List ℕ) (c : Combinator) (k : ℕ) (w : Walk) (bound uses z : List ℕ) → Ready s w.at (w_inner (shell (wrap x y) c) z) w.n w.b bound uses
      → ((v : Walk) → Ready s v.at (w_combinator c (w_text y z)) v.n v.b bound uses → Gathered s (w_text y z) (free c) (leftover c) v.n v.b v.leftover bound uses (combinator_at k s v bound uses)) → Gathered s z (free c) (leftover c) w.n w.b w.leftover bound uses (inner_by (combinator_at k s) (argument_at k s) s w bound uses)
  unfolding w_inner w_open w_shut inner_by wrap_by
  inner_wrap x y c k w bound uses z r deep =
      let v : Walk = moved w (past_at s w.at 1) in
      let q : Ready s v.at (w_text x (w_combinator c (w_text y z))) v.n v.b bound uses = after_byte (w_text x (w_combinator c (w_text y z))) r in
      let g = deep (moved v (text_past_of s v.at)) (ready_past (w_text x) (s_text x) (w_combinator c (w_text y z)) q (text_here x q.here)) in
      rw (byte_here r.here) (moves g (text_here y g.here))

  inner_vec : (c : Combinator) (k : ℕ) (w : Walk) (bound uses z : List ℕ) → Ready s w.at (w_inner (shell vec c) z) w.n w.b bound uses → ((v : Walk) → Ready s v.at (w_combinator c z) v.n v.b bound uses → Gathered s z (free c) (leftover c) v.n v.b v.leftover bound uses (combinator_at k s v bound uses)) → Gathered s z (free c) (leftover c) w.n w.b w.leftover bound uses (inner_by (combinator_at k s) (argument_at k s) s w bound uses)
  unfolding w_inner w_open w_shut inner_by
  inner_vec c k w bound uses z r deep = rw (byte_here r.here) (deep (moved w (past_at s w.at 1)) (after_byte (w_combinator c z) r))

  inner_option : (c : Combinator) (k : ℕ) (w : Walk) (bound uses z : List ℕ) → Ready s w.at (w_inner (shell option c) z) w.n w.b bound uses → ((v : Walk) → Ready s v.at (w_combinator c z) v.n v.b bound uses → Gathered s z (free c) (leftover c) v.n v.b v.leftover bound uses (combinator_at k s v bound uses)) → Gathered s z (free c) (leftover c) w.n w.b w.leftover bound uses (inner_by (combinator_at k s) (argument_at k s) s w bound uses)
  unfolding w_inner w_open w_shut inner_by
  inner_option c k w bound uses z r deep = rw (byte_here r.here) (deep (moved w (past_at s w.at 1)) (after_byte (w_combinator c z) r))

  inner_array : (l : Len) (c : Combinator) (k : ℕ) (w : Walk) (bound uses z : List ℕ) → Ready s w.at (w_inner (shell (array l) c) z) w.n w.b bound uses → ((v : Walk) (m : List ℕ) → Ready s v.at (w_combinator c z) v.n v.b bound m → Gathered s z (free c) (leftover c) v.n v.b v.leftover bound m (combinator_at k s v bound m)) → Gathered s z (l.roots ++ free c) (leftover c) w.n w.b w.leftover bound uses (inner_by (combinator_at k s) (argument_at k s) s w bound uses)
  unfolding w_inner w_open w_shut inner_by array_by
  inner_array l c k w bound uses z r deep =
      let v : Walk = moved w (past_at s w.at 1) in
      let q : Ready s v.at (w_len l (w_combinator c z)) v.n v.b bound uses = after_byte (w_len l (w_combinator c z)) r in
      let g = length_gathered bound l (w_combinator c z) v uses q in
      rw (byte_here r.here) (then g (deep (length_by s bound v uses).0 (length_by s bound v uses).1 (ready_on g (w_len l) (s_len l) q)))

  inner_bytes : (l : Len) (k : ℕ) (w : Walk) (bound uses z : List ℕ) → Ready s w.at (w_inner (bytes l) z) w.n w.b bound uses → Gathered s z l.roots false w.n w.b w.leftover bound uses (inner_by (combinator_at k s) (argument_at k s) s w bound uses)
  unfolding w_inner inner_by
  inner_bytes l k w bound uses z r = rw (byte_here r.here) (length_gathered bound l z (moved w (past_at s w.at 1)) uses (after_byte (w_len l z) r))

  inner_call : (n : Name) (a : List Name) (k : ℕ) (w : Walk) (bound uses z : List ℕ) → Ready s w.at (w_inner (invocation n a) z) w.n w.b bound uses → Gathered s z (map root a) false w.n w.b w.leftover bound uses (inner_by (combinator_at k s) (argument_at k s) s w bound uses)
  unfolding w_inner inner_by
  inner_call n a k w bound uses z r = rw (byte_here r.here) (call_gathered bound n a z (moved w (past_at s w.at 1)) uses (after_byte (w_name n (w_list w_name a z)) r))

  inner_macro : (n : Name) (a : Inners) (k : ℕ) (w : Walk) (bound uses z : List ℕ) → Ready s w.at (w_inner (macro_invocation n a) z) w.n w.b bound uses
      → ((v : Walk) → Ready s v.at (w_inners a z) v.n v.b bound uses → Gathered s z (free_a a) (leftover_a a) v.n v.b v.leftover bound uses (times (argument_at k s) (count_a a) v bound uses))
      → Gathered s z [] true w.n w.b w.leftover bound uses (inner_by (combinator_at k s) (argument_at k s) s w bound uses)
  unfolding w_inner inner_by macro_by
  inner_macro n a k w bound uses z r deep =
      let rest : List ℕ = w_u16 (count_a a) (w_inners a z) in
      let v : Walk = moved w (past_at s w.at 1) in
      let q : Ready s v.at (w_name n rest) v.n v.b bound uses = after_byte (w_name n rest) r in
      let u : Walk = counted v (name_past_of s v.at) (length uses + 1) in
      let p = ready_past (w_name n) (s_name n) rest q (name_here n q.here) in
      let o = ready_past (w_u16 (count_a a)) (s_u16 (count_a a)) (w_inners a z) p (number_past (count_a a) p.here) in
      rw (byte_here r.here, many_is u bound uses (argument_at k s) (count_a a) (w_inners a z) p.here)
      (hushed true r (deep (moved u (past_at s u.at 2)) record { here = o.here; few = o.few; room = o.room; finds = o.finds; fits = omega arith }) (sym (or-true w.leftover)))

  -- a field and those after it
  fields_none : (k : ℕ) (w : Walk) (bound uses z : List ℕ) → Ready s w.at (w_fields no_field z) w.n w.b bound uses → Closed s z [] false w.n w.b w.leftover bound uses (times (field_by (combinator_at k s) s) 0 w bound uses)
  unfolding w_fields times
  fields_none k w bound uses z r = closed_none (nothing_used w.leftover r r.here)

  fields_ordinary : (l : Name) (c : Combinator) (f : Fields) (k : ℕ) (w : Walk) (bound uses z : List ℕ) → Ready s w.at (w_fields (field ordinary l c f) z) w.n w.b bound uses
      → ((v : Walk) → Ready s v.at (w_combinator c (w_fields f z)) v.n v.b bound uses → Gathered s (w_fields f z) (free c) (leftover c) v.n v.b v.leftover bound uses (combinator_at k s v bound uses)) → ((v : Walk) (b u : List ℕ) → Ready s v.at (w_fields f z) v.n v.b b u → Closed s z (free_f f) (leftover_f f) v.n v.b v.leftover b u (times (field_by (combinator_at k s) s) (count_f f) v b u)) → Closed s z (free c ++ free_f f) (leftover c || leftover_f f) w.n w.b w.leftover bound uses (times (field_by (combinator_at k s) s) (suc (count_f f)) w bound uses)
  unfolding w_fields field_byte
  fields_ordinary l c f k w bound uses z r one rest =
      let v : Walk = moved w (name_past_of s (past_at s w.at 1)) in
      let q = after_byte (w_name l (w_combinator c (w_fields f z))) r in
      let p : Ready s v.at (w_combinator c (w_fields f z)) v.n v.b bound uses = ready_past (w_name l) (s_name l) (w_combinator c (w_fields f z)) q (name_here l q.here) in
      let G : State = combinator_at k s v bound uses in
      let g = one v p in
      rw (once w bound uses (field_by (combinator_at k s) s) (count_f f), ordinary_is w bound uses (combinator_at k s) (w_name l (w_combinator c (w_fields f z))) r.here)
      (closed_then g (rest G.0 G.1 G.2 (ready_on g (w_combinator c) (s_comb c) p)))

  fields_dependent : (l : Name) (c : Combinator) (f : Fields) (k : ℕ) (w : Walk) (bound uses z : List ℕ) → Ready s w.at (w_fields (field dependent l c f) z) w.n w.b bound uses
      → ((v : Walk) → Ready s v.at (w_combinator c (w_fields f z)) v.n v.b bound uses → Gathered s (w_fields f z) (free c) (leftover c) v.n v.b v.leftover bound uses (combinator_at k s v bound uses)) → ((v : Walk) (b u : List ℕ) → Ready s v.at (w_fields f z) v.n v.b b u → Closed s z (free_f f) (leftover_f f) v.n v.b v.leftover b u (times (field_by (combinator_at k s) s) (count_f f) v b u)) → Closed s z (free c ++ remove l (free_f f)) (leftover c || leftover_f f) w.n w.b w.leftover bound uses (times (field_by (combinator_at k s) s) (suc (count_f f)) w bound uses)
  unfolding w_fields field_byte bind_by
  fields_dependent l c f k w bound uses z r one rest =
      let a : ℕ = past_at s w.at 1 in
      let v : Walk = moved w (name_past_of s a) in
      let q = after_byte (w_name l (w_combinator c (w_fields f z))) r in
      let p : Ready s v.at (w_combinator c (w_fields f z)) v.n v.b bound uses = ready_past (w_name l) (s_name l) (w_combinator c (w_fields f z)) q (name_here l q.here) in
      let G : State = combinator_at k s v bound uses in
      let g = one v p in
      let named : name_at s a ≡ l = label-stands s a l (w_combinator c (w_fields f z)) q.here.is in
      let o = ready_on g (w_combinator c) (s_comb c) p in
      let b : ℕ = G.0.b in
      let less : 4 * suc b + length (w_fields f z) ≤ length s = omega (arith, g.same, r.few, name_long l (w_combinator c (w_fields f z)), combinator_long c (w_fields f z)) in
      let near : a < 4294967296 = omega (arith, here_length q.here) in
      let few : 68 + 4 * b < 4294967296 = omega arith in
      let room : 68 + 4 * b ≤ length G.1 = omega (arith, o.room) in
      let t : List ℕ = labelled s a G.1 b in
      let u : Walk = walk G.0.at G.0.n (suc b) G.0.leftover in
      let ready : Ready s u.at (w_fields f z) u.n u.b t G.2 = record {
        here = o.here;
        few = less;
        room = omega (arith, o.room, labelled_long s a G.1 b near few room);
        finds = finds_bind s a G.1 b near few room o.finds;
        fits = o.fits;
      } in
      rw (once w bound uses (field_by (combinator_at k s) s) (count_f f), dependent_is w bound uses (combinator_at k s) (w_name l (w_combinator c (w_fields f z))) r.here, bind_is s a G.1 b near few room)
      (closed_then g (binds a G.1 near few room l named (rest u t G.2 ready)))

  fields_const : (l : Name) (x : List ℕ) (f : Fields) (k : ℕ) (w : Walk) (bound uses z : List ℕ) → Ready s w.at (w_fields (const l x f) z) w.n w.b bound uses
      → ((v : Walk) → Ready s v.at (w_fields f z) v.n v.b bound uses → Closed s z (free_f f) (leftover_f f) v.n v.b v.leftover bound uses (times (field_by (combinator_at k s) s) (count_f f) v bound uses)) → Closed s z (free_f f) (leftover_f f) w.n w.b w.leftover bound uses (times (field_by (combinator_at k s) s) (suc (count_f f)) w bound uses)
  unfolding w_fields
  fields_const l x f k w bound uses z r rest =
      let v : Walk = moved w (text_past_of s (name_past_of s (past_at s w.at 1))) in
      let q = after_byte (w_name l (w_text x (w_fields f z))) r in
      let p = ready_past (w_name l) (s_name l) (w_text x (w_fields f z)) q (name_here l q.here) in
      rw (once w bound uses (field_by (combinator_at k s) s) (count_f f), const_is w bound uses (combinator_at k s) (w_name l (w_text x (w_fields f z))) r.here)
      (rest v (ready_past (w_text x) (s_text x) (w_fields f z) p (text_here x p.here)))

  cases_none : (y : CaseKind) (k : ℕ) (w : Walk) (bound uses z : List ℕ) → Ready s w.at (w_cases no_case y z) w.n w.b bound uses → Gathered s z [] false w.n w.b w.leftover bound uses (times (case_by (combinator_at k s) s (case_byte y)) 0 w bound uses)
  unfolding w_cases times
  cases_none y k w bound uses z r = nothing_used w.leftover r r.here

  cases_one : (l : List ℕ) (c : Combinator) (f : Cases) (y : CaseKind) (k : ℕ) (w : Walk) (bound uses z : List ℕ) → Ready s w.at (w_cases (case l c f) y z) w.n w.b bound uses
      → ((v : Walk) → Ready s v.at (w_combinator c (w_cases f y z)) v.n v.b bound uses → Gathered s (w_cases f y z) (free c) (leftover c) v.n v.b v.leftover bound uses (combinator_at k s v bound uses))
      → ((v : Walk) (b u : List ℕ) → Ready s v.at (w_cases f y z) v.n v.b b u → Gathered s z (free_c f) (leftover_c f) v.n v.b v.leftover b u (times (case_by (combinator_at k s) s (case_byte y)) (count_c f) v b u))
      → Gathered s z (free c ++ free_c f) (leftover c || leftover_c f) w.n w.b w.leftover bound uses (times (case_by (combinator_at k s) s (case_byte y)) (suc (count_c f)) w bound uses)
  unfolding w_cases times case_by
  cases_one l c f y k w bound uses z r one rest =
      let v : Walk = moved w (label_past_of s w.at (case_byte y)) in
      let p : Ready s v.at (w_combinator c (w_cases f y z)) v.n v.b bound uses = ready_past (w_label y l) (s_label y l) (w_combinator c (w_cases f y z)) r (label_here y l r.here) in
      let G : State = combinator_at k s v bound uses in
      let g = one v p in
      then g (rest G.0 G.1 G.2 (ready_on g (w_combinator c) (s_comb c) p))

  arguments_none : (k : ℕ) (w : Walk) (bound uses z : List ℕ) → Ready s w.at (w_inners no_inner z) w.n w.b bound uses → Gathered s z [] false w.n w.b w.leftover bound uses (times (argument_at k s) 0 w bound uses)
  unfolding w_inners times
  arguments_none k w bound uses z r = nothing_used w.leftover r r.here

  arguments_one : (i : Inner) (a : Inners) (k : ℕ) (w : Walk) (bound uses z : List ℕ) → Ready s w.at (w_inners (inner i a) z) w.n w.b bound uses
      → Gathered s (w_inners a z) (free_i i) (leftover_i i) w.n w.b w.leftover bound uses (inner_by (combinator_at k s) (argument_at k s) s w bound uses)
      → ((v : Walk) (b u : List ℕ) → Ready s v.at (w_inners a z) v.n v.b b u → Gathered s z (free_a a) (leftover_a a) v.n v.b v.leftover b u (times (argument_at (suc k) s) (count_a a) v b u))
      → Gathered s z (free_i i ++ free_a a) (leftover_i i || leftover_a a) w.n w.b w.leftover bound uses (times (argument_at (suc k) s) (suc (count_a a)) w bound uses)
  unfolding w_inners times argument_at argument_by
  arguments_one i a k w bound uses z r g rest =
      let G : State = inner_by (combinator_at k s) (argument_at k s) s w bound uses in
      then g (rest G.0 G.1 G.2 (ready_on g (w_inner i) (s_inner i) r))

  mutual
    unfolding free leftover shell_uses unbound w_combinator levels count_f count_c count_a free_a leftover_a

    pub gather : (c : Combinator) (k : ℕ) → levels c ≤ k → (w : Walk) (bound uses z : List ℕ) → Ready s w.at (w_combinator c z) w.n w.b bound uses
        → Gathered s z (free c) (leftover c) w.n w.b w.leftover bound uses (combinator_at k s w bound uses)
    gather (plain i) zero h w bound uses z r = absurd (not-suc-le-zero h)
    gather (plain i) (suc k) h w bound uses z r = behind_plain i k w bound uses z (gather_inner i k (omega arith) w bound uses (0 ∷ z) r)
    gather (chained i c) zero h w bound uses z r = absurd (not-suc-le-zero h)
    gather (chained i c) (suc k) h w bound uses z r =
        behind_chained i c k w bound uses z r (gather_inner i k (omega arith) w bound uses (1 ∷ w_combinator c z) r)
        (λ v l m q. gather c k (omega arith) v l m z q)

    gather_inner : (i : Inner) (k : ℕ) → levels_i i ≤ k → (w : Walk) (bound uses z : List ℕ) → Ready s w.at (w_inner i z) w.n w.b bound uses
        → Gathered s z (free_i i) (leftover_i i) w.n w.b w.leftover bound uses (inner_by (combinator_at k s) (argument_at k s) s w bound uses)
    gather_inner (leaf x t) k h w bound uses z r = inner_leaf x t k w bound uses z r
    gather_inner (struct f) k h w bound uses z r =
        inner_struct f k w bound uses z r (λ v q. gather_fields f k h v bound uses z q)
    gather_inner (choice x y f) k h w bound uses z r =
        inner_choice x y f k w bound uses z r (λ v m q. gather_cases f y k h v bound m z q)
    gather_inner (shell (wrap x y) c) k h w bound uses z r =
        inner_wrap x y c k w bound uses z r (λ v q. gather c k h v bound uses (w_text y z) q)
    gather_inner (shell vec c) k h w bound uses z r =
        inner_vec c k w bound uses z r (λ v q. gather c k h v bound uses z q)
    gather_inner (shell option c) k h w bound uses z r =
        inner_option c k w bound uses z r (λ v q. gather c k h v bound uses z q)
    gather_inner (shell (array l) c) k h w bound uses z r =
        inner_array l c k w bound uses z r (λ v m q. gather c k h v bound m z q)
    gather_inner (bytes l) k h w bound uses z r = inner_bytes l k w bound uses z r
    gather_inner (invocation n a) k h w bound uses z r = inner_call n a k w bound uses z r
    gather_inner (macro_invocation n a) k h w bound uses z r =
        inner_macro n a k w bound uses z r (λ v q. gather_arguments a k h v bound uses z q)

    gather_fields : (f : Fields) (k : ℕ) → levels_f f ≤ k → (w : Walk) (bound uses z : List ℕ) → Ready s w.at (w_fields f z) w.n w.b bound uses
        → Closed s z (free_f f) (leftover_f f) w.n w.b w.leftover bound uses (times (field_by (combinator_at k s) s) (count_f f) w bound uses)
    gather_fields no_field k h w bound uses z r = fields_none k w bound uses z r
    gather_fields (field ordinary l c f) k h w bound uses z r =
        fields_ordinary l c f k w bound uses z r (λ v q. gather c k (omega arith) v bound uses (w_fields f z) q) (λ v b u q. gather_fields f k (omega arith) v b u z q)
    gather_fields (field dependent l c f) k h w bound uses z r =
        fields_dependent l c f k w bound uses z r (λ v q. gather c k (omega arith) v bound uses (w_fields f z) q) (λ v b u q. gather_fields f k (omega arith) v b u z q)
    gather_fields (const l x f) k h w bound uses z r =
        fields_const l x f k w bound uses z r (λ v q. gather_fields f k h v bound uses z q)

    gather_cases : (f : Cases) (y : CaseKind) (k : ℕ) → levels_c f ≤ k → (w : Walk) (bound uses z : List ℕ) → Ready s w.at (w_cases f y z) w.n w.b bound uses
        → Gathered s z (free_c f) (leftover_c f) w.n w.b w.leftover bound uses (times (case_by (combinator_at k s) s (case_byte y)) (count_c f) w bound uses)
    gather_cases no_case y k h w bound uses z r = cases_none y k w bound uses z r
    gather_cases (case l c f) y k h w bound uses z r =
        cases_one l c f y k w bound uses z r (λ v q. gather c k (omega arith) v bound uses (w_cases f y z) q) (λ v b u q. gather_cases f y k (omega arith) v b u z q)

    gather_arguments : (a : Inners) (k : ℕ) → levels_a a ≤ k → (w : Walk) (bound uses z : List ℕ) → Ready s w.at (w_inners a z) w.n w.b bound uses
        → Gathered s z (free_a a) (leftover_a a) w.n w.b w.leftover bound uses (times (argument_at k s) (count_a a) w bound uses)
    gather_arguments no_inner k h w bound uses z r = arguments_none k w bound uses z r
    gather_arguments (inner i a) zero h w bound uses z r = absurd (omega arith)
    gather_arguments (inner i a) (suc k) h w bound uses z r =
        arguments_one i a k w bound uses z r (gather_inner i k (omega arith) w bound uses (w_inners a z) r) (λ v b u q. gather_arguments a (suc k) (omega arith) v b u z q)
