-- Where a tree stands that passes the test, the walk ends behind it, and else nowhere.
-- Assumes nothing.
use mathlib.Core.List.{List, ◌∷◌}
use mathlib.Core.Bool.{Bool, true, false, not, ◌&&◌}
use mathlib.Core.Path.{◌≡◌, refl}
use Prim.Native.Nat.{ℕ, zero, suc, ◌≤◌}
use native.Mathlib.Omega.{arith}
use lib.ListN.{length}
use Rattle.std.specs.Prelude.{Option, Some, None, is_some, option_and_then}
use Rattle.definition.specs.Tree.{Text, Leaf, constraint_int, constraint_enum, bits, enum, tail, nothing, never, wrap, vec, option, array, CaseKind, FieldKind, ordinary, dependent, Combinator, plain, chained, Inner, leaf, struct, choice, shell, bytes, invocation, macro_invocation, Fields, no_field, field, const, Cases, no_case, case}
use Rattle.definition.specs.Write.{w_u16, w_name, w_text, case_byte, leaf_tag, field_byte, w_open, w_shut, count_f, count_c, w_combinator, w_inner, w_fields, w_cases}
use Rattle.definition.specs.Size.{levels, levels_i, levels_f, levels_c}
use Rattle.definition.specs.Collect.{anonymous_leaf}
use Rattle.layout.specs.items.At.{past_at, name_past_of, text_past_of, selector_past_of, label_past_of}
use Rattle.layout.specs.items.Here.{Here}
use Rattle.layout.proofs.items.Here.{byte_here, next_here, number_here, number_past, name_here, text_here, list_here, len_here, selector_here, label_here}
use Rattle.walker.specs.walk.Steps.{text_or_length_of}
use Rattle.walker.proofs.ends.Ends.{inner_rest}
use Rattle.lift_book.specs.flat.Flat.{calm, calm_i, calm_f, calm_c, flat_i, flat}
use Rattle.lift_book.specs.flat.Past.{Step, times, many, wrap_by, inner_by, tail_by, combinator_by, calm_past_of, field_by, case_by, choice_by, root_by, body_past_of, flat_at}

-- by the test: behind what stood there, or nowhere
abbrev Behind : Bool → List ℕ → Option ℕ → List ℕ → Type 0
Behind true s (Some e) z = Here s e z
Behind true s None z = ⊥
Behind false s e z = e ≡ None

module _ (s : List ℕ) where
  -- single steps
  shut : (b : Bool) (e : Option ℕ) (y : Text) (z : List ℕ) → Behind b s e (w_text y z) → Behind b s (option_and_then (λ e. Some (text_past_of s e)) e) z
  shut true (Some e) y z h = text_here y h
  shut true None y z h = absurd h
  shut false e y z h = rw h

  tail_plain : (deep : Step) (b : Bool) (e : Option ℕ) (z : List ℕ) → Behind b s e (0 ∷ z) → Behind b s (option_and_then (tail_by deep s) e) z
  unfolding tail_by
  tail_plain deep true (Some e) z h = rw (byte_here h) (next_here h)
  tail_plain deep true None z h = absurd h
  tail_plain deep false e z h = rw h

  tail_chain : (deep : Step) (b d : Bool) (e : Option ℕ) (c : Combinator) (z : List ℕ) → Behind b s e (1 ∷ w_combinator c z)
      → ((a : ℕ) → Here s a (w_combinator c z) → Behind d s (deep a) z) → Behind (b && d) s (option_and_then (tail_by deep s) e) z
  unfolding tail_by
  tail_chain deep true d (Some e) c z h f = rw (byte_here h) (f _ (next_here h))
  tail_chain deep true d None c z h f = absurd h
  tail_chain deep false d e c z h f = rw h

  times-step : (step : Step) (n : ℕ) (b d : Bool) (p : ℕ) (e : Option ℕ) (l z : List ℕ) → step p ≡ e → Behind b s e l → ((q : ℕ) → Here s q l → Behind d s (times step n q) z)
      → Behind (b && d) s (times step (suc n) p) z
  unfolding times
  times-step step n true d p (Some e) l z q h f = rw q (f e h)
  times-step step n true d p None l z q h f = absurd h
  times-step step n false d p e l z q h f = rw (q, h)

  many_is : (step : Step) (n p : ℕ) (z : List ℕ) → Here s p (w_u16 n z) → many step s p ≡ times step n (past_at s p 2)
  unfolding many
  many_is step n p z h = rw (number_here n z h)

  field_is : (deep : Step) (p : ℕ) (k : FieldKind) (z : List ℕ) → Here s p (field_byte k ∷ z) → field_by deep s p ≡ deep (name_past_of s (past_at s p 1))
  unfolding field_by field_byte
  field_is deep p ordinary z h = rw (byte_here h)
  field_is deep p dependent z h = rw (byte_here h)

  const_is : (deep : Step) (p : ℕ) (z : List ℕ) → Here s p (3 ∷ z) → field_by deep s p ≡ Some (text_past_of s (name_past_of s (past_at s p 1)))
  unfolding field_by
  const_is deep p z h = rw (byte_here h)

  case_is : (deep : Step) (kind p : ℕ) → case_by deep s kind p ≡ deep (label_past_of s p kind)
  unfolding case_by
  case_is deep kind p = refl

  calm_suc : (k p : ℕ) → calm_past_of (suc k) s p ≡ option_and_then (tail_by (calm_past_of k s) s) (inner_by (calm_past_of k s) s p)
  unfolding calm_past_of combinator_by
  calm_suc k p = refl

  leaf_past : (deep : Step) (l : Leaf) (x : Text) (p : ℕ) (z : List ℕ) → Here s p (leaf_tag l ∷ w_text x z) → Behind (not (anonymous_leaf l)) s (inner_by deep s p) z
  unfolding inner_by leaf_tag anonymous_leaf text_or_length_of
  leaf_past deep constraint_int x p z h = rw (byte_here h) (text_here x (next_here h))
  leaf_past deep constraint_enum x p z h = rw (byte_here h) (text_here x (next_here h))
  leaf_past deep bits x p z h = rw (byte_here h)
  leaf_past deep enum x p z h = rw (byte_here h)
  leaf_past deep tail x p z h = rw (byte_here h) (text_here x (next_here h))
  leaf_past deep nothing x p z h = rw (byte_here h) (text_here x (next_here h))
  leaf_past deep never x p z h = rw (byte_here h) (text_here x (next_here h))

  root_leaf : (deep : Step) (l : Leaf) (p : ℕ) (z : List ℕ) → Here s p (leaf_tag l ∷ z) → root_by deep s p ≡ Some (text_past_of s (past_at s p 1))
  unfolding root_by inner_by leaf_tag text_or_length_of
  root_leaf deep constraint_int p z h = rw (byte_here h)
  root_leaf deep constraint_enum p z h = rw (byte_here h)
  root_leaf deep bits p z h = rw (byte_here h)
  root_leaf deep enum p z h = rw (byte_here h)
  root_leaf deep tail p z h = rw (byte_here h)
  root_leaf deep nothing p z h = rw (byte_here h)
  root_leaf deep never p z h = rw (byte_here h)

  leaf_root : (deep : Step) (l : Leaf) (x : Text) (p : ℕ) (z : List ℕ) → Here s p (leaf_tag l ∷ w_text x z) → Behind true s (root_by deep s p) z
  leaf_root deep l x p z h = rw (root_leaf deep l p (w_text x z) h) (text_here x (next_here h))

  module _ (small : length s ≤ 65535) where
    mutual
      unfolding calm levels w_combinator w_open w_shut inner_by wrap_by text_or_length_of

      calm_past_lem : (c : Combinator) (k : ℕ) → levels c ≤ k → k ≤ 64 → (p : ℕ) (z : List ℕ) → Here s p (w_combinator c z) → Behind (calm c) s (calm_past_of k s p) z
      calm_past_lem (plain i) zero d m p z h = absurd (omega arith)
      calm_past_lem (plain i) (suc k) d m p z h = rw (calm_suc k p) (tail_plain (calm_past_of k s) (calm_i i) (inner_by (calm_past_of k s) s p) z (calm_past_i i k (omega arith) (omega arith) p (0 ∷ z) h))
      calm_past_lem (chained i c) zero d m p z h = absurd (omega arith)
      calm_past_lem (chained i c) (suc k) d m p z h =
          let e = inner_by (calm_past_of k s) s p in
          rw (calm_suc k p)
          (tail_chain (calm_past_of k s) (calm_i i) (calm c) e c z (calm_past_i i k (omega arith) (omega arith) p (1 ∷ w_combinator c z) h)
          (λ a g. calm_past_lem c k (omega arith) (omega arith) a z g))

      calm_past_i : (i : Inner) (k : ℕ) → levels_i i ≤ k → k ≤ 64 → (p : ℕ) (z : List ℕ) → Here s p (w_inner i z) → Behind (calm_i i) s (inner_by (calm_past_of k s) s p) z
      calm_past_i (leaf l x) k d m p z h = leaf_past (calm_past_of k s) l x p z h
      calm_past_i (struct f) k d m p z h = rw (byte_here h)
      calm_past_i (choice x o f) k d m p z h = rw (byte_here h)
      calm_past_i (shell (wrap x y) c) k d m p z h =
          let a = text_past_of s (past_at s p 1) in
          rw (byte_here h) (shut (calm c) (calm_past_of k s a) y z (calm_past_lem c k (omega arith) m a (w_text y z) (text_here x (next_here h))))
      calm_past_i (shell vec c) k d m p z h = rw (byte_here h) (calm_past_lem c k (omega arith) m (past_at s p 1) z (next_here h))
      calm_past_i (shell option c) k d m p z h = rw (byte_here h) (calm_past_lem c k (omega arith) m (past_at s p 1) z (next_here h))
      calm_past_i (shell (array l) c) k d m p z h = let g = len_here l (next_here h) in rw (byte_here h) (calm_past_lem c k (omega arith) m _ z g)
      calm_past_i (bytes l) k d m p z h = let g = len_here l (next_here h) in rw (byte_here h) g
      calm_past_i (invocation n a) k d m p z h = let g = list_here a (name_here n (next_here h)) in rw (byte_here h) g
      calm_past_i (macro_invocation n a) k d m p z h =
          rw (byte_here h) (inner_rest small (macro_invocation n a) z h)

    -- the root
    flat_fields : (f : Fields) → levels_f f ≤ 63 → (p : ℕ) (z : List ℕ) → Here s p (w_fields f z) → Behind (calm_f f) s (times (field_by (calm_past_of 63 s) s) (count_f f) p) z
    unfolding calm_f levels w_fields count_f times
    flat_fields no_field d p z h = h
    flat_fields (field o x c f) d p z h =
        let a = name_past_of s (past_at s p 1) in
        times-step (field_by (calm_past_of 63 s) s) (count_f f) (calm c) (calm_f f) p (calm_past_of 63 s a) (w_fields f z) z
        (field_is (calm_past_of 63 s) p o (w_name x (w_combinator c (w_fields f z))) h)
        (calm_past_lem c 63 (omega arith) (omega arith) a (w_fields f z) (name_here x (next_here h)))
        (λ e g. flat_fields f (omega arith) e z g)
    flat_fields (const x y f) d p z h =
        let a = name_here x (next_here h) in
        times-step (field_by (calm_past_of 63 s) s) (count_f f) true (calm_f f) p (Some (text_past_of s (name_past_of s (past_at s p 1)))) (w_fields f z) z
        (const_is (calm_past_of 63 s) p (w_name x (w_text y (w_fields f z))) h)
        (text_here y a)
        (λ e g. flat_fields f (omega arith) e z g)

    flat_cases : (f : Cases) (o : CaseKind) → levels_c f ≤ 63 → (p : ℕ) (z : List ℕ) → Here s p (w_cases f o z) → Behind (calm_c f) s (times (case_by (calm_past_of 63 s) s (case_byte o)) (count_c f) p) z
    unfolding calm_c levels w_cases count_c times
    flat_cases no_case o d p z h = h
    flat_cases (case x c f) o d p z h =
        let a = label_past_of s p (case_byte o) in
        times-step (case_by (calm_past_of 63 s) s (case_byte o)) (count_c f) (calm c) (calm_c f) p (calm_past_of 63 s a) (w_cases f o z) z
        (case_is (calm_past_of 63 s) (case_byte o) p)
        (calm_past_lem c 63 (omega arith) (omega arith) a (w_cases f o z) (label_here o x h))
        (λ e g. flat_cases f o (omega arith) e z g)

    flat_root : (i : Inner) → levels_i i ≤ 63 → (p : ℕ) (z : List ℕ) → Here s p (w_inner i z) → Behind (flat_i i) s (root_by (calm_past_of 63 s) s p) z
    unfolding flat_i calm levels w_combinator w_open root_by choice_by
    flat_root (leaf l x) d p z h = leaf_root (calm_past_of 63 s) l x p z h
    flat_root (struct f) d p z h =
        let a = next_here h in
        rw (byte_here h, many_is (field_by (calm_past_of 63 s) s) (count_f f) (past_at s p 1) (w_fields f z) a)
        (flat_fields f (omega arith) (past_at s (past_at s p 1) 2) z (number_past (count_f f) a))
    flat_root (choice x o f) d p z h =
        let a = selector_here x (next_here h) in
        let b = next_here a in
        let e = past_at s (selector_past_of s (past_at s p 1)) 1 in
        rw (byte_here h, byte_here a, many_is (case_by (calm_past_of 63 s) s (case_byte o)) (count_c f) e (w_cases f o z) b)
        (flat_cases f o (omega arith) (past_at s e 2) z (number_past (count_c f) b))
    flat_root (shell (wrap x y) c) d p z h = rw (byte_here h) (calm_past_i (shell (wrap x y) c) 63 (omega arith) (omega arith) p z h)
    flat_root (shell vec c) d p z h = rw (byte_here h) (calm_past_i (shell vec c) 63 (omega arith) (omega arith) p z h)
    flat_root (shell option c) d p z h = rw (byte_here h) (calm_past_i (shell option c) 63 (omega arith) (omega arith) p z h)
    flat_root (shell (array l) c) d p z h = rw (byte_here h) (calm_past_i (shell (array l) c) 63 (omega arith) (omega arith) p z h)
    flat_root (bytes l) d p z h = rw (byte_here h) (calm_past_i (bytes l) 63 (omega arith) (omega arith) p z h)
    flat_root (invocation n a) d p z h = rw (byte_here h) (calm_past_i (invocation n a) 63 (omega arith) (omega arith) p z h)
    flat_root (macro_invocation n a) d p z h = rw (byte_here h) (calm_past_i (macro_invocation n a) 63 (omega arith) (omega arith) p z h)

    told : (b : Bool) (r : Option ℕ) (z : List ℕ) → Behind b s r z → is_some r ≡ b
    told true (Some r) z h = refl
    told true None z h = absurd h
    told false r z h = rw h

    pub flat_here : (c : Combinator) → levels c ≤ 64 → (p : ℕ) (z : List ℕ) → Here s p (w_combinator c z) → flat_at s p ≡ flat c
    unfolding flat_at body_past_of flat levels w_combinator
    flat_here (plain i) d p z h =
        let e = root_by (calm_past_of 63 s) s p in
        told (flat_i i) (option_and_then (tail_by (calm_past_of 63 s) s) e) z (tail_plain (calm_past_of 63 s) (flat_i i) e z (flat_root i (omega arith) p (0 ∷ z) h))
    flat_here (chained i c) d p z h =
        let e = root_by (calm_past_of 63 s) s p in
        told (flat_i i && calm c) (option_and_then (tail_by (calm_past_of 63 s) s) e) z
        (tail_chain (calm_past_of 63 s) (flat_i i) (calm c) e c z (flat_root i (omega arith) p (1 ∷ w_combinator c z) h)
        (λ a g. calm_past_lem c 63 (omega arith) (omega arith) a z g))
