-- Where a tree stands, the walk ends behind it, whatever the table holds.
-- Assumes nothing.
use mathlib.Core.List.{List, [], ◌∷◌}
use mathlib.Core.Path.{◌≡◌, refl}
use Prim.Native.Nat.{ℕ, zero, suc, ◌+◌, ◌≤◌}
use native.Mathlib.Omega.{arith}
use lib.ListN.{length}
use Rattle.definition.specs.Tree.{Leaf, constraint_int, constraint_enum, bits, enum, tail, nothing, never, wrap, vec, option, array, CaseKind, FieldKind, ordinary, dependent, Combinator, plain, chained, Inner, leaf, struct, choice, shell, bytes, invocation, macro_invocation, Fields, no_field, field, const, Cases, no_case, case, Inners, no_inner, inner}
use Rattle.definition.specs.Write.{w_u16, w_name, w_text, w_len, w_list, w_selector, case_byte, leaf_tag, field_byte, w_open, w_shut, count_f, count_c, count_a, w_combinator, w_inner, w_fields, w_cases, w_inners}
use Rattle.definition.specs.Size.{levels, levels_i, levels_f, levels_c, levels_a}
use Rattle.laws.proofs.Sizes.{adds, size_i}
use Rattle.laws.proofs.Splits.{s_inner}
use Rattle.laws.proofs.Levels.{few_i}
use Rattle.layout.specs.items.At.{past_at, name_past_of, text_past_of, length_past_of, selector_past_of, label_past_of}
use Rattle.layout.specs.items.Here.{Here}
use Rattle.layout.proofs.items.Here.{here_length, byte_here, next_here, number_here, number_past, name_here, text_here, list_here, len_here, selector_here, label_here}
use Rattle.walker.specs.walk.Steps.{text_or_length_of}
use Rattle.walker.specs.measure.Measure.{State, Step, times, many, field_by, field_at, wrap_by, case_by, case_at, choice_by, behind_by, inner_by, tail_by, combinator_by, argument_by, combinator_at, argument_at, inner_at}

module _ (s : List ℕ) where
  -- one step, where it is known what stands there
  many_is : (step : Step) (n p : ℕ) (t z : List ℕ) → Here s p (w_u16 n z) → many step s p t ≡ times step n (past_at s p 2) t
  unfolding many
  many_is step n p t z h = rw (number_here n z h)

  tag_is : (deep arg : Step) (p : ℕ) (t : List ℕ) (x : ℕ) (z : List ℕ) → Here s p (x ∷ z) → (inner_by deep arg s p t).0 ≡ (behind_by deep arg s x (past_at s p 1) t).0
  unfolding inner_by
  tag_is deep arg p t x z h = rw (byte_here h)

  field_is : (deep : Step) (p : ℕ) (t : List ℕ) (k : FieldKind) (z : List ℕ) → Here s p (field_byte k ∷ z) → field_by deep s p t ≡ deep (name_past_of s (past_at s p 1)) t
  unfolding field_by field_byte
  field_is deep p t ordinary z h = rw (byte_here h)
  field_is deep p t dependent z h = rw (byte_here h)

  const_is : (deep : Step) (p : ℕ) (t z : List ℕ) → Here s p (3 ∷ z) → field_by deep s p t ≡ (text_past_of s (name_past_of s (past_at s p 1)), t)
  unfolding field_by
  const_is deep p t z h = rw (byte_here h)

  tail_plain : (deep : Step) (g : State) (z : List ℕ) → Here s g.0 (0 ∷ z) → tail_by deep s g ≡ (past_at s g.0 1, g.1)
  unfolding tail_by
  tail_plain deep g z h = rw (byte_here h)

  tail_chain : (deep : Step) (g : State) (z : List ℕ) → Here s g.0 (1 ∷ z) → tail_by deep s g ≡ deep (past_at s g.0 1) g.1
  unfolding tail_by
  tail_chain deep g z h = rw (byte_here h)

  combinator_suc : (k p : ℕ) (t : List ℕ) → combinator_at (suc k) s p t ≡ tail_by (combinator_at k s) s (inner_at k s p t)
  unfolding combinator_at combinator_by
  combinator_suc k p t = refl

  argument_suc : (k p : ℕ) (t : List ℕ) → argument_at (suc k) s p t ≡ inner_at k s p t
  unfolding argument_at argument_by
  argument_suc k p t = refl

  times_zero : (step : Step) (p : ℕ) (t : List ℕ) → times step 0 p t ≡ (p, t)
  unfolding times
  times_zero step p t = refl

  times-suc : (step : Step) (n p : ℕ) (t : List ℕ) (g : State) → step p t ≡ g → times step (suc n) p t ≡ times step n g.0 g.1
  unfolding times
  times-suc step n p t g e = rw e

  leaf_over : (deep arg : Step) (l : Leaf) (p : ℕ) (t : List ℕ) → (behind_by deep arg s (leaf_tag l) p t).0 ≡ text_past_of s p
  unfolding behind_by leaf_tag text_or_length_of
  leaf_over deep arg constraint_int p t = refl
  leaf_over deep arg constraint_enum p t = refl
  leaf_over deep arg bits p t = refl
  leaf_over deep arg enum p t = refl
  leaf_over deep arg tail p t = refl
  leaf_over deep arg nothing p t = refl
  leaf_over deep arg never p t = refl

  mutual
    unfolding levels w_combinator w_open w_shut w_fields w_cases w_inners count_f count_c count_a behind_by wrap_by choice_by case_by text_or_length_of

    over : (c : Combinator) (k : ℕ) → levels c ≤ k → (p : ℕ) (t z : List ℕ) → Here s p (w_combinator c z) → Here s (combinator_at k s p t).0 z
    over (plain i) zero d p t z h = absurd (omega arith)
    over (plain i) (suc k) d p t z h =
        let e = over_i i k (omega arith) p t (0 ∷ z) h in
        rw (combinator_suc k p t, tail_plain (combinator_at k s) (inner_at k s p t) z e) (next_here e)
    over (chained i c) zero d p t z h = absurd (omega arith)
    over (chained i c) (suc k) d p t z h =
        let g = inner_at k s p t in
        let e = over_i i k (omega arith) p t (1 ∷ w_combinator c z) h in
        rw (combinator_suc k p t, tail_chain (combinator_at k s) (inner_at k s p t) (w_combinator c z) e) (over c k (omega arith) (past_at s g.0 1) g.1 z (next_here e))

    over_i : (i : Inner) (k : ℕ) → levels_i i ≤ k → (p : ℕ) (t z : List ℕ) → Here s p (w_inner i z) → Here s (inner_at k s p t).0 z
    over_i (leaf l x) k d p t z h = rw (tag_is (combinator_at k s) (argument_at k s) p t (leaf_tag l) (w_text x z) h, leaf_over (combinator_at k s) (argument_at k s) l (past_at s p 1) t) (text_here x (next_here h))
    over_i (struct f) k d p t z h =
        let a = next_here h in
        rw (tag_is (combinator_at k s) (argument_at k s) p t 4 (w_u16 (count_f f) (w_fields f z)) h, many_is (field_at k s) (count_f f) (past_at s p 1) t (w_fields f z) a)
        (over_f f k (omega arith) (past_at s (past_at s p 1) 2) t z (number_past (count_f f) a))
    over_i (choice x o f) k d p t z h =
        let a = selector_here x (next_here h) in
        let b = next_here a in
        let e = past_at s (selector_past_of s (past_at s p 1)) 1 in
        rw (tag_is (combinator_at k s) (argument_at k s) p t 7 (w_selector x (case_byte o ∷ w_u16 (count_c f) (w_cases f o z))) h, byte_here a, many_is (case_at k s (case_byte o)) (count_c f) e t (w_cases f o z) b)
        (over_c f o k (omega arith) (past_at s e 2) t z (number_past (count_c f) b))
    over_i (shell (wrap x y) c) k d p t z h =
        rw (tag_is (combinator_at k s) (argument_at k s) p t 5 (w_text x (w_combinator c (w_text y z))) h)
        (text_here y (over c k (omega arith) (text_past_of s (past_at s p 1)) t (w_text y z) (text_here x (next_here h))))
    over_i (shell vec c) k d p t z h =
        rw (tag_is (combinator_at k s) (argument_at k s) p t 8 (w_combinator c z) h) (over c k (omega arith) (past_at s p 1) t z (next_here h))
    over_i (shell option c) k d p t z h =
        rw (tag_is (combinator_at k s) (argument_at k s) p t 12 (w_combinator c z) h) (over c k (omega arith) (past_at s p 1) t z (next_here h))
    over_i (shell (array l) c) k d p t z h =
        rw (tag_is (combinator_at k s) (argument_at k s) p t 9 (w_len l (w_combinator c z)) h) (over c k (omega arith) (length_past_of s (past_at s p 1)) t z (len_here l (next_here h)))
    over_i (bytes l) k d p t z h = rw (tag_is (combinator_at k s) (argument_at k s) p t 10 (w_len l z) h) (len_here l (next_here h))
    over_i (invocation n a) k d p t z h = rw (tag_is (combinator_at k s) (argument_at k s) p t 15 (w_name n (w_list w_name a z)) h) (list_here a (name_here n (next_here h)))
    over_i (macro_invocation n a) k d p t z h =
        let b = name_here n (next_here h) in
        let e = name_past_of s (past_at s p 1) in
        rw (tag_is (combinator_at k s) (argument_at k s) p t 16 (w_name n (w_u16 (count_a a) (w_inners a z))) h, many_is (argument_at k s) (count_a a) e t (w_inners a z) b)
        (over_a a k (omega arith) (past_at s e 2) t z (number_past (count_a a) b))

    over_f : (f : Fields) (k : ℕ) → levels_f f ≤ k → (p : ℕ) (t z : List ℕ) → Here s p (w_fields f z) → Here s (times (field_at k s) (count_f f) p t).0 z
    over_f no_field k d p t z h = rw (times_zero (field_at k s) p t) h
    over_f (field o x c f) k d p t z h =
        let a = name_past_of s (past_at s p 1) in
        let g = combinator_at k s a t in
        rw (times-suc (field_at k s) (count_f f) p t g (field_is (combinator_at k s) p t o (w_name x (w_combinator c (w_fields f z))) h))
        (over_f f k (omega arith) g.0 g.1 z (over c k (omega arith) a t (w_fields f z) (name_here x (next_here h))))
    over_f (const x y f) k d p t z h =
        let a = text_past_of s (name_past_of s (past_at s p 1)) in
        rw (times-suc (field_at k s) (count_f f) p t (a, t) (const_is (combinator_at k s) p t (w_name x (w_text y (w_fields f z))) h))
        (over_f f k (omega arith) a t z (text_here y (name_here x (next_here h))))

    over_c : (f : Cases) (o : CaseKind) (k : ℕ) → levels_c f ≤ k → (p : ℕ) (t z : List ℕ) → Here s p (w_cases f o z) → Here s (times (case_at k s (case_byte o)) (count_c f) p t).0 z
    over_c no_case o k d p t z h = rw (times_zero (case_at k s (case_byte o)) p t) h
    over_c (case x c f) o k d p t z h =
        let a = label_past_of s p (case_byte o) in
        let g = combinator_at k s a t in
        rw (times-suc (case_at k s (case_byte o)) (count_c f) p t g refl) (over_c f o k (omega arith) g.0 g.1 z (over c k (omega arith) a t (w_cases f o z) (label_here o x h)))

    over_a : (f : Inners) (k : ℕ) → levels_a f ≤ k → (p : ℕ) (t z : List ℕ) → Here s p (w_inners f z) → Here s (times (argument_at k s) (count_a f) p t).0 z
    over_a no_inner k d p t z h = rw (times_zero (argument_at k s) p t) h
    over_a (inner i f) zero d p t z h = absurd (omega arith)
    over_a (inner i f) (suc k) d p t z h =
        let g = inner_at k s p t in
        rw (times-suc (argument_at (suc k) s) (count_a f) p t g (argument_suc k p t)) (over_a f (suc k) (omega arith) g.0 g.1 z (over_i i k (omega arith) p t (w_inners f z) h))

  -- with a level for each byte from there on there are enough
  pub ends_behind : (k p : ℕ) (t : List ℕ) → length s ≤ p + suc k → (i : Inner) (z : List ℕ) → Here s p (w_inner i z) → (inner_at k s p t).0 ≡ p + size_i i
  unfolding size_i
  ends_behind k p t far i z h =
      let n : length (w_inner i z) ≡ length (w_inner i []) + length z = adds (w_inner i) (s_inner i) z in
      let m : levels_i i ≤ k = omega (arith, here_length h, few_i i) in
      omega (arith, here_length h, here_length (over_i i k m p t z h))
