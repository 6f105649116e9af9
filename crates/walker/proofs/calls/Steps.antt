-- One step of the walk, where it is known what stands at its place.
-- Assumes nothing.
use mathlib.Core.List.{List, ◌∷◌}
use mathlib.Core.Bool.{Bool, true, false, ◌&&◌, and-true, and-false}
use mathlib.Core.Path.{◌≡◌, refl}
use Prim.Native.Nat.{ℕ, suc}
use Rattle.definition.specs.Tree.{Leaf, constraint_int, constraint_enum, bits, enum, tail, nothing, never, Selector, CaseKind, FieldKind, ordinary, dependent}
use Rattle.definition.specs.Write.{w_u16, w_selector, case_byte, leaf_tag, field_byte}
use Rattle.layout.specs.items.At.{byte_at, past_at, name_past_of, text_past_of, length_past_of, selector_past_of, stands_on_of}
use Rattle.layout.specs.items.Here.{Here}
use Rattle.layout.proofs.items.Here.{byte_here, number_here, selector_here}
use Rattle.walker.specs.declared.walk.Walk.{Walk}
use Rattle.walker.specs.marks.Steps.{State, call_at}
use Rattle.walker.specs.walk.Steps.{walk, moved, entered, chained_to_of, text_or_length_of}
use Rattle.walker.specs.calls.Walk.{Step, times, many, field_by, wrap_by, case_by, choice_by, array_by, macro_by, inner_by, tail_by, combinator_by, argument_by, combinator_at, argument_at, inner_at}

module _ (s : List ℕ) (w : Walk) (m : List ℕ) where
  pub many_is : (step : Step) (n : ℕ) (z : List ℕ) → Here s w.at (w_u16 n z) → many step s w m ≡ times step n (moved w (past_at s w.at 2)) m
  unfolding many
  many_is step n z h = rw (number_here n z h)

  module _ (deep : Step) where
    pub field_is : (k : FieldKind) (z : List ℕ) → Here s w.at (field_byte k ∷ z) → field_by deep s w m ≡ deep (moved w (name_past_of s (past_at s w.at 1))) m
    unfolding field_by field_byte
    field_is ordinary z h = rw (byte_here h)
    field_is dependent z h = rw (byte_here h)

    pub const_is : (z : List ℕ) → Here s w.at (3 ∷ z) → field_by deep s w m ≡ (moved w (text_past_of s (name_past_of s (past_at s w.at 1))), m)
    unfolding field_by
    const_is z h = rw (byte_here h)

    pub choice_is : (x : Selector) (k : CaseKind) (z : List ℕ) → Here s w.at (w_selector x (case_byte k ∷ z))
        → choice_by deep s w m ≡ many (case_by deep s (case_byte k)) s (moved w (past_at s (selector_past_of s w.at) 1)) m
    unfolding choice_by
    choice_is x k z h = rw (byte_here (selector_here x h))

    module _ (arg : Step) (k : ℕ) where
      -- behind the tag
      abbrev pub v : Walk
      v = entered w (past_at s w.at 1) k

      pub inner_4 : (z : List ℕ) → Here s w.at (4 ∷ z) → inner_by k deep arg s w m ≡ many (field_by deep s) s v m
      unfolding inner_by
      inner_4 z h = rw (byte_here h)

      pub inner_5 : (z : List ℕ) → Here s w.at (5 ∷ z) → inner_by k deep arg s w m ≡ wrap_by deep s v m
      unfolding inner_by
      inner_5 z h = rw (byte_here h)

      pub inner_7 : (z : List ℕ) → Here s w.at (7 ∷ z) → inner_by k deep arg s w m ≡ choice_by deep s v m
      unfolding inner_by
      inner_7 z h = rw (byte_here h)

      pub inner_8 : (z : List ℕ) → Here s w.at (8 ∷ z) → inner_by k deep arg s w m ≡ deep v m
      unfolding inner_by
      inner_8 z h = rw (byte_here h)

      pub inner_9 : (z : List ℕ) → Here s w.at (9 ∷ z) → inner_by k deep arg s w m ≡ array_by deep s v m
      unfolding inner_by
      inner_9 z h = rw (byte_here h)

      pub inner_10 : (z : List ℕ) → Here s w.at (10 ∷ z) → inner_by k deep arg s w m ≡ (moved v (length_past_of s (past_at s w.at 1)), m)
      unfolding inner_by text_or_length_of
      inner_10 z h = rw (byte_here h)

      pub inner_12 : (z : List ℕ) → Here s w.at (12 ∷ z) → inner_by k deep arg s w m ≡ deep v m
      unfolding inner_by
      inner_12 z h = rw (byte_here h)

      pub inner_15 : (z : List ℕ) → Here s w.at (15 ∷ z) → inner_by k deep arg s w m ≡ call_at s v w.at m
      unfolding inner_by
      inner_15 z h = rw (byte_here h)

      pub inner_16 : (z : List ℕ) → Here s w.at (16 ∷ z) → inner_by k deep arg s w m ≡ macro_by arg s w.at v m
      unfolding inner_by
      inner_16 z h = rw (byte_here h)

      pub inner_leaf : (l : Leaf) (z : List ℕ) → Here s w.at (leaf_tag l ∷ z) → inner_by k deep arg s w m ≡ (moved v (text_past_of s (past_at s w.at 1)), m)
      unfolding inner_by text_or_length_of leaf_tag
      inner_leaf constraint_int z h = rw (byte_here h)
      inner_leaf constraint_enum z h = rw (byte_here h)
      inner_leaf bits z h = rw (byte_here h)
      inner_leaf enum z h = rw (byte_here h)
      inner_leaf tail z h = rw (byte_here h)
      inner_leaf nothing z h = rw (byte_here h)
      inner_leaf never z h = rw (byte_here h)

-- the flag of a chain
pub chained_is : (w : Walk) (tag : ℕ) (b : Bool) → stands_on_of tag ≡ b → chained_to_of w tag ≡ walk w.at w.n w.left (w.plain && b)
unfolding chained_to_of
chained_is w tag true e = rw (e, and-true w.plain)
chained_is w tag false e = rw (e, and-false w.plain)

module _ (deep : Step) (s : List ℕ) (tag : ℕ) (g : State) (z : List ℕ) where
  pub tail_plain : Here s g.0.at (0 ∷ z) → tail_by deep s tag g ≡ (moved g.0 (past_at s g.0.at 1), g.1)
  unfolding tail_by
  tail_plain h = rw (byte_here h)

  pub tail_chain : Here s g.0.at (1 ∷ z) → tail_by deep s tag g ≡ deep (chained_to_of (moved g.0 (past_at s g.0.at 1)) tag) g.1
  unfolding tail_by
  tail_chain h = rw (byte_here h)

module _ (k : ℕ) (s : List ℕ) (w : Walk) (m : List ℕ) where
  pub combinator_suc : combinator_at (suc k) s w m ≡ tail_by (combinator_at k s) s (byte_at s w.at) (inner_at k s w m)
  unfolding combinator_at combinator_by
  combinator_suc = refl

  pub argument_suc : argument_at (suc k) s w m ≡ inner_at k s w m
  unfolding argument_at argument_by
  argument_suc = refl

module _ (step : Step) (w : Walk) (m : List ℕ) where
  pub times_zero : times step 0 w m ≡ (w, m)
  unfolding times
  times_zero = refl

  pub times-suc : (n : ℕ) (g : State) → step w m ≡ g → times step (suc n) w m ≡ times step n g.0 g.1
  unfolding times
  times-suc n g e = rw e
