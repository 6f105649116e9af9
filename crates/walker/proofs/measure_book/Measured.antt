-- The walk leaves a right table right: each end that it keeps is right by itself, as there are more levels left than any inner there can have.
-- Assumes nothing.
use mathlib.Core.List.{List}
use mathlib.Core.Bool.{Bool, true, false}
use mathlib.Core.Path.{◌≡◌, refl}
use Prim.Native.Nat.{ℕ, zero, suc, ◌+◌, ◌≤◌, ◌<◌}
use native.Mathlib.Omega.{arith}
use lib.Dec.{eqb, leb}
use lib.ListN.{length, get_or, set}
use lib.Seq.{get_or-set_same, get_or-set_other}
use borrow.Author.Tests.{eqb-true, eqb-false, leb-false}
use Rattle.definition.specs.Tree.{Inner}
use Rattle.definition.specs.Write.{w_inner}
use Rattle.laws.proofs.Sizes.{size_i}
use Rattle.layout.specs.items.At.{byte_at, past_at, number_at, name_past_of, text_past_of, names_past_of, list_past_of, length_past_of, selector_past_of, label_past_of, pick}
use Rattle.layout.specs.items.Here.{Here}
use Rattle.walker.specs.walk.Steps.{text_or_length_of}
use Rattle.walker.specs.ends.Ends.{Right}
use Rattle.walker.specs.measure.Measure.{State, Step, kept, times, many, field_by, wrap_by, case_by, choice_by, behind_by, inner_by, tail_by, combinator_by, argument_by, combinator_at, argument_at, inner_at}
use Rattle.walker.specs.measure_book.Measure.{param_at, format_at, entry_at, entry_step, measured_book}
use Rattle.walker.proofs.measure_book.Stands.{ends_behind}

-- one end kept
module _ {s t : List ℕ} {at end : ℕ} (r : Right s t) (e : (i : Inner) (z : List ℕ) → Here s at (w_inner i z) → end ≡ at + size_i i) where
  set_right : at < length t → Right s (set t at end)
  set_right l = record { right = λ p i z h g. by (eqb p at) p i z refl h g }
    where
      by : (b : Bool) (p : ℕ) (i : Inner) (z : List ℕ) → eqb p at ≡ b → Here s p (w_inner i z) → 0 < get_or (set t at end) p 0 → get_or (set t at end) p 0 ≡ p + size_i i
      by true p i z q h g = let x = eqb-true p at q in rw (x, get_or-set_same t at end 0 l) (e i z (rw x at h))
      by false p i z q h g =
          let x : get_or (set t at end) p 0 ≡ get_or t p 0 = get_or-set_other t at p end 0 (eqb-false p at q) in
          rw x (r.right p i z h (rw x at g))

  kept_right : Right s (kept t at end)
  unfolding kept
  kept_right = by (leb (length t) at) (leb 65536 end) refl
    where
      by : (a b : Bool) → leb (length t) at ≡ a → Right s (pick a t (pick b t (set t at end)))
      by true b q = r
      by false true q = r
      by false false q = set_right (leb-false (length t) at q)

module _ (s : List ℕ) where
  -- so many levels from a place on are one for each byte; and the table is right
  abbrev Far : ℕ → ℕ → Type 0
  Far k p = length s ≤ p + k

  record Good (k : ℕ) (g : State) : Type 0 where
    far : Far k g.0
    right : Right s g.1

  abbrev Keeps : ℕ → ℕ → Step → Type 0
  Keeps j k step = (p : ℕ) (t : List ℕ) → Far j p → Right s t → Good k (step p t)

  either : {k : ℕ} {f g : State} (b : Bool) → Good k f → Good k g → Good k (pick b f g)
  either true x y = x
  either false x y = y

  -- places
  module _ (k : ℕ) where
    far_past : (p n : ℕ) → Far k p → Far k (past_at s p n)
    unfolding past_at
    far_past p n h = omega arith

    far_tag : (p : ℕ) → Far (suc k) p → Far k (past_at s p 1)
    unfolding past_at
    far_tag p h = omega arith

    far_name : (p : ℕ) → Far k p → Far k (name_past_of s p)
    unfolding name_past_of
    far_name p h = far_past (past_at s p 1) (byte_at s p) (far_past p 1 h)

    far_text : (p : ℕ) → Far k p → Far k (text_past_of s p)
    unfolding text_past_of
    far_text p h = far_past (past_at s p 2) (number_at s p) (far_past p 2 h)

    far_names : (n p : ℕ) → Far k p → Far k (names_past_of s n p)
    unfolding names_past_of
    far_names zero p h = h
    far_names (suc n) p h = far_names n (name_past_of s p) (far_name p h)

    far_list : (p : ℕ) → Far k p → Far k (list_past_of s p)
    unfolding list_past_of
    far_list p h = far_names (number_at s p) (past_at s p 2) (far_past p 2 h)

    far_length : (p : ℕ) → Far k p → Far k (length_past_of s p)
    unfolding length_past_of
    far_length p h = far_text (list_past_of s p) (far_list p h)

    far_pick : (b : Bool) (p q : ℕ) → Far k p → Far k q → Far k (pick b p q)
    far_pick true p q h g = h
    far_pick false p q h g = g

    far_selector : (p : ℕ) → Far k p → Far k (selector_past_of s p)
    unfolding selector_past_of
    far_selector p h = let a = far_past p 1 h in far_pick (eqb (byte_at s p) 1) (name_past_of s (past_at s p 1)) (past_at s p 1) (far_name (past_at s p 1) a) a

    far_label : (p kind : ℕ) → Far k p → Far k (label_past_of s p kind)
    unfolding label_past_of
    far_label p kind h = far_pick (eqb kind 1) (name_past_of s p) (text_past_of s p) (far_name p h) (far_text p h)

    -- steps
    keeps_times : (step : Step) → Keeps k k step → (n : ℕ) → Keeps k k (times step n)
    unfolding times
    keeps_times step e zero p t h r = record { far = h; right = r }
    keeps_times step e (suc n) p t h r = let g = e p t h r in keeps_times step e n (step p t).0 (step p t).1 g.far g.right

    keeps_many : (step : Step) → Keeps k k step → Keeps k k (many step s)
    unfolding many
    keeps_many step e p t h r = keeps_times step e (number_at s p) (past_at s p 2) t (far_past p 2 h) r

    module _ (deep : Step) (d : Keeps k k deep) where
      keeps_field : Keeps k k (field_by deep s)
      unfolding field_by
      keeps_field p t h r =
          let b = far_name (past_at s p 1) (far_past p 1 h) in
          either (eqb (byte_at s p) 3) (record { far = far_text (name_past_of s (past_at s p 1)) b; right = r }) (d (name_past_of s (past_at s p 1)) t b r)

      keeps_wrap : Keeps k k (wrap_by deep s)
      unfolding wrap_by
      keeps_wrap p t h r = let g = d (text_past_of s p) t (far_text p h) r in record { far = far_text (deep (text_past_of s p) t).0 g.far; right = g.right }

      keeps_choice : Keeps k k (choice_by deep s)
      unfolding choice_by case_by
      keeps_choice p t h r =
          let b = selector_past_of s p in
          keeps_many (case_by deep s (byte_at s b)) (λ q u x y. d (label_past_of s q (byte_at s b)) u (far_label q (byte_at s b) x) y) (past_at s b 1) t (far_past b 1 (far_selector p h)) r

      keeps_tail : (g : State) → Good k g → Good k (tail_by deep s g)
      unfolding tail_by
      keeps_tail g x =
          let b = far_past g.0 1 x.far in
          either (eqb (byte_at s g.0) 1) (d (past_at s g.0 1) g.1 b x.right) (record { far = b; right = x.right })

      keeps_behind : (arg : Step) → Keeps k k arg → (tag : ℕ) → Keeps k k (behind_by deep arg s tag)
      unfolding behind_by text_or_length_of
      keeps_behind arg a tag p t h r =
          let n = far_name p h in
          either (eqb tag 4) (keeps_many (field_by deep s) keeps_field p t h r)
          (either (eqb tag 5) (keeps_wrap p t h r)
          (either (eqb tag 7) (keeps_choice p t h r)
          (either (eqb tag 8) (d p t h r)
          (either (eqb tag 9) (d (length_past_of s p) t (far_length p h) r)
          (either (eqb tag 12) (d p t h r)
          (either (eqb tag 15) (record { far = far_list (name_past_of s p) n; right = r })
          (either (eqb tag 16) (keeps_many arg a (name_past_of s p) t n r)
          (record { far = far_pick (eqb tag 10) (length_past_of s p) (text_past_of s p) (far_length p h) (far_text p h); right = r }))))))))

  -- the levels
  module _ (k : ℕ) (d : Keeps k k (combinator_at k s)) (a : Keeps k k (argument_at k s)) where
    keeps_inner : Keeps (suc k) k (inner_at k s)
    unfolding inner_by
    keeps_inner p t h r =
        let g = keeps_behind k (combinator_at k s) d (argument_at k s) a (byte_at s p) (past_at s p 1) t (far_tag k p h) r in
        record { far = g.far; right = kept_right g.right (λ i z e. ends_behind s k p t h i z e) }

  wider : {k : ℕ} {g : State} → Good k g → Good (suc k) g
  wider x = record { far = omega (arith, x.far); right = x.right }

  keeps : (k : ℕ) → Keeps k k (combinator_at k s) × Keeps k k (argument_at k s)
  unfolding combinator_at combinator_by argument_by
  keeps zero = (λ p t h r. record { far = h; right = r }, λ p t h r. record { far = h; right = r })
  keeps (suc k) =
      let e = keeps k in (
        λ p t h r. wider (keeps_tail k (combinator_at k s) e.0 (inner_at k s p t) (keeps_inner k e.0 e.1 p t h r)),
        λ p t h r. wider (keeps_inner k e.0 e.1 p t h r),
      )

  -- the book: as many levels as it has bytes are enough from any place
  all_far : (p : ℕ) → Far (length s) p
  all_far p = omega arith

  keeps_param : Keeps (length s) (length s) (param_at s)
  unfolding param_at
  keeps_param p t h r = let e = keeps (length s) in record { far = all_far (param_at s p t).0; right = (keeps_inner (length s) e.0 e.1 (name_past_of s p) t (omega arith) r).right }

  format_right : (at : ℕ) (t : List ℕ) → Right s t → Right s (format_at s at t)
  unfolding format_at
  format_right at t r =
      let a = name_past_of s at in
      let g = many (param_at s) s a t in
      ((keeps (length s)).0 g.0 g.1 (all_far g.0) (keeps_many (length s) (param_at s) keeps_param a t (all_far a) r).right).right

  keeps_entry : Keeps (length s) (length s) (entry_step s)
  unfolding entry_step entry_at
  keeps_entry p t h r = record { far = all_far (past_at s p 6); right = by (eqb (byte_at s p) 1) }
    where
      by : (b : Bool) → Right s (pick b (format_at s (number_at s (past_at s p 2)) t) t)
      by true = format_right (number_at s (past_at s p 2)) t r
      by false = r

  pub measured_right : (t : List ℕ) → Right s t → Right s (measured_book s t)
  unfolding measured_book
  measured_right t r = (keeps_many (length s) (entry_step s) keeps_entry 0 t (all_far 0) r).right
