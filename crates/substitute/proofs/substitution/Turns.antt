-- A parameter's turn.
-- Assumes nothing.
use mathlib.Core.Path.{◌≡◌, refl, sym, ap, ◌∙◌}
use mathlib.Core.Logic.{◌⊎◌, ⊎_elim}
use mathlib.Core.List.{List, []}
use mathlib.Core.Bool.{Bool, true, false, ◌&&◌}
use Prim.Native.Nat.{ℕ, ◌+◌, ◌-◌, ◌≤◌, ◌<◌, min}
use native.Mathlib.Omega.{arith}
use lib.Dec.{leb}
use Rattle.std.proofs.Common.{None, Some}
use lib.ListN.{length, take, drop}
use borrow.Author.Tests.{le-leb, lt-leb, leb-true, leb-false}
use Rattle.definition.specs.Code.{macro_growth}
use Rattle.definition.specs.Out.{refused, ◌>>=◌, given}
use Rattle.definition.specs.Tree.{Name, Combinator, Inner}
use Rattle.definition.specs.Write.{w_name, w_inner, w_combinator}
use Rattle.definition.specs.Size.{size, levels, levels_i}
use Rattle.definition.specs.Macros.{subst, limited}
use Rattle.layout.specs.items.At.{name_past_of}
use Rattle.layout.specs.items.Here.{Here}
use Rattle.layout.proofs.items.Here.{name_here}
use Rattle.layout.specs.lookup.Name.{name_at}
use Rattle.layout.proofs.lookup.Names.{stands, yes_no}
use Rattle.buffer.specs.writes.Buf.{put, part, Wrote}
use Rattle.buffer.proofs.writes.Put.{put_fits, part_written, take_written, length-put}
use Rattle.buffer.proofs.writes.Wrote.{fitted, place_fits, place_is, same_length}
use Rattle.buffer.specs.areas.First.{first}
use Rattle.buffer.proofs.areas.First.{first_long, first_kept, first-put}
use Rattle.walker.specs.declared.walk.Walk.{Walk}
use Rattle.walker.specs.walk.Steps.{walk}
use Rattle.walker.specs.calls.Walk.{combinator_at, skip_at}
use Rattle.walker.specs.calls.Walked.{Gone, Skipped}
use Rattle.walker.specs.pieces.Pieces.{pieces, places}
use Rattle.laws.proofs.Splits.{s_comb}
use Rattle.walker.proofs.calls.Link.{gone, skipped}
use Rattle.walker.proofs.pieces.Marked.{part_here}
use Rattle.walker.proofs.pieces.Deeper.{deeper}
use Rattle.substitute.specs.declared.substitution.Turn.{Turn}
use Rattle.substitute.specs.substitution.Substituted.{substituted}
use Rattle.substitute.specs.substitution.Turned.{Areas, Holds, marks_of, limited_by, Went, Turned}
use Rattle.substitute.proofs.substitution.Stands.{inner_here}
use Rattle.substitute.proofs.substitution.Subst.{substitution}

-- what was written at the front stands there
pub front_here : (a : List ℕ) (c : Combinator) → size c ≤ length a → Here (put a 0 (w_combinator c [])) 0 (w_combinator c (drop (size c) a))
unfolding size
front_here a c h =
    let z : 0 + length (w_combinator c []) ≡ length (w_combinator c []) = omega arith in
    record { is = put_fits a 0 (w_combinator c []) (omega arith) ∙ rw z (sym (s_comb c [] (drop (length (w_combinator c [])) a))); reach = omega arith }

pub long_size : (d : Combinator) → length (w_combinator d []) ≡ size d
unfolding size
long_size d = refl

pub from_zero : (n : ℕ) → n ≡ 0 + n
from_zero n = omega arith

module _ (d : Combinator) where
  pub over_size : 16384 < size d → limited d ≡ refused macro_growth
  unfolding limited
  over_size h = rw (lt-leb (size d) 16384 h)

  within_size : size d ≤ 16384 → limited d ≡ given (leb (levels d) 64) macro_growth d
  unfolding limited
  within_size h = rw (le-leb (size d) 16384 h)

  -- more marks than the row has room for
  crowded : (k : ℕ) → k < marks_of d → limited_by k d ≡ refused macro_growth
  unfolding limited limited_by
  crowded k h = of (leb (size d) 16384 && leb (levels d) 64)
    where
      of : (b : Bool) → (given b macro_growth d >>= λ e. given (leb (marks_of e) k) macro_growth e) ≡ refused macro_growth
      of true = rw (lt-leb (marks_of d) k h)
      of false = refl

  -- no more than it has room for
  pub roomy : (k : ℕ) → marks_of d ≤ k → limited_by k d ≡ limited d
  unfolding limited limited_by
  roomy k h = of (leb (size d) 16384 && leb (levels d) 64)
    where
      of : (b : Bool) → (given b macro_growth d >>= λ e. given (leb (marks_of e) k) macro_growth e) ≡ given b macro_growth d
      of true = rw (le-leb (marks_of d) k h)
      of false = refl

  -- a limit that is passed is passed by any row
  pub cut_by : (k : ℕ) → limited d ≡ refused macro_growth → limited_by k d ≡ refused macro_growth
  unfolding limited_by
  cut_by k e = rw e

-- a combinator that was written at the front of a, and walked over
module _ (d : Combinator) (dd : levels d ≤ 127) (fits : size d ≤ 16384) (a m : List ℕ) {a₁ m₂ : List ℕ} (la : length a ≡ 16384) (w : Walk) (ha : a₁ ≡ put a 0 (w_combinator d []))
    (hw : w ≡ (combinator_at 129 a₁ (walk 0 0 129 true) m).0) (hm₂ : m₂ ≡ (combinator_at 129 a₁ (walk 0 0 129 true) m).1) where
  front : Here a₁ 0 (w_combinator d (drop (size d) a))
  front = rw ha (front_here a d (omega arith))

  pub over_made : Gone a₁ d 129 (drop (size d) a) (walk 0 0 129 true) m w m₂
  over_made = rw (hw, hm₂) (gone a₁ (omega (arith, length-put a 0 (w_combinator d []), ap length ha)) d 129 (omega arith) (walk 0 0 129 true) m (drop (size d) a) front (omega arith))

  -- the count tells whether the row has room for its marks
  pub marks_fit : w.n ≤ length m → marks_of d ≤ length m
  marks_fit h = omega (arith, fitted over_made.wrote h)

  pub marks_cut : length m < w.n → length m < marks_of d
  marks_cut h = omega (arith, place_is over_made.wrote)

  pub holds : levels d ≤ 64 → w.n ≤ length m → Holds a₁ m₂ w.at w.n d
  holds h k = record {
    rest = drop (size d) a;
    here = front;
    end = over_made.place ∙ sym (from_zero (size d));
    marked = rw (place_fits over_made.wrote (fitted over_made.wrote k), over_made.wrote.holds) (take_written m 0 (places 0 (pieces d [])) (fitted over_made.wrote k));
    deep = h;
  }

-- the test of the levels: of 129 at least 65 are left
deep_test : (n l : ℕ) → l ≡ min 129 (129 - n) → leb 65 l ≡ leb n 64
deep_test n l e = ⊎_elim (λ (h : leb n 64 ≡ true). rw h (le-leb 65 l (omega (arith, leb-true n 64 h)))) (λ (h : leb n 64 ≡ false). rw h (lt-leb 65 l (omega (arith, leb-false n 64 h)))) (yes_no (leb n 64))

module _ {macros book areas marks : List ℕ} (t : Turn) where
  module _ (ar : Areas macros book areas) (p : Name) (x : Inner) (c : Combinator) (z y : List ℕ)
      (hp : Here macros t.param (w_name p z)) (hx : Here book t.arg (w_inner x y)) (dx : levels_i x ≤ 63) (hc : Holds (first areas) marks t.len t.n c) where
    over_arg : Skipped book x 64 y (walk t.arg 0 64 true) marks (skip_at 64 book (walk t.arg 0 64 true) marks).0 (skip_at 64 book (walk t.arg 0 64 true) marks).1
    over_arg = skipped book (omega (arith, ar.book_short)) x 64 (omega arith) (walk t.arg 0 64 true) marks y hx

    bytes_are : {nm bt fm : List ℕ} (u : Walk) (m : List ℕ) → u ≡ (skip_at 64 book (walk t.arg 0 64 true) marks).0 → m ≡ (skip_at 64 book (walk t.arg 0 64 true) marks).1
        → nm ≡ name_at macros t.param → bt ≡ part t.arg u.at book → fm ≡ take t.n m → substituted (first areas) nm bt t.len fm 0 ≡ w_combinator (subst c p x) []
    bytes_are u m hu hm e f g =
        rw (e, f, g, hu, hm, over_arg.place, over_arg.marks, stands macros t.param p z hp.is, part_here (w_inner x []) y (inner_here x y hx), hc.marked)
        (substitution (first areas) p x t.len c 0 hc.rest hc.here (hc.end ∙ from_zero (size c)))

    -- the combinator d that was made in the second area, and copied back to the first
    module _ (d : Combinator) (dd : levels d ≤ 127) (a₁ m : List ℕ) (w : Walk) (m₂ : List ℕ) (fits : size d ≤ 16384) (ha : a₁ ≡ put (first areas) 0 (w_combinator d [])) (hm : m ≡ marks)
        (hw : w ≡ (combinator_at 129 a₁ (walk 0 0 129 true) m).0) (hm₂ : m₂ ≡ (combinator_at 129 a₁ (walk 0 0 129 true) m).1) where
      deep_of : leb 65 w.left ≡ leb (levels d) 64
      deep_of = deep_test (levels d) w.left (over_made d dd fits (first areas) m (first_long areas ar.areas_long) w ha hw hm₂).deep

      room_of : w.n ≤ length m → limited_by (length marks) d ≡ limited d
      room_of few =
          let lm = ap length hm in
          roomy d (length marks) (omega (arith, marks_fit d dd fits (first areas) m (first_long areas ar.areas_long) w ha hw hm₂ few))

      -- the tests tell what `limited_by` says
      went : w.n ≤ length m → 65 ≤ w.left → (r : Turn) → r.len ≡ w.at → r.n ≡ w.n → Here macros r.param z → Here book r.arg y → Went macros book a₁ m₂ (Some r) z y (limited_by (length marks) d)
      went few h r e₂ e₃ g₁ g₂ =
          let q : leb (levels d) 64 ≡ true = sym deep_of ∙ le-leb 65 w.left h in
          rw (room_of few, within_size d fits, q) (g₁, g₂, rw (e₂, e₃) (holds d dd fits (first areas) m (first_long areas ar.areas_long) w ha hw hm₂ (leb-true (levels d) 64 q) few))

      stuck : (length m < w.n) ⊎ ((w.n ≤ length m) × (w.left < 65)) → Went macros book a₁ m₂ None z y (limited_by (length marks) d)
      stuck = ⊎_elim
          (λ (many : length m < w.n).
          let lm = ap length hm in
          rw (crowded d (length marks) (omega (arith, marks_cut d dd fits (first areas) m (first_long areas ar.areas_long) w ha hw hm₂ many))) refl)
          (λ (k : (w.n ≤ length m) × (w.left < 65)).
          let q : leb (levels d) 64 ≡ false = sym deep_of ∙ lt-leb 65 w.left k.1 in
          rw (room_of k.0, within_size d fits, q) refl)

  module _ (u : Walk) (m : List ℕ) (hu : u ≡ (skip_at 64 book (walk t.arg 0 64 true) marks).0) (hm : m ≡ (skip_at 64 book (walk t.arg 0 64 true) marks).1)
      {nm bt fm made : List ℕ} {o : ℕ} (e : nm ≡ name_at macros t.param) (f : bt ≡ part t.arg u.at book) (g : fm ≡ take t.n m)
      (wb : Wrote areas 16384 (substituted (first areas) nm bt t.len fm 0) made o) where
    pub turned_cut : length areas < o → (a' m' : List ℕ) → Turned macros book areas marks t a' m' None
    turned_cut k a' m' = record {
      says = λ ar p x c z y hp hx dx hc.
          let v = ap length (sym (bytes_are ar p x c z y hp hx dx hc u m hu hm e f g)) in
          rw (cut_by (subst c p x) (length marks) (over_size (subst c p x) (omega (arith, place_is wb, ar.areas_long, long_size (subst c p x))))) refl;
    }

    module _ (k : o ≤ length areas) {areas' m₂ : List ℕ} (wa : areas' ≡ put made 0 (part 16384 o made)) (w : Walk) (hw : w ≡ (combinator_at 129 (first areas') (walk 0 0 129 true) m).0)
        (hm₂ : m₂ ≡ (combinator_at 129 (first areas') (walk 0 0 129 true) m).1) where
      -- what stands in the first area then
      module _ (ar : Areas macros book areas) (p : Name) (x : Inner) (c : Combinator) (z y : List ℕ) (hp : Here macros t.param (w_name p z)) (hx : Here book t.arg (w_inner x y)) (dx : levels_i x ≤ 63)
          (hc : Holds (first areas) marks t.len t.n c) where
        made_is : substituted (first areas) nm bt t.len fm 0 ≡ w_combinator (subst c p x) []
        made_is = bytes_are ar p x c z y hp hx dx hc u m hu hm e f g

        made_fits : 16384 + length (w_combinator (subst c p x) []) ≤ length areas
        made_fits = omega (arith, fitted wb k, ap length made_is)

        made_first : first areas' ≡ put (first areas) 0 (w_combinator (subst c p x) [])
        made_first =
            let d = subst c p x in
            let oo : o ≡ 16384 + length (w_combinator d []) = omega (arith, place_is wb, ap length made_is, made_fits) in
            let back : part 16384 o made ≡ w_combinator d [] = rw (oo, wb.holds, made_is) (part_written areas 16384 (w_combinator d []) made_fits) in
            let whole : areas' ≡ put made 0 (w_combinator d []) = wa ∙ rw back in
            ap first whole ∙ first-put made (w_combinator d []) (omega (arith, ar.areas_long, made_fits)) (omega (arith, same_length wb, made_fits)) ∙ rw (first_kept wb (omega arith))

      pub turned_whole : w.n ≤ length m → 65 ≤ w.left → (r : Turn) → r.param ≡ name_past_of macros t.param → r.arg ≡ u.at → r.len ≡ w.at → r.n ≡ w.n → Turned macros book areas marks t areas' m₂ (Some r)
      turned_whole few h r r₁ r₂ r₃ r₄ = record {
        says = λ ar p x c z y hp hx dx hc.
            let d = subst c p x in
            let sk = over_arg ar p x c z y hp hx dx hc in
            went ar p x c z y hp hx dx hc d (omega (arith, deeper p x c, hc.deep)) (first areas') m w m₂ (omega (arith, long_size d, ar.areas_long, made_fits ar p x c z y hp hx dx hc)) (made_first ar p x c z y hp hx dx hc) (hm ∙ sk.marks) hw hm₂
            few h r r₃ r₄ (rw r₁ (name_here p hp)) (rw (r₂, hu) sk.rest);
      }

      pub turned_over : (length m < w.n) ⊎ ((w.n ≤ length m) × (w.left < 65)) → Turned macros book areas marks t areas' m₂ None
      turned_over over = record {
        says = λ ar p x c z y hp hx dx hc.
            let d = subst c p x in
            let sk = over_arg ar p x c z y hp hx dx hc in
            stuck ar p x c z y hp hx dx hc d (omega (arith, deeper p x c, hc.deep)) (first areas') m w m₂ (omega (arith, long_size d, ar.areas_long, made_fits ar p x c z y hp hx dx hc)) (made_first ar p x c z y hp hx dx hc) (hm ∙ sk.marks) hw hm₂ over;
      }
