-- The model in the code's own terms: a loop's end, and one step of it.
-- Assumes nothing.
use mathlib.Core.Path.{◌≡◌, refl, sym, ap, ◌∙◌}
use mathlib.Core.List.{List, [], ◌++◌, append_assoc, append-nil}
use mathlib.Core.Bool.{Bool, true, false, cond}
use Prim.Native.Nat.{ℕ, zero, suc, ◌+◌, ◌-◌, ◌≤◌, ◌<◌, min, max}
use native.Mathlib.Numerals.{add-one, sub-one}
use native.Mathlib.Omega.{arith}
use lib.Dec.{leb, eqb}
use lib.ListN.{get_or}
use borrow.Author.Tests.{leb-true, leb-false, eqb-true}
use Rattle.buffer.specs.writes.Buf.{part}
use Rattle.buffer.proofs.writes.Put.{part_back, part_split}
use Rattle.lift_tables.specs.tables.Rows.{row_at}
use Rattle.write_result.specs.invocation.Invocation.{call_bytes}
use Rattle.write_result.specs.splice.Model.{Tables, row, placed, goes, on_from, spliced}
use Rattle.write_result.specs.declared.tables.Row.{Row}
use Rattle.write_result.specs.tables.Numbers.{row_numbers}
use Rattle.write_result.specs.next_lift.Next.{next_of, next_lift_of}

-- a range with its calls
module _ (t : Tables) where
  over : (k n at : ℕ) → goes t (n + k) at k ≡ goes t n (at + k) 0
  unfolding goes
  over zero n at = let e : n + 0 ≡ n = omega arith in let f : at + 0 ≡ at = omega arith in rw (e, f)
  over (suc k) n at =
      let e : n + suc k ≡ suc (n + k) = omega arith in
      let f : at + suc k ≡ suc at + k = omega arith in
      rw (e, f) (over k n (suc at))

  past : (n at k : ℕ) → n ≤ k → goes t n at k ≡ []
  unfolding goes
  past zero at k h = refl
  past (suc n) at zero h = absurd (omega arith)
  past (suc n) at (suc k) h = past n (suc at) k (omega arith)

  -- leaving out a number of places, perhaps more than there are
  skip : (n at k : ℕ) → goes t n at k ≡ goes t (n - k) (at + k) 0
  skip n at k = by (leb k n) (λ e. leb-true k n e) (λ e. leb-false k n e)
    where
      by : (b : Bool) → (b ≡ true → k ≤ n) → (b ≡ false → n < k) → goes t n at k ≡ goes t (n - k) (at + k) 0
      by true f g = let h = f refl in let e : n ≡ (n - k) + k = omega arith in ap (λ (m : ℕ). goes t m at k) e ∙ over k (n - k) at
      by false f g = let h = g refl in let e : n - k ≡ 0 = omega arith in past n at k (omega arith) ∙ sym (rw e (past 0 (at + k) 0 (omega arith)))

  pub on_end : (from to : ℕ) → to ≤ from → on_from t from to ≡ []
  unfolding on_from
  on_end from to h = let e : to - from ≡ 0 = omega arith in rw e (past 0 from 0 (omega arith))

  pub on_copy : (from to : ℕ) → from < to → get_or t.number from 0 ≡ 0 → on_from t from to ≡ part from (suc from) t.book ++ on_from t (suc from) to
  unfolding on_from goes placed
  on_copy from to h e = let n : to - from ≡ suc (to - suc from) = omega arith in rw (n, e)

  pub on_call : (from to k : ℕ) → from < to → get_or t.number from 0 ≡ k → (k ≡ 0 → ⊥) → on_from t from to ≡ call_bytes (row t (k - 1)) ++ on_from t (max (row t (k - 1)).end (suc from)) to
  unfolding on_from goes placed
  on_call from to zero h e f = absurd (f refl)
  on_call from to (suc i) h e f =
      let n : to - from ≡ suc (to - suc from) = omega arith in
      let end : ℕ = (row t i).end in
      let a : (to - suc from) - (end - suc from) ≡ to - max end (suc from) = omega arith in
      let b : suc from + (end - suc from) ≡ max end (suc from) = omega arith in
      rw (sub-one, n, e) (ap (λ (l : List ℕ). call_bytes (row t i) ++ l) (skip (to - suc from) (suc from) (end - suc from) ∙ rw (a, b)))

  -- the gap grows by a place at which no lift begins
  pub gap_more : (gap p to : ℕ) → gap ≤ p → p < to → get_or t.number p 0 ≡ 0 → part gap (min p to) t.book ++ on_from t p to ≡ part gap (min (p + 1) to) t.book ++ on_from t (p + 1) to
  gap_more gap p to g h e =
      let a : min p to ≡ p = omega arith in
      let b : min (suc p) to ≡ suc p = omega arith in
      rw (add-one, a, b, on_copy p to h e, part_split gap p (suc p) t.book g (omega arith)) (sym (append_assoc (part gap p t.book) (part p (suc p) t.book) (on_from t (suc p) to)))

  -- and by all places up to the next at which one begins
  gap_of : (gap to n p : ℕ) → gap ≤ p → to - p ≡ n → part gap (min p to) t.book ++ on_from t p to ≡ part gap (min (next_of t.number n p) to) t.book ++ on_from t (next_of t.number n p) to
  unfolding next_of
  gap_of gap to zero p g e = refl
  gap_of gap to (suc n) p g e =
      of (eqb (get_or t.number p 0) 0) (λ h. rw add-one at (gap_more gap p to g (omega arith) (eqb-true (get_or t.number p 0) 0 h))) (gap_of gap to n (suc p) (omega arith) (omega arith))
    where
      From : ℕ → List ℕ
      From x = part gap (min x to) t.book ++ on_from t x to

      of : (b : Bool) → (b ≡ true → From p ≡ From (suc p)) → From (suc p) ≡ From (next_of t.number n (suc p)) → From p ≡ From (cond b (next_of t.number n (suc p)) p)
      of true f k = f refl ∙ k
      of false f k = refl

  pub gap_next : (gap p to q : ℕ) → gap ≤ p → q ≡ next_lift_of t.number p to → part gap (min p to) t.book ++ on_from t p to ≡ part gap (min q to) t.book ++ on_from t q to
  unfolding next_lift_of
  gap_next gap p to q g e = rw e (gap_of gap to (to - p) p g refl)

  -- it is written, the call behind it, and the next gap begins where the lift ends
  pub gap_call : (gap p to k : ℕ) → p < to → get_or t.number p 0 ≡ k → (k ≡ 0 → ⊥) → (r : Row) (e : ℕ) → r ≡ row_numbers t.rows (k - 1) → e ≡ max r.end (p + 1)
      → part gap (min p to) t.book ++ on_from t p to ≡ part gap p t.book ++ (call_bytes (row t (k - 1)) ++ (part e (min e to) t.book ++ on_from t e to))
  unfolding row_at
  gap_call gap p to k h e f r stop v q =
      let a : min p to ≡ p = omega arith in
      let b : stop ≡ max (row t (k - 1)).end (suc p) = q ∙ rw (v, add-one p) in
      rw (a, on_call p to k h e f, part_back stop (min stop to) t.book (omega arith), b)

  pub gap_end : (gap p to : ℕ) → to ≤ p → part gap (min p to) t.book ++ on_from t p to ≡ part gap to t.book
  gap_end gap p to h = let a : min p to ≡ to = omega arith in rw (a, on_end p to h) (append-nil (part gap to t.book))

  pub spliced_is : (from to : ℕ) → spliced t from to ≡ part from (min (from + 1) to) t.book ++ on_from t (from + 1) to
  unfolding spliced
  spliced_is from to = rw add-one
