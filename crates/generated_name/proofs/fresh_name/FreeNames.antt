-- The first free number, and what is tried on the way to it.
-- Assumes nothing.
use mathlib.Core.Path.{◌≡◌, refl, sym, ap, ◌∙◌, subst}
use mathlib.Core.Logic.{⊎_elim}
use mathlib.Core.List.{List, ◌∷◌}
use mathlib.Core.Bool.{Bool, true, false, not}
use Prim.Native.Nat.{ℕ, zero, suc, ◌+◌, ◌/◌, ◌≤◌, ◌<◌}
use native.Mathlib.Omega.{arith}
use native.Mathlib.Nat.{eq-or-lt_of_le, le_refl}
use Rattle.std.specs.Prelude.{Option, is_some}
use lib.ListN.{length, take, length-append, length-take}
use lib.Seq.{take-nil, take_all}
use Rattle.definition.specs.Tree.{Name}
use Rattle.definition.specs.Names.{elem, decimal, child, numbered, first_free, fresh}
use Rattle.buffer.specs.writes.Buf.{put, after, Wrote}
use Rattle.buffer.proofs.writes.Put.{put_over, take_put, within}
use Rattle.buffer.proofs.writes.Wrote.{same_length}
use Rattle.generated_name.specs.child_name.Name.{Held, Child}
use Rattle.name_table.specs.taken.Taken.{Store, taken, Table}
use Rattle.name_table.specs.find.Found.{Found}
use Rattle.generated_name.specs.fresh_name.Free.{Tells, FirstFree}
use Rattle.generated_name.proofs.child_name.Held.{held_whole, grown}
use Rattle.generated_name.proofs.segment.Decimal.{decimal_small, decimal_large}
use Rattle.name_table.proofs.find.Rows.{found_some, long_free}

-- ---- a larger number has no fewer digits
some_digit : (n : ℕ) → 1 ≤ length (decimal n)
some_digit n = ⊎_elim
    (λ (h : 10 ≤ n). rw (decimal_large n h, length-append) (omega arith))
    (λ (h : n < 10). rw (decimal_small n h) (omega arith))
    (within 10 n)

grows : (k m n : ℕ) → n ≤ k → m ≤ n → length (decimal m) ≤ length (decimal n)
grows zero m n h g = let e : m ≡ n = omega arith in rw e (le_refl (length (decimal n)))
grows (suc k) m n h g = ⊎_elim
    (λ (s : 10 ≤ m).
    rw (decimal_large m s, decimal_large n (omega arith), length-append, length-append)
    (let r = grows k (m / 10) (n / 10) (omega arith) (omega arith) in omega arith))
    (λ (s : m < 10). rw (decimal_small m s) (some_digit n))
    (within 10 m)

pub digits_grow : (m n : ℕ) → m ≤ n → length (decimal m) ≤ length (decimal n)
digits_grow m n h = grows n m n (le_refl n) h

-- ---- the definition's first free name, by its number
module _ (cand : ℕ → Name) (names : List Name) where
  first_is : (m i k : ℕ) → i ≤ k → k ≤ i + m → ((j : ℕ) → i ≤ j → j < k → elem (cand j) names ≡ true)
      → (k < i + m → elem (cand k) names ≡ false) → first_free cand m i names ≡ cand k
  unfolding first_free
  first_is zero i k h g f e = ap cand (omega arith)
  first_is (suc m) i k h g f e = ⊎_elim
      (λ (q : i ≡ k). rw (ap (λ (j : ℕ). elem (cand j) names) q, e (omega arith)) (ap cand q))
      (λ (q : i < k). rw (f i (le_refl i) q) (first_is m (suc i) k q (omega arith) (λ j a b. f j (omega arith) b) (λ a. e (omega arith))))
      (eq-or-lt_of_le h)

pub fresh-base : (base : Name) (names : List Name) → elem base names ≡ false → fresh base names ≡ base
unfolding fresh
fresh-base base names e = rw e

pub fresh_number : (base : Name) (names : List Name) (k : ℕ) → elem base names ≡ true → k ≤ length names
    → ((j : ℕ) → j < k → elem (numbered base j) names ≡ true) → (k < length names → elem (numbered base k) names ≡ false)
    → fresh base names ≡ numbered base k
unfolding fresh
fresh_number base names k e h f g =
    rw e (first_is (numbered base) names (length names) 0 k (omega arith) (omega arith) (λ j a b. f j b) (λ a. g (omega arith)))

-- ---- names in a buffer
pub held_here : (d : List ℕ) (at : ℕ) → at ≤ length d → Held d at (take at d)
held_here d at h =
    let e : length (take at d) ≡ at = rw length-take (omega arith) in
    record { place = omega arith; bytes = sym (take_all (length d) (take at d) (omega arith)) }

pub held_new : {d p d' : List ℕ} {r : ℕ} → Wrote d 0 p d' r → Held d' r p
held_new {d} w = grown (record { place = omega arith; bytes = sym (take-nil (length d)) }) w

-- whether the name that the buffer holds is free
module _ {d : List ℕ} {at : ℕ} {names : Store} {places : List ℕ} {n : ℕ} where
  pub tells_long : {ways : List ℕ} → Table names places ways n → 255 ≤ length d → length d < at → Tells d at (taken names places n) true
  tells_long t h k = record { says = λ name g. long_free name t (let z = g.place in omega arith) }

  pub tells_found : (r : Option ℕ) {free : Bool} → is_some r ≡ not free → Found (take at d) names places n r → at ≤ length d → Tells d at (taken names places n) free
  tells_found r {free} e f h = record { says = λ name g. subst (λ (x : Name). elem x (taken names places n) ≡ not free) (held_whole g h) (found_some (take at d) names places r f ∙ e) }

-- ---- one try after the other: each number is written over the last, and no try leaves more behind than the next one covers
pub record Trying (d₀ : List ℕ) (at : ℕ) (names : List Name) (n first : ℕ) (d : List ℕ) (i : ℕ) : Type 0 where
  pub from : first ≤ i
  pub last : i ≤ n
  pub long : length d ≡ length d₀
  pub base : take at d ≡ take at d₀
  pub over : (j : ℕ) → i ≤ j → put d at (95 ∷ decimal j) ≡ put d₀ at (95 ∷ decimal j)
  pub passed : (j : ℕ) → first ≤ j → j < i → elem (numbered (take at d₀) j) names ≡ true

pub trying_none : (d : List ℕ) (at : ℕ) (names : List Name) (n first : ℕ) → first ≤ n → Trying d at names n first d first
trying_none d at names n first h = record {
  from = le_refl first;
  last = h;
  long = refl;
  base = refl;
  over = λ j k. refl;
  passed = λ j a b. absurd (omega arith);
}

module _ {d₀ : List ℕ} {at : ℕ} {names : List Name} {n first : ℕ} {d : List ℕ} {i : ℕ} (t : Trying d₀ at names n first d i) {d' : List ℕ} {r : ℕ} (w : Child d at (decimal i) d' r) where
  pub try_wrote : Wrote d₀ at (95 ∷ decimal i) d' r
  unfolding after
  try_wrote = record {
    place = rw (← t.long) w.wrote.place;
    holds = w.wrote.holds ∙ t.over i (le_refl i);
  }

  pub try_held : at ≤ length d₀ → Held d' r (numbered (take at d₀) i)
  unfolding numbered child
  try_held h = rw (← t.base) (w.named (take at d) (held_here d at (rw t.long h)))

  pub try_next : i < n → elem (numbered (take at d₀) i) names ≡ true → Trying d₀ at names n first d' (i + 1)
  try_next h e = record {
    from = let a = t.from in omega arith;
    last = omega arith;
    long = same_length w.wrote ∙ t.long;
    base = ap (take at) w.wrote.holds ∙ take_put d at (95 ∷ decimal i) at (le_refl at) ∙ t.base;
    over = λ j k. ap (λ (l : List ℕ). put l at (95 ∷ decimal j)) try_wrote.holds
        ∙ put_over d₀ at (95 ∷ decimal i) (95 ∷ decimal j) (let g = digits_grow i j (omega arith) in omega arith);
    passed = λ j a b. ⊎_elim (λ (q : j ≡ i). ap (λ (m : ℕ). elem (numbered (take at d₀) m) names) q ∙ e) (λ (q : j < i). t.passed j a q) (eq-or-lt_of_le (omega arith));
  }

-- ---- the search: a number that is free, or the last
module _ {d : List ℕ} {at : ℕ} {names : Store} {places : List ℕ} {n first : ℕ} where
  pub search_stops : {p : List ℕ} {i : ℕ} → Trying d at (taken names places n) n first p i → {d' : List ℕ} {r : ℕ} → Child p at (decimal i) d' r
      → at ≤ length d → (i < n → Tells d' r (taken names places n) true) → FirstFree d at names places n first d' i r
  search_stops {p} {i} t w h f = record {
    from = t.from;
    last = t.last;
    passed = t.passed;
    free = λ k. (f k).says (numbered (take at d) i) (try_held t w h);
    wrote = try_wrote t w;
  }

pub search_goes_on : {d : List ℕ} {at : ℕ} {used : List Name} {n first : ℕ} {p : List ℕ} {i : ℕ} → Trying d at used n first p i → {d' : List ℕ} {r : ℕ} → Child p at (decimal i) d' r
    → at ≤ length d → i < n → Tells d' r used false → Trying d at used n first d' (i + 1)
search_goes_on {d} {at} {used} {n} {first} {p} {i} t w h k f = try_next t w k (f.says (numbered (take at d) i) (try_held t w h))

pub search_ends : {d : List ℕ} {at : ℕ} {used : List Name} {n first : ℕ} {p : List ℕ} {i : ℕ} → Trying d at used n first p i → n ≤ i → Trying d at used n first p n
search_ends {d} {at} {used} {n} {first} {p} {i} t h = let e : i ≡ n = (let a = t.last in omega arith) in subst (λ (m : ℕ). Trying d at used n first p m) e t
