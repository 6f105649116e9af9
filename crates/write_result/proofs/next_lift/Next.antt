-- Looking for the next lift: one entry, and 64 of them at a time.
-- Assumes nothing.
use mathlib.Core.Path.{◌≡◌, refl, sym, ◌∙◌}
use mathlib.Core.Bool.{Bool, true, false, true≢false, cond, not}
use mathlib.Core.Logic.{⊎_elim}
use mathlib.Core.List.{List, [], ◌∷◌}
use Prim.Native.Nat.{ℕ, zero, suc, ◌+◌, ◌*◌, ◌-◌, ◌/◌, ◌≤◌, ◌<◌, min, max}
use native.Mathlib.Numerals.{add-one}
use native.Mathlib.Omega.{arith}
use lib.Dec.{eqb, eqb-suc-zero, eqb-zero-suc}
use lib.ListN.{length, take, drop, get_or, replicate, length-replicate, length-take, length-drop}
use lib.Seq.{drop-cons, take-take}
use lib.Pointwise.{pointwise, pointwise_long}
use Rattle.std.specs.List.{starts_with}
use Rattle.buffer.proofs.numbers.Order.{within}
use borrow.Author.Tests.{eq-eqb, ne_eqb, eqb-false}
use Rattle.buffer.specs.zeroing.Zeros.{some_in_of}
use Rattle.write_result.specs.next_lift.Next.{next_of, next_lift_of, block_of, past_empty_of}

-- one place
module _ (number : List ℕ) (to : ℕ) where
  pub next_on : (p : ℕ) → p < to → get_or number p 0 ≡ 0 → next_lift_of number p to ≡ next_lift_of number (p + 1) to
  unfolding next_lift_of next_of
  next_on p h e = let n : to - p ≡ suc (to - suc p) = omega arith in rw (add-one, n, eq-eqb (get_or number p 0) 0 e)

  pub next_here : (p : ℕ) → p < to → (get_or number p 0 ≡ 0 → ⊥) → next_lift_of number p to ≡ p
  unfolding next_lift_of next_of
  next_here p h f = let n : to - p ≡ suc (to - suc p) = omega arith in rw (n, ne_eqb (get_or number p 0) 0 f)

  pub next_end : (p : ℕ) → to ≤ p → next_lift_of number p to ≡ p
  unfolding next_lift_of next_of
  next_end p h = let n : to - p ≡ 0 = omega arith in rw n

  -- going on one by one
  pub next_done : (start p : ℕ) {x : ℕ} → (start ≤ to → p ≤ to) → to ≤ p → next_lift_of number start to ≡ x → next_lift_of number p to ≡ x → max start to ≡ x
  next_done start p b h a e = ⊎_elim
      (λ (k : to ≤ start). let m : max start to ≡ start = omega arith in rw m (sym (next_end start k) ∙ a))
      (λ (k : start < to). let m : max start to ≡ p = omega (arith, b (omega arith)) in rw m (sym (next_end p h) ∙ e))
      (within to start)

  -- the place found is none before the first, and a lift begins there if it is below the end
  found : (n p : ℕ) → (p ≤ next_of number n p) × (next_of number n p < p + n → get_or number (next_of number n p) 0 ≡ 0 → ⊥)
  unfolding next_of
  found zero p = (omega arith, λ h e. omega arith)
  found (suc n) p = of (eqb (get_or number p 0) 0) (λ e. eqb-false (get_or number p 0) 0 e) (found n (suc p))
    where
      of : (b : Bool) → (b ≡ false → get_or number p 0 ≡ 0 → ⊥) → (suc p ≤ next_of number n (suc p)) × (next_of number n (suc p) < suc p + n → get_or number (next_of number n (suc p)) 0 ≡ 0 → ⊥)
          → (p ≤ cond b (next_of number n (suc p)) p) × (cond b (next_of number n (suc p)) p < p + suc n → get_or number (cond b (next_of number n (suc p)) p) 0 ≡ 0 → ⊥)
      of true f k = (omega (arith, k.0), λ h. k.1 (omega arith))
      of false f k = (omega arith, λ h. f refl)

  pub next_is : (p q : ℕ) → q ≡ next_lift_of number p to → (p ≤ q) × (q < to → get_or number q 0 ≡ 0 → ⊥)
  unfolding next_lift_of
  next_is p q e = let f = found (to - p) p in rw e (f.0, λ h. f.1 (omega (arith, f.0)))

-- whether a list begins with so many zeros
zeros_begin : (n : ℕ) (l : List ℕ) → n ≤ length l → pointwise eqb (replicate n 0) (take n l) ≡ not (some_in_of (take n l))
unfolding some_in_of
zeros_begin zero l h = refl
zeros_begin (suc n) [] h = absurd (omega arith)
zeros_begin (suc n) (zero ∷ l) h = zeros_begin n l (omega arith)
zeros_begin (suc n) (suc k ∷ l) h = rw (eqb-zero-suc, eqb-suc-zero)

begins : (n : ℕ) (l : List ℕ) {r : Bool} → r ≡ starts_with eqb l (replicate n 0) → n ≤ length l → r ≡ not (some_in_of (take n l))
begins n l e h = e ∙ rw length-replicate (zeros_begin n l h)

begins_long : (n : ℕ) (l : List ℕ) → starts_with eqb l (replicate n 0) ≡ true → n ≤ length l
begins_long n l e = omega (arith, pointwise_long eqb (replicate n 0) _ e, length-replicate {0} {A = ℕ} n 0, length-take (length (replicate {A = ℕ} n 0)) l)

-- blocks
module _ (number : List ℕ) where
  over_empty : (n m at : ℕ) → at + n ≤ length number → some_in_of (take n (drop at number)) ≡ false → next_of number (n + m) at ≡ next_of number m (at + n)
  unfolding next_of some_in_of
  over_empty zero m at h e = let a : 0 + m ≡ m = omega arith in let b : at + 0 ≡ at = omega arith in rw (a, b)
  over_empty (suc n) m at h e =
      let a : suc n + m ≡ suc (n + m) = omega arith in
      let b : at + suc n ≡ suc at + n = omega arith in
      rw (a, b) (of (eqb (get_or number at 0) 0) (rw (drop-cons number at 0 (omega arith)) at e) (λ k. over_empty n m (suc at) (omega arith) k))
    where
      of : (b : Bool) → cond b (some_in_of (take n (drop (suc at) number))) true ≡ false → (some_in_of (take n (drop (suc at) number)) ≡ false → next_of number (n + m) (suc at) ≡ next_of number m (suc at + n))
          → cond b (next_of number (n + m) (suc at)) at ≡ next_of number m (suc at + n)
      of true k f = f k
      of false k f = let z : ◌≡◌ {A = ℕ} 0 1 = cc in absurd (omega arith)

  module _ (to : ℕ) where
    blocks : (n at : ℕ) → 64 * n ≤ to - at → 64 * n ≤ length number - at → next_lift_of number (block_of number n at) to ≡ next_lift_of number at to
    unfolding block_of next_lift_of
    blocks zero at h k = refl
    blocks (suc n) at h k = of (some_in_of (take 64 (drop at number))) (λ e. over_empty 64 (to - (at + 64)) at (omega arith) e) (blocks n (at + 64) (omega arith) (omega arith))
      where
        of : (b : Bool) → (b ≡ false → next_of number (64 + (to - (at + 64))) at ≡ next_of number (to - (at + 64)) (at + 64)) → next_lift_of number (block_of number n (at + 64)) to ≡ next_lift_of number (at + 64) to
            → next_lift_of number (cond b at (block_of number n (at + 64))) to ≡ next_lift_of number at to
        of true f k = refl
        of false f k = let a : to - at ≡ 64 + (to - (at + 64)) = omega arith in k ∙ rw a (sym (f refl))

    pub past_empty_lem : (from : ℕ) → next_lift_of number (past_empty_of number from to) to ≡ next_lift_of number from to
    unfolding past_empty_of
    past_empty_lem from = blocks ((min to (length number) - from) / 64) from (omega arith) (omega arith)

  pub block_start : (from to end : ℕ) → end ≡ min to (length number) → past_empty_of number from to ≡ block_of number ((end - from) / 64) from
  unfolding past_empty_of
  block_start from to end e = rw e

  pub block_last : (end p : ℕ) → end - p < 64 → block_of number ((end - p) / 64) p ≡ p
  unfolding block_of
  block_last end p h = let e : (end - p) / 64 ≡ 0 = omega arith in rw e

  module _ (end p : ℕ) {r : Bool} (e : r ≡ starts_with eqb (take (end - p) (drop p number)) (replicate 64 0)) (fits : end ≤ length number) where
    unfoldable rest : List ℕ
    rest = take (end - p) (drop p number)

    long : length rest ≡ end - p
    unfolding rest
    long = simp (length-take, length-drop) (omega arith)

    whole : 64 ≤ end - p → r ≡ not (some_in_of (take 64 (drop p number)))
    unfolding rest
    whole h = let k : 64 ≤ length rest = omega (arith, long) in begins 64 rest e k ∙ rw take-take

    pub block_on : r ≡ true → block_of number ((end - p) / 64) p ≡ block_of number ((end - (p + 64)) / 64) (p + 64)
    unfolding block_of rest
    block_on f =
        let h : 64 ≤ end - p = omega (arith, long, begins_long 64 rest (sym e ∙ f)) in
        let n : (end - p) / 64 ≡ suc ((end - (p + 64)) / 64) = omega arith in
        rw n (of (some_in_of (take 64 (drop p number))) (sym (whole h) ∙ f))
      where
        of : (b : Bool) → not b ≡ true → cond b p (block_of number ((end - (p + 64)) / 64) (p + 64)) ≡ block_of number ((end - (p + 64)) / 64) (p + 64)
        of true g = absurd (true≢false (sym g))
        of false g = refl

    pub block_found : r ≡ false → block_of number ((end - p) / 64) p ≡ p
    unfolding block_of
    block_found f = ⊎_elim
        (λ (h : 64 ≤ end - p). let n : (end - p) / 64 ≡ suc ((end - (p + 64)) / 64) = omega arith in rw n (of (some_in_of (take 64 (drop p number))) (sym (whole h) ∙ f)))
        (λ (h : end - p < 64). block_last end p h)
        (within 64 (end - p))
      where
        of : (b : Bool) → not b ≡ false → cond b p (block_of number ((end - (p + 64)) / 64) (p + 64)) ≡ p
        of true g = refl
        of false g = absurd (true≢false g)
