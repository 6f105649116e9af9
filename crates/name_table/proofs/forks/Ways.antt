-- Ways step by step; and the same ways when the table has changed at one place that is no fork.
-- Assumes nothing.
use mathlib.Core.Path.{◌≡◌, refl, sym, ◌∙◌}
use mathlib.Core.Logic.{◌⊎◌, inl, inr, ⊎_elim}
use mathlib.Core.List.{List}
use mathlib.Core.Bool.{true, false}
use Prim.Native.Nat.{ℕ, zero, suc, ◌+◌, ◌*◌, ◌-◌, ◌/◌, ◌≤◌, ◌<◌}
use native.Mathlib.Omega.{arith}
use lib.Dec.{eqb, leb}
use lib.ListN.{get_or}
use borrow.Author.Tests.{lt-ltb, le-ltb, eqb-true, eqb-false, leb-true, leb-false}
use Rattle.definition.specs.Tree.{Name}
use Rattle.layout.proofs.lookup.Names.{yes_no}
use Rattle.name_table.specs.forks.Forks.{fork_at, slot_from}
use Rattle.name_table.specs.forks.Leads.{Ends}

-- two numbers are the same, or not
pub same_or_not : (a b : ℕ) → (a ≡ b) ⊎ (a ≡ b → ⊥)
same_or_not a b = ⊎_elim (λ (e : eqb a b ≡ true). inl (eqb-true a b e)) (λ (e : eqb a b ≡ false). inr (eqb-false a b e)) (yes_no (eqb a b))

pub le-or-lt : (a b : ℕ) → (a ≤ b) ⊎ (b < a)
le-or-lt a b = ⊎_elim (λ (e : leb a b ≡ true). inl (leb-true a b e)) (λ (e : leb a b ≡ false). inr (leb-false a b e)) (yes_no (leb a b))

module _ (t : List ℕ) where
  module _ (m : Name) where
    -- a way stops where no fork is, and goes on where one is
    pub stops : (k x : ℕ) → get_or t x 0 < 65536 → slot_from t m k x ≡ x
    unfolding slot_from
    stops zero x h = refl
    stops (suc k) x h = rw (lt-ltb (get_or t x 0) 65536 h)

    pub goes : (k x : ℕ) → 65536 ≤ get_or t x 0 → slot_from t m (suc k) x ≡ slot_from t m k (fork_at m (get_or t x 0 - 65536))
    unfolding slot_from
    goes k x h = rw (le-ltb (get_or t x 0) 65536 h)

    -- the end of a way that ends
    module _ (n : ℕ) (few : n ≤ 65535) where
      abbrev On : ℕ → ℕ → Type 0
      On k x = (65536 ≤ get_or t x 0) × ((get_or t x 0 - 65536) / 4096 < n) × Ends t m n k (fork_at m (get_or t x 0 - 65536))

      pub end_low : (k x : ℕ) → Ends t m n k x → slot_from t m k x < 256 + 2 * n
      unfolding Ends
      end_low zero x e = absurd e
      end_low (suc k) x e = ⊎_elim
          (λ (h : get_or t x 0 ≤ n). rw (stops (suc k) x (omega arith)) e.0)
          (λ (h : On k x). rw (goes k x h.0) (end_low k (fork_at m (get_or t x 0 - 65536)) h.2))
          e.2

      pub end_row : (k x : ℕ) → Ends t m n k x → (0 < get_or t (slot_from t m k x) 0) × (get_or t (slot_from t m k x) 0 ≤ n)
      unfolding Ends
      end_row zero x e = absurd e
      end_row (suc k) x e = ⊎_elim
          (λ (h : get_or t x 0 ≤ n). rw (stops (suc k) x (omega arith)) (e.1, h))
          (λ (h : On k x). rw (goes k x h.0) (end_row k (fork_at m (get_or t x 0 - 65536)) h.2))
          e.2

-- the table t, and u, which has the same numbers below those of row n but at p, where t has no fork
module _ (t u : List ℕ) (n p : ℕ) (few : n ≤ 65535) (same : (x : ℕ) → x < 256 + 2 * n → (x ≡ p → ⊥) → get_or u x 0 ≡ get_or t x 0) (stop : p < 256 + 2 * n → get_or t p 0 < 65536) (m : Name) where
  -- a way that ends elsewhere
  pub kept : (k x : ℕ) → Ends t m n k x → (slot_from t m k x ≡ p → ⊥) → Ends u m (n + 1) (suc k) x × (slot_from u m (suc k) x ≡ slot_from t m k x)
  unfolding Ends
  kept zero x e q = absurd e
  kept (suc k) x e q = ⊎_elim
      (λ (h : get_or t x 0 ≤ n).
      let s = stops t m (suc k) x (omega arith) in
      let g = same x e.0 (λ (z : x ≡ p). q (s ∙ z)) in (
        (omega arith, rw g e.1, inl (rw g (omega arith))),
        stops u m (suc (suc k)) x (rw g (omega arith)) ∙ sym s,
      ))
      (λ (h : On t m n few k x).
      let y : ℕ = fork_at m (get_or t x 0 - 65536) in
      let s = goes t m k x h.0 in
      let g = same x e.0 (λ (z : x ≡ p). absurd (let w = stop (rw z at e.0) in let v = rw z at h.0 in omega arith)) in
      let r = kept k y h.2 (λ (z : slot_from t m k y ≡ p). q (s ∙ z)) in (
        (omega arith, rw g e.1, inr (rw g (h.0, omega arith, r.0))),
        goes u m (suc k) x (rw g h.0) ∙ rw g r.1 ∙ sym s,
      ))
      e.2

  -- a way that ends there, where u has a fork of row n to a row
  module _ (w : ℕ) (fork : get_or u p 0 ≡ 65536 + w) (own : w / 4096 ≡ n) (low : fork_at m w < 256 + 2 * (n + 1)) (some : 0 < get_or u (fork_at m w) 0) (row : get_or u (fork_at m w) 0 ≤ n + 1) (fits : n + 1 ≤ 65535) where
    at_fork : (k : ℕ) → p < 256 + 2 * n → Ends u m (n + 1) (suc (suc k)) p × (slot_from u m (suc (suc k)) p ≡ fork_at m w)
    unfolding Ends
    at_fork k h =
        let z : 65536 + w - 65536 ≡ w = omega arith in
        let g = goes u m (suc k) p (rw fork (omega arith)) in (
          (omega arith, rw fork (omega arith), inr (rw (fork, z) (omega arith, omega arith, (low, some, inl row)))),
          g ∙ rw (fork, z) (stops u m (suc k) (fork_at m w) (omega arith)),
        )

    pub moved : (k x : ℕ) → Ends t m n k x → slot_from t m k x ≡ p → Ends u m (n + 1) (suc k) x × (slot_from u m (suc k) x ≡ fork_at m w)
    unfolding Ends
    moved zero x e q = absurd e
    moved (suc k) x e q = ⊎_elim
        (λ (h : get_or t x 0 ≤ n).
        let z : x ≡ p = sym (stops t m (suc k) x (omega arith)) ∙ q in
        rw z (at_fork k (rw z at e.0)))
        (λ (h : On t m n few k x).
        let y : ℕ = fork_at m (get_or t x 0 - 65536) in
        let s = goes t m k x h.0 in
        let g = same x e.0 (λ (z : x ≡ p). absurd (let w = stop (rw z at e.0) in let v = rw z at h.0 in omega arith)) in
        let r = moved k y h.2 (sym s ∙ q) in (
          (omega arith, rw g e.1, inr (rw g (h.0, omega arith, r.0))),
          goes u m (suc k) x (rw g h.0) ∙ rw g r.1,
        ))
        e.2
