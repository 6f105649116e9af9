-- What is still to be written, while it is written piece by piece.
-- Assumes nothing.
use mathlib.Core.Path.{◌≡◌}
use mathlib.Core.List.{List, [], ◌++◌}
use Prim.Native.Nat.{ℕ, suc, ◌≤◌}
use lib.ListN.{length}
use Rattle.buffer.specs.writes.Buf.{Wrote}
use Rattle.buffer.proofs.writes.Wrote.{glue, wrote_none}

module _ {A : Type 0} where
  -- the same bytes, named otherwise
  pub wrote_as : {d : List A} {at : ℕ} {p q d' : List A} {r : ℕ} → p ≡ q → Wrote d at q d' r → Wrote d at p d' r
  wrote_as e w = rw e w

  -- whoever writes q from here on has written p from the start
  pub record Rest (d : List A) (at : ℕ) (p d' : List A) (o : ℕ) (q : List A) : Type 0 where
    pub then : (e : List A) (r : ℕ) → Wrote d' o q e r → Wrote d at p e r

  pub rest_all : (d : List A) (at : ℕ) (p : List A) → Rest d at p d at p
  rest_all d at p = record { then = λ e r w. w }

  module _ {d : List A} {at : ℕ} {p d' : List A} {o : ℕ} where
    pub rest_on : {q₀ : List A} (q : List A) {z d'' : List A} {o' : ℕ} → Rest d at p d' o q₀ → q₀ ≡ q ++ z → Wrote d' o q d'' o' → Rest d at p d'' o' z
    rest_on q {z} g e w = record { then = λ x r v. g.then x r (rw e (glue w v)) }

    pub rest_same : {q z : List A} → Rest d at p d' o q → q ≡ z → Rest d at p d' o z
    rest_same g e = rw e at g

    pub rest_end : {q : List A} → Rest d at p d' o q → q ≡ [] → o ≤ suc (length d') → Wrote d at p d' o
    rest_end g e h = g.then d' o (rw e (wrote_none d' o h))
