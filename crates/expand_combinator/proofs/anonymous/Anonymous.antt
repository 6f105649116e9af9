-- Where a combinator stands, the test by position is the definition's.
-- Assumes nothing.
use mathlib.Core.Path.{◌≡◌}
use mathlib.Core.List.{List, ◌∷◌}
use Prim.Native.Nat.{ℕ, zero, suc, ◌≤◌}
use native.Mathlib.Nat.{not-suc-le-zero}
use native.Mathlib.Omega.{arith}
use Rattle.definition.specs.Tree.{constraint_int, constraint_enum, bits, enum, tail, nothing, never, wrap, vec, option, array, Combinator, plain, chained, Inner, leaf, struct, choice, shell, bytes, invocation, macro_invocation}
use Rattle.definition.specs.Write.{w_combinator, w_inner, leaf_tag, w_text, w_open, w_shut}
use Rattle.definition.specs.Size.{levels, levels_i}
use Rattle.definition.specs.Collect.{anonymous_leaf, anonymous, anonymous_i}
use Rattle.layout.specs.items.Here.{Here}
use Rattle.layout.proofs.items.Here.{byte_here, next_here, text_here, len_here}
use Rattle.expand_combinator.specs.anonymous.Anonymous.{anonymous_by, anonymous_at}

mutual
  unfolding anonymous_at anonymous_by anonymous anonymous_leaf w_combinator leaf_tag w_open w_shut levels

  pub anonymous_here : (c : Combinator) (k : ℕ) → levels c ≤ k → {s : List ℕ} {p : ℕ} (z : List ℕ) → Here s p (w_combinator c z) → anonymous_at k s p ≡ anonymous c
  anonymous_here (plain i) zero h z g = absurd (not-suc-le-zero h)
  anonymous_here (plain i) (suc k) h z g = inner_here i k (omega arith) (0 ∷ z) g
  anonymous_here (chained i c) zero h z g = absurd (not-suc-le-zero h)
  anonymous_here (chained i c) (suc k) h z g = inner_here i k (omega arith) (1 ∷ w_combinator c z) g

  inner_here : (i : Inner) (k : ℕ) → levels_i i ≤ k → {s : List ℕ} {p : ℕ} (z : List ℕ) → Here s p (w_inner i z) → anonymous_at (suc k) s p ≡ anonymous_i i
  inner_here (leaf constraint_int t) k h z g = rw (byte_here g)
  inner_here (leaf constraint_enum t) k h z g = rw (byte_here g)
  inner_here (leaf bits t) k h z g = rw (byte_here g)
  inner_here (leaf enum t) k h z g = rw (byte_here g)
  inner_here (leaf tail t) k h z g = rw (byte_here g)
  inner_here (leaf nothing t) k h z g = rw (byte_here g)
  inner_here (leaf never t) k h z g = rw (byte_here g)
  inner_here (struct f) k h z g = rw (byte_here g)
  inner_here (choice x y f) k h z g = rw (byte_here g)
  inner_here (shell (wrap x y) c) k h z g = rw (byte_here g) (anonymous_here c k (omega arith) (w_text y z) (text_here x (next_here g)))
  inner_here (shell vec c) k h z g = rw (byte_here g) (anonymous_here c k (omega arith) z (next_here g))
  inner_here (shell option c) k h z g = rw (byte_here g) (anonymous_here c k (omega arith) z (next_here g))
  inner_here (shell (array l) c) k h z g = rw (byte_here g) (anonymous_here c k (omega arith) z (len_here l (next_here g)))
  inner_here (bytes l) k h z g = rw (byte_here g)
  inner_here (invocation n a) k h z g = rw (byte_here g)
  inner_here (macro_invocation n a) k h z g = rw (byte_here g)
