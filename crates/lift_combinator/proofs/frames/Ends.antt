-- Where combinators end.
-- Assumes nothing.
use mathlib.Core.Path.{◌≡◌, refl}
use mathlib.Core.Bool.{true, false}
use mathlib.Core.List.{List, ◌∷◌}
use Prim.Native.Nat.{ℕ, zero, suc, ◌+◌, ◌-◌, ◌≤◌, ◌<◌}
use native.Mathlib.Omega.{arith}
use native.Mathlib.Numerals.{sub-one}
use lib.Dec.{eqb}
use lib.ListN.{length}
use Rattle.definition.specs.Tree.{Combinator, plain, chained}
use Rattle.definition.specs.Write.{w_combinator}
use Rattle.definition.specs.Size.{size, levels}
use Rattle.laws.proofs.Sizes.{adds}
use Rattle.laws.proofs.Splits.{s_comb}
use Rattle.layout.specs.items.At.{byte_at, past_at}
use Rattle.layout.specs.items.Here.{Here}
use Rattle.layout.proofs.items.Here.{here_length, byte_here, next_here}
use Rattle.walker.specs.ends.Ends.{inner_end_of, Stood}
use Rattle.walker.proofs.ends.Ends.{inner_rest}
use Rattle.lift_combinator.specs.frames.Frames.{combinator_end_of, combinator_past_of, Standing, Follows}

-- ---- the loop over chains
module _ (s : List ℕ) (at : ℕ) where
  pub end_more : (n : ℕ) → 0 < n → eqb (byte_at s (inner_end_of s at)) 1 ≡ true → combinator_end_of n s at ≡ combinator_end_of (n - 1) s (past_at s (inner_end_of s at) 1)
  unfolding combinator_end_of
  end_more zero h e = absurd (omega arith)
  end_more (suc n) h e = rw (e, sub-one)

  pub end_last : (n : ℕ) → 0 < n → eqb (byte_at s (inner_end_of s at)) 1 ≡ false → combinator_end_of n s at ≡ past_at s (inner_end_of s at) 1
  unfolding combinator_end_of
  end_last zero h e = absurd (omega arith)
  end_last (suc n) h e = rw e

  pub end_none : (n : ℕ) → n ≤ 0 → combinator_end_of n s at ≡ at
  unfolding combinator_end_of
  end_none zero h = refl
  end_none (suc n) h = absurd (omega arith)

pub end_past : (s : List ℕ) (at : ℕ) {end last : ℕ} → end ≡ inner_end_of s at → last ≡ combinator_past_of s end → last ≡ combinator_end_of 64 s at
unfolding combinator_past_of combinator_end_of
end_past s at e h = rw e at h

-- ---- where a tree stands
module _ {s : List ℕ} (small : length s ≤ 65535) where
  pub combinator_rest : {p : ℕ} (c : Combinator) (k : ℕ) (z : List ℕ) → levels c ≤ k → k ≤ 64 → Here s p (w_combinator c z) → Here s (combinator_end_of k s p) z
  unfolding w_combinator levels
  combinator_rest {p} (plain i) k z d m h =
      let e = inner_rest small i (0 ∷ z) h in
      rw (end_last s p k (omega arith) (rw (byte_here e))) (next_here e)
  combinator_rest {p} (chained i c) k z d m h =
      let e = inner_rest small i (1 ∷ w_combinator c z) h in
      rw (end_more s p k (omega arith) (rw (byte_here e))) (combinator_rest {p = past_at s (inner_end_of s p) 1} c (k - 1) z (omega arith) (omega arith) (next_here e))

  pub combinator_end_lem : {p : ℕ} (c : Combinator) (k : ℕ) (z : List ℕ) → levels c ≤ k → k ≤ 64 → Here s p (w_combinator c z) → combinator_end_of k s p ≡ p + size c
  unfolding size
  combinator_end_lem c k z d m h = omega (arith, here_length h, here_length (combinator_rest c k z d m h), adds (w_combinator c) (s_comb c) z)

-- a combinator's inner stands at its place, and its chain behind that
module _ {s : List ℕ} (small : length s ≤ 65535) {at : ℕ} where
  stood_by : (c : Combinator) (z : List ℕ) → Here s at (w_combinator c z) → Stood s at
  unfolding w_combinator
  stood_by (plain i) z h = record { what = i; after = 0 ∷ z; here = h; short = small }
  stood_by (chained i c) z h = record { what = i; after = 1 ∷ w_combinator c z; here = h; short = small }

  pub stood : Standing s at → Stood s at
  stood x = stood_by x.what x.stands.after x.stands.is

  chain_by : (c : Combinator) (z : List ℕ) → levels c ≤ 64 → Here s at (w_combinator c z) → byte_at s (inner_end_of s at) ≡ 1 → Standing s (past_at s (inner_end_of s at) 1)
  unfolding w_combinator levels
  chain_by (plain i) z d h e = absurd (omega (arith, e, byte_here (inner_rest small i (0 ∷ z) h)))
  chain_by (chained i c) z d h e = record { what = c; stands = record { after = z; is = next_here (inner_rest small i (1 ∷ w_combinator c z) h) }; deep = omega arith }

  pub follows : {end : ℕ} → Standing s at → end ≡ inner_end_of s at → Follows s end
  follows x e = rw e (record { short = small; chain = chain_by x.what x.stands.after x.deep x.stands.is })
