-- Where an inner stands, it ends behind its bytes; a table of zeros is right.
-- Assumes nothing.
use mathlib.Core.Path.{◌≡◌, sym, ◌∙◌}
use mathlib.Core.Bool.{true}
use mathlib.Core.List.{List, [], ◌∷◌}
use Prim.Native.Nat.{ℕ, ◌+◌, ◌≤◌, ◌<◌}
use native.Mathlib.Omega.{arith}
use lib.ListN.{length, get_or}
use Rattle.definition.specs.Tree.{Inner}
use Rattle.definition.specs.Write.{w_inner}
use Rattle.definition.specs.Size.{levels_i}
use Rattle.laws.proofs.Splits.{s_inner}
use Rattle.laws.proofs.Sizes.{adds, size_i}
use Rattle.laws.proofs.Levels.{few_i}
use Rattle.layout.specs.items.Here.{Here}
use Rattle.layout.proofs.items.Here.{here_length}
use Rattle.walker.specs.walk.Steps.{walk}
use Rattle.walker.proofs.calls.Link.{skipped}
use Rattle.walker.specs.ends.Ends.{inner_end_of, Right, Stood}

module _ {s : List ℕ} (small : length s ≤ 65535) {p : ℕ} where
  module _ (i : Inner) (z : List ℕ) (h : Here s p (w_inner i z)) where
    few : levels_i i ≤ length s
    unfolding size_i
    few = omega (arith, here_length h, few_i i, adds (w_inner i) (s_inner i) z)

    pub inner_rest : Here s (inner_end_of s p) z
    unfolding inner_end_of
    inner_rest = (skipped s small i (length s) few (walk p 0 0 true) (0 ∷ []) z h).rest

    pub inner_end_lem : inner_end_of s p ≡ p + size_i i
    unfolding inner_end_of size_i
    inner_end_lem = (skipped s small i (length s) few (walk p 0 0 true) (0 ∷ []) z h).place

pub entry_is : {s ends : List ℕ} {at e : ℕ} → Right s ends → Stood s at → e ≡ get_or ends at 0 → 0 < e → e ≡ inner_end_of s at
entry_is {s} {ends} {at} r t e g = e ∙ r.right at t.what t.after t.here (rw (← e) g) ∙ sym (inner_end_lem t.short t.what t.after t.here)

pub none_right : {s ends : List ℕ} → ((p : ℕ) → get_or ends p 0 ≡ 0) → Right s ends
none_right z = record { right = λ p i y h g. absurd (omega (arith, z p)) }
