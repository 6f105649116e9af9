-- Where bytes stand: parts, places further on, and calls.
-- Assumes nothing.
use mathlib.Core.Path.{◌≡◌, ap, ◌∙◌}
use mathlib.Core.List.{List, [], ◌++◌}
use Prim.Native.Nat.{ℕ, ◌+◌, ◌≤◌, min}
use native.Mathlib.Omega.{arith}
use lib.ListN.{length, length-append}
use Rattle.definition.specs.Tree.{Name, Inner, Inners, invocation, macro_invocation}
use Rattle.definition.specs.Write.{w_u16, w_name, w_list, w_inner, w_inners, count_a}
use Rattle.layout.specs.items.At.{byte_at, past_at}
use Rattle.layout.specs.items.Here.{Here}
use Rattle.layout.proofs.items.Here.{here_length, past_here, byte_here, next_here}
use Rattle.layout.specs.lookup.Name.{name_at}
use Rattle.layout.proofs.lookup.Names.{stands}
use Rattle.buffer.specs.writes.Buf.{part}
use Rattle.buffer.proofs.writes.Put.{part_split}
use Rattle.laws.proofs.Splits.{s_inner}
use Rattle.walker.proofs.pieces.Marked.{part_here}

module _ {s : List ℕ} {p : ℕ} where
  pub step_here : (b : List ℕ) {z : List ℕ} → Here s p (b ++ z) → Here s (p + length b) z
  unfolding past_at
  step_here b {z} h =
      let n : p + (length b + length z) ≡ length s = simp length-append at (here_length h) in
      let m : min (p + length b) (length s) ≡ p + length b = omega arith in
      rw m at (past_here b h)

  -- an inner, with what follows apart
  pub inner_here : (i : Inner) (z : List ℕ) → Here s p (w_inner i z) → Here s p (w_inner i [] ++ z)
  inner_here i z h = rw (s_inner i [] z) at h

  -- a part up to here, and on
  pub part_on : (at : ℕ) → at ≤ p → (b : List ℕ) (z : List ℕ) → Here s p (b ++ z) → part at (p + length b) s ≡ part at p s ++ b
  part_on at k b z h = part_split at p (p + length b) s k (omega arith) ∙ ap (λ (l : List ℕ). part at p s ++ l) (part_here b z h)

  pub call_tag : (n : Name) (a : List Name) (z : List ℕ) → Here s p (w_inner (invocation n a) z) → byte_at s p ≡ 15
  unfolding w_inner
  call_tag n a z h = byte_here h

  pub macro_tag : (n : Name) (a : Inners) (z : List ℕ) → Here s p (w_inner (macro_invocation n a) z) → byte_at s p ≡ 16
  unfolding w_inner
  macro_tag n a z h = byte_here h

  pub call_name : (n : Name) (a : List Name) (z : List ℕ) → Here s p (w_inner (invocation n a) z) → name_at s (past_at s p 1) ≡ n
  unfolding w_inner
  call_name n a z h = stands s (past_at s p 1) n (w_list w_name a z) (next_here h).is

  pub macro_name : (n : Name) (a : Inners) (z : List ℕ) → Here s p (w_inner (macro_invocation n a) z) → name_at s (past_at s p 1) ≡ n
  unfolding w_inner
  macro_name n a z h = stands s (past_at s p 1) n (w_u16 (count_a a) (w_inners a z)) (next_here h).is
