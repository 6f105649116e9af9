-- Substitution by position is the definition's.
-- Assumes nothing.
use mathlib.Core.Path.{◌≡◌, sym, ◌∙◌}
use mathlib.Core.List.{List, [], ◌∷◌, ◌++◌, append_assoc, append-nil}
use mathlib.Core.Bool.{Bool, true, false}
use Prim.Native.Nat.{ℕ, ◌+◌, ◌≤◌}
use native.Mathlib.Omega.{arith}
use lib.ListN.{length, length-append}
use Rattle.definition.specs.Tree.{Name, Inner, Inners, Combinator, invocation, macro_invocation}
use Rattle.definition.specs.Names.{eq_name}
use Rattle.definition.specs.Write.{w_inner, w_combinator}
use Rattle.definition.specs.Size.{size}
use Rattle.definition.specs.Macros.{same, subst}
use Rattle.layout.specs.items.At.{pick}
use Rattle.layout.specs.items.Here.{Here}
use Rattle.buffer.specs.writes.Buf.{part}
use Rattle.buffer.proofs.writes.Put.{part_none}
use Rattle.walker.specs.pieces.Pieces.{Piece, raw, call, macro_call, pieces, places, written, replaced}
use Rattle.laws.proofs.Splits.{s_inner}
use Rattle.walker.proofs.pieces.Written.{written_is, subst_is}
use Rattle.substitute.specs.substitution.Substituted.{calls_name_of, substituted}
use Rattle.substitute.proofs.substitution.Stands.{step_here, inner_here, part_on, call_tag, macro_tag, call_name}

module _ (s : List ℕ) (p : Name) (y : Inner) (to : ℕ) where
  abbrev a : List ℕ
  a = w_inner y []

  calls : (n : Name) (xs : List Name) {x : ℕ} (z : List ℕ) → Here s x (w_inner (invocation n xs) z) → calls_name_of s x p ≡ eq_name n p
  unfolding calls_name_of
  calls n xs z h = rw (call_tag n xs z h, call_name n xs z h)

  calls_not : (n : Name) (xs : Inners) {x : ℕ} (z : List ℕ) → Here s x (w_inner (macro_invocation n xs) z) → calls_name_of s x p ≡ false
  unfolding calls_name_of
  calls_not n xs z h = rw (macro_tag n xs z h)

  -- a call, by whether its name is the parameter's. W is what is written of the rest
  at_call : (b : Bool) (i : Inner) (at x : ℕ) (z W U X : List ℕ) → Here s x (w_inner i z) → at ≤ x
      → U ≡ part (x + length (w_inner i [])) (x + length (w_inner i [])) s ++ W → X ≡ part at (x + length (w_inner i [])) s ++ W
      → pick b (part at x s ++ (a ++ U)) X ≡ part at x s ++ w_inner (same y i b) W
  at_call true i at x z W U X h k u v = rw (u, part_none (x + length (w_inner i [])) s, s_inner y [] W)
  at_call false i at x z W U X h k u v = v ∙ rw (part_on at k (w_inner i []) z (inner_here i z h), append_assoc, ← (s_inner i [] W))

  pub pieces_are : (ps : List Piece) (x at : ℕ) (z : List ℕ) → Here s x (written invocation ps z) → at ≤ x → to ≡ x + length (written invocation ps [])
      → substituted s p a to (places x ps) at ≡ part at x s ++ written (replaced p y) ps []
  unfolding substituted places written
  pieces_are [] x at z h k e = let q : to ≡ x = omega arith in rw q (sym (append-nil (part at x s)))
  pieces_are (raw b ∷ ps) x at z h k e =
      let q : to ≡ x + length b + length (written invocation ps []) = e ∙ simp length-append (omega arith) in
      pieces_are ps (x + length b) at z (step_here b h) (omega arith) q ∙ rw (part_on at k b (written invocation ps z) h) (append_assoc (part at x s) b _)
  pieces_are (call n xs ∷ ps) x at z h k e =
      let i : Inner = invocation n xs in
      let q : to ≡ x + length (w_inner i []) + length (written invocation ps []) = e ∙ rw (s_inner i [] (written invocation ps [])) (simp length-append (omega arith)) in
      let g : Here s (x + length (w_inner i [])) (written invocation ps z) = step_here (w_inner i []) (inner_here i (written invocation ps z) h) in
      rw (calls n xs (written invocation ps z) h)
      (at_call (eq_name n p) i at x (written invocation ps z) (written (replaced p y) ps []) _ _ h k
      (pieces_are ps (x + length (w_inner i [])) (x + length (w_inner i [])) z g (omega arith) q)
      (pieces_are ps (x + length (w_inner i [])) at z g (omega arith) q))
  pieces_are (macro_call n xs ∷ ps) x at z h k e =
      let i : Inner = macro_invocation n xs in
      let q : to ≡ x + length (w_inner i []) + length (written invocation ps []) = e ∙ rw (s_inner i [] (written invocation ps [])) (simp length-append (omega arith)) in
      let g : Here s (x + length (w_inner i [])) (written invocation ps z) = step_here (w_inner i []) (inner_here i (written invocation ps z) h) in
      rw (calls_not n xs (written invocation ps z) h)
      (pieces_are ps (x + length (w_inner i [])) at z g (omega arith) q
      ∙ rw (part_on at k (w_inner i []) (written invocation ps z) (inner_here i (written invocation ps z) h), append_assoc, ← (s_inner i [] (written (replaced p y) ps []))))

  -- a whole combinator
  pub substitution : (c : Combinator) (x : ℕ) (z : List ℕ) → Here s x (w_combinator c z) → to ≡ x + size c → substituted s p a to (places x (pieces c [])) x ≡ w_combinator (subst c p y) []
  unfolding size written
  substitution c x z h e =
      pieces_are (pieces c []) x x z (rw (written_is c [] z) h) (omega arith) (e ∙ rw (written_is c [] []))
      ∙ rw (part_none x s) (subst_is p y c [] [])
