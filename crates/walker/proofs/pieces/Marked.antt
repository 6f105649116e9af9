-- What the marks of a combinator's pieces are good for: a test of every marked place is one of every called name.
-- Assumes nothing.
use mathlib.Core.Path.{◌≡◌, refl, ap, ◌∙◌}
use mathlib.Core.List.{List, [], ◌∷◌, ◌++◌}
use mathlib.Core.Bool.{Bool, true, and-true}
use Prim.Native.Nat.{ℕ, ◌+◌, ◌-◌}
use native.Mathlib.Omega.{arith}
use lib.ListN.{length, take}
use lib.Seq.{take_at}
use Rattle.definition.specs.Tree.{Name, Combinator, invocation, macro_invocation, Inners}
use Rattle.definition.specs.Write.{w_combinator, w_inner}
use Rattle.definition.specs.Bodies.{every_invocation}
use Rattle.layout.specs.items.Here.{Here}
use Rattle.layout.proofs.items.Here.{behind}
use Rattle.buffer.specs.writes.Buf.{part}
use Rattle.walker.specs.pieces.Pieces.{Piece, raw, call, macro_call, pieces, places, written, every}
use Rattle.walker.specs.pieces.Marked.{every_place}
use Rattle.laws.proofs.Splits.{s_inner}
use Rattle.walker.proofs.pieces.Written.{written_is, every_is}

-- bytes that stand somewhere are that part
pub part_here : {s : List ℕ} {p : ℕ} (b z : List ℕ) → Here s p (b ++ z) → part p (p + length b) s ≡ b
unfolding part
part_here {s} {p} b z h = let n : p + length b - p ≡ length b = omega arith in rw n (ap (take (length b)) h.is ∙ take_at b z (length b) refl)

module _ (s : List ℕ) (at : ℕ → Bool) (f g : Name → Bool)
    (calls : (a : ℕ) (n : Name) (xs : List Name) (z : List ℕ) → Here s a (w_inner (invocation n xs) z) → at a ≡ f n)
    (macros : (a : ℕ) (n : Name) (xs : Inners) (z : List ℕ) → Here s a (w_inner (macro_invocation n xs) z) → at a ≡ g n) where
  -- a test of every marked place is one of every called name
  pub every_place_lem : (ps : List Piece) (p : ℕ) (z : List ℕ) → Here s p (written invocation ps z) → every_place at (places p ps) ≡ every f g ps
  unfolding written places every_place every
  every_place_lem [] p z e = refl
  every_place_lem (raw b ∷ ps) p z e = every_place_lem ps (p + length b) z (behind b e)
  every_place_lem (call n a ∷ ps) p z e =
      let y : List ℕ = w_inner (invocation n a) [] in
      rw (calls p n a (written invocation ps z) e, every_place_lem ps (p + length y) z (behind y (rw (← (s_inner (invocation n a) [] (written invocation ps z))) e)))
  every_place_lem (macro_call n a ∷ ps) p z e =
      let y : List ℕ = w_inner (macro_invocation n a) [] in
      rw (macros p n a (written invocation ps z) e, every_place_lem ps (p + length y) z (behind y (rw (← (s_inner (macro_invocation n a) [] (written invocation ps z))) e)))

-- a combinator's own bytes
pieces_here : {s : List ℕ} {p : ℕ} (c : Combinator) (z : List ℕ) → Here s p (w_combinator c z) → Here s p (written invocation (pieces c []) z)
unfolding written
pieces_here c z e = rw (written_is c [] z) e

module _ (s : List ℕ) (at : ℕ → Bool) (test : Name → Bool)
    (calls : (a : ℕ) (n : Name) (xs : List Name) (z : List ℕ) → Here s a (w_inner (invocation n xs) z) → at a ≡ test n)
    (macros : (a : ℕ) (n : Name) (xs : Inners) (z : List ℕ) → Here s a (w_inner (macro_invocation n xs) z) → at a ≡ true) where
  -- "every Invocation in a format body, macro arguments aside", by marks
  pub every_by : (c : Combinator) (p : ℕ) (z : List ℕ) → Here s p (w_combinator c z) → every_place at (places p (pieces c [])) ≡ every_invocation c test
  unfolding every
  every_by c p z e = every_place_lem s at test (λ n. true) calls macros (pieces c []) p z (pieces_here c z e) ∙ every_is test c [] ∙ and-true (every_invocation c test)
