-- How much room a combinator takes, and its marks: half as many numbers as it has bytes are enough.
-- Assumes nothing.
use mathlib.Core.Path.{◌≡◌, ap, ◌∙◌}
use mathlib.Core.List.{List, [], ◌∷◌}
use Prim.Native.Nat.{ℕ, ◌+◌, ◌*◌, ◌≤◌}
use native.Mathlib.Omega.{arith}
use lib.ListN.{length, length-append}
use Rattle.definition.specs.Tree.{Name, Combinator, Inner, invocation, macro_invocation, Inners}
use Rattle.definition.specs.Write.{w_u16, w_name, w_list, w_inner, w_combinator}
use Rattle.definition.specs.Size.{size}
use Rattle.layout.specs.items.Here.{Here}
use Rattle.layout.proofs.items.Here.{here_length}
use Rattle.walker.specs.pieces.Pieces.{Piece, raw, call, macro_call, pieces, places, written}
use Rattle.laws.proofs.Splits.{s_comb, s_inner}
use Rattle.walker.proofs.pieces.Written.{written_is}

pub size_here : {s : List ℕ} {p : ℕ} (c : Combinator) (z : List ℕ) → Here s p (w_combinator c z) → p + size c ≤ length s
unfolding size
size_here {s} {p} c z h = omega (arith, simp length-append at (here_length (rw (s_comb c [] z) at h)))

-- a tag, a name's length and a count
call_long : (n : Name) (a : List Name) → 4 ≤ length (w_inner (invocation n a) [])
unfolding w_inner w_name w_list w_u16
call_long n a = simp length-append (omega arith)

macro_long : (n : Name) (a : Inners) → 4 ≤ length (w_inner (macro_invocation n a) [])
unfolding w_inner w_name w_u16
macro_long n a = simp length-append (omega arith)

inner_length : (i : Inner) (r : List ℕ) → length (w_inner i r) ≡ length (w_inner i []) + length r
inner_length i r = ap length (s_inner i [] r) ∙ length-append (w_inner i []) r

room : (ps : List Piece) (p : ℕ) → 2 * length (places p ps) ≤ length (written invocation ps [])
unfolding places written
room [] p = omega arith
room (raw b ∷ ps) p = simp length-append (omega (arith, room ps (p + length b)))
room (call n a ∷ ps) p = omega (arith, room ps (p + length (w_inner (invocation n a) [])), call_long n a, inner_length (invocation n a) (written invocation ps []))
room (macro_call n a ∷ ps) p = omega (arith, room ps (p + length (w_inner (macro_invocation n a) [])), macro_long n a, inner_length (macro_invocation n a) (written invocation ps []))

pub room_enough : (c : Combinator) (p : ℕ) → 2 * length (places p (pieces c [])) ≤ size c
unfolding size written
room_enough c p = omega (arith, room (pieces c []) p, ap length (written_is c [] []))
