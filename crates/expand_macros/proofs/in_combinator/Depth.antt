-- How deep an instance and an expansion go, and the calls of a combinator.
-- Assumes nothing.
use mathlib.Core.Path.{◌≡◌}
use mathlib.Core.List.{List, [], ◌∷◌}
use mathlib.Core.Bool.{Bool, true, false, ◌&&◌}
use Prim.Native.Nat.{ℕ, ◌+◌, ◌≤◌}
use native.Mathlib.Omega.{arith}
use lib.Dec.{leb}
use borrow.Author.Tests.{leb-true}
use Rattle.definition.specs.Out.{Out, done}
use Rattle.definition.specs.Tree.{Name, CaseKind, Combinator, plain, chained, Inner, leaf, struct, choice, shell, bytes, invocation, macro_invocation, Fields, no_field, field, const, Cases, no_case, case, Inners, no_inner, inner}
use Rattle.definition.specs.Names.{eq_name}
use Rattle.definition.specs.Write.{w_shut}
use Rattle.definition.specs.Size.{size, levels, levels_i, levels_f, levels_c}
use Rattle.definition.specs.Macros.{subst, limited, instance, inner_of, Macro, expand_by, expand_macro, expand}
use Rattle.laws.proofs.Tests.{both_true}
use Rattle.laws.proofs.Steps.{Yields, stops, yields, next, where-true}
use Rattle.walker.specs.pieces.Pieces.{Piece, raw, pieces, pieces_i, pieces_f, pieces_c}
use Rattle.walker.proofs.pieces.Expanded.{All}
use Rattle.walker.proofs.pieces.Deeper.{grown}
use Rattle.expand_macros.proofs.replace_call.Opening.{inner_deep}
use Rattle.expand_macros.specs.in_combinator.Deep.{DeepM, DeepP}

-- an instance has at most 64 levels, where the body has
pub instance_deep : (ps : List Name) (xs : Inners) (c : Combinator) → levels c ≤ 64 → Yields (λ d. levels d ≤ 64) (instance ps xs c)
unfolding instance limited
instance_deep [] xs c h = yields h
instance_deep (p ∷ ps) no_inner c h = yields h
instance_deep (p ∷ ps) (inner a xs) c h =
    next {P = λ d. levels d ≤ 64} (where-true (leb (size (subst c p a)) 16384 && leb (levels (subst c p a)) 64) _ (subst c p a) (λ t. leb-true (levels (subst c p a)) 64 (both_true (leb (size (subst c p a)) 16384) (leb (levels (subst c p a)) 64) t).1)) _ λ d w. instance_deep ps xs d w

by_deep : (b : Bool) (m : Macro) (xs : Inners) (k : ℕ) (other : Out Inner) → levels m.body ≤ 64 → Yields (λ j. levels_i j ≤ k + 63) other → Yields (λ j. levels_i j ≤ k + 63) (expand_by b m xs other)
unfolding expand_by
by_deep true m xs k other h w = next (instance_deep m.params xs m.body h) _ λ c v. yields {a = inner_of c} (omega (arith, inner_deep c))
by_deep false m xs k other h w = w

macro_deep : (ms : List Macro) (n : Name) (xs : Inners) → DeepM ms → Yields (λ j. levels_i j ≤ levels_i (macro_invocation n xs) + 63) (expand_macro ms n xs)
unfolding expand_macro
macro_deep [] n xs h = yields {a = macro_invocation n xs} (omega arith)
macro_deep (m ∷ ms) n xs h = by_deep (eq_name m.name n) m xs (levels_i (macro_invocation n xs)) (expand_macro ms n xs) h.0 (macro_deep ms n xs h.1)

all_of : {A : Type 0} {P : A → Type 0} {m : Out A} → Yields P m → All P m
all_of stops = tt
all_of (yields p) = p

pub expand_deep : (ms : List Macro) → DeepM ms → (c d : Combinator) → expand c ms ≡ done d → levels d ≤ levels c + 63
unfolding levels
expand_deep ms h c d e = rw e at (grown ms 63 (λ n xs. all_of (macro_deep ms n xs h)) c)

-- and the arguments of a combinator's calls are no deeper than it
mutual
  unfolding pieces levels

  pub pieces_deep : (c : Combinator) (ps : List Piece) → levels c ≤ 64 → DeepP ps → DeepP (pieces c ps)
  pieces_deep (plain i) ps h g = pieces_deep_i i (raw (0 ∷ []) ∷ ps) (omega arith) g
  pieces_deep (chained i c) ps h g = pieces_deep_i i (raw (1 ∷ []) ∷ pieces c ps) (omega arith) (pieces_deep c ps (omega arith) g)

  pieces_deep_i : (i : Inner) (ps : List Piece) → levels_i i ≤ 64 → DeepP ps → DeepP (pieces_i i ps)
  pieces_deep_i (leaf k x) ps h g = g
  pieces_deep_i (struct f) ps h g = pieces_deep_f f ps h g
  pieces_deep_i (choice s k f) ps h g = pieces_deep_c f k ps h g
  pieces_deep_i (shell x c) ps h g = pieces_deep c (raw (w_shut x []) ∷ ps) h g
  pieces_deep_i (bytes l) ps h g = g
  pieces_deep_i (invocation n a) ps h g = g
  pieces_deep_i (macro_invocation n a) ps h g = (h, g)

  pieces_deep_f : (f : Fields) (ps : List Piece) → levels_f f ≤ 64 → DeepP ps → DeepP (pieces_f f ps)
  pieces_deep_f no_field ps h g = g
  pieces_deep_f (field k l c f) ps h g = pieces_deep c (pieces_f f ps) (omega arith) (pieces_deep_f f ps (omega arith) g)
  pieces_deep_f (const l x f) ps h g = pieces_deep_f f ps h g

  pieces_deep_c : (f : Cases) (k : CaseKind) (ps : List Piece) → levels_c f ≤ 64 → DeepP ps → DeepP (pieces_c f k ps)
  pieces_deep_c no_case k ps h g = g
  pieces_deep_c (case l c f) k ps h g = pieces_deep c (pieces_c f k ps) (omega arith) (pieces_deep_c f k ps (omega arith) g)
