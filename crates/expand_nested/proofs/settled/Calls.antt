-- A test of every macro call at a walked position is one of every marked place.
-- Assumes nothing.
use mathlib.Core.Path.{◌≡◌, refl, sym, ◌∙◌}
use mathlib.Core.List.{List, [], ◌∷◌}
use mathlib.Core.Bool.{Bool, true, not, ◌&&◌, and-true, and_assoc}
use Prim.Native.Nat.{ℕ}
use Rattle.definition.specs.Tree.{Name, CaseKind, Combinator, plain, chained, Inner, leaf, struct, choice, shell, bytes, invocation, macro_invocation, Fields, no_field, field, const, Cases, no_case, case, Inners}
use Rattle.definition.specs.Write.{w_u16, w_shut, w_combinator, w_inner, w_inners, count_a}
use Rattle.definition.specs.Macros.{Macro}
use Rattle.nested.specs.Nested.{every_macro_call, every_macro_call_i, every_macro_call_f, every_macro_call_c, is_macro}
use Rattle.layout.specs.items.At.{past_at}
use Rattle.layout.specs.items.Here.{Here}
use Rattle.layout.proofs.items.Here.{byte_here, next_here}
use Rattle.layout.proofs.lookup.Names.{stands}
use Rattle.walker.specs.pieces.Pieces.{Piece, raw, pieces, pieces_i, pieces_f, pieces_c, places, written, every}
use Rattle.walker.specs.pieces.Marked.{every_place}
use Rattle.walker.proofs.pieces.Marked.{every_place_lem}
use Rattle.walker.proofs.pieces.Written.{written_is}
use Rattle.expand_nested.specs.unknown.Calls.{unknown_at}
use Rattle.expand_nested.specs.settled.Settles.{calm}

-- the trees
module _ (test : Name → Bool) where
  mutual
    unfolding every_macro_call pieces every

    every_is : (c : Combinator) (ps : List Piece) → every (λ n. true) test (pieces c ps) ≡ every_macro_call c test && every (λ n. true) test ps
    every_is (plain i) ps = every_is_i i (raw (0 ∷ []) ∷ ps)
    every_is (chained i c) ps = every_is_i i (raw (1 ∷ []) ∷ pieces c ps) ∙ rw (every_is c ps) (sym (and_assoc (every_macro_call_i i test) (every_macro_call c test) (every (λ n. true) test ps)))

    every_is_i : (i : Inner) (ps : List Piece) → every (λ n. true) test (pieces_i i ps) ≡ every_macro_call_i i test && every (λ n. true) test ps
    every_is_i (leaf k x) ps = refl
    every_is_i (struct f) ps = every_is_f f ps
    every_is_i (choice s k f) ps = every_is_c f k ps
    every_is_i (shell x c) ps = every_is c (raw (w_shut x []) ∷ ps)
    every_is_i (bytes l) ps = refl
    every_is_i (invocation n a) ps = refl
    every_is_i (macro_invocation n a) ps = refl

    every_is_f : (f : Fields) (ps : List Piece) → every (λ n. true) test (pieces_f f ps) ≡ every_macro_call_f f test && every (λ n. true) test ps
    every_is_f no_field ps = refl
    every_is_f (field k l c f) ps = every_is c (pieces_f f ps) ∙ rw (every_is_f f ps) (sym (and_assoc (every_macro_call c test) (every_macro_call_f f test) (every (λ n. true) test ps)))
    every_is_f (const l x f) ps = every_is_f f ps

    every_is_c : (f : Cases) (k : CaseKind) (ps : List Piece) → every (λ n. true) test (pieces_c f k ps) ≡ every_macro_call_c f test && every (λ n. true) test ps
    every_is_c no_case k ps = refl
    every_is_c (case l c f) k ps = every_is c (pieces_c f k ps) ∙ rw (every_is_c f k ps) (sym (and_assoc (every_macro_call c test) (every_macro_call_c f test) (every (λ n. true) test ps)))

-- the bytes
module _ (ms : List Macro) (s : List ℕ) where
  call_passes : (p : ℕ) (n : Name) (a : List Name) (z : List ℕ) → Here s p (w_inner (invocation n a) z) → unknown_at ms s p ≡ true
  unfolding unknown_at w_inner
  call_passes p n a z h = rw (byte_here h)

  macro_tests : (p : ℕ) (n : Name) (a : Inners) (z : List ℕ) → Here s p (w_inner (macro_invocation n a) z) → unknown_at ms s p ≡ not (is_macro ms n)
  unfolding unknown_at w_inner
  macro_tests p n a z h = rw (byte_here h, stands s (past_at s p 1) n (w_u16 (count_a a) (w_inners a z)) (next_here h).is)

  -- "no known macro call stands where the pass reaches", by marks
  pub calm_by : (c : Combinator) (p : ℕ) (z : List ℕ) → Here s p (w_combinator c z) → every_place (unknown_at ms s) (places p (pieces c [])) ≡ calm ms c
  unfolding written every calm
  calm_by c p z e = every_place_lem s (unknown_at ms s) (λ n. true) (λ n. not (is_macro ms n)) call_passes macro_tests (pieces c []) p z (rw (written_is c [] z) e) ∙ every_is (λ n. not (is_macro ms n)) c [] ∙ and-true (every_macro_call c (λ n. not (is_macro ms n)))
