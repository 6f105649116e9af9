-- The test of a body, and of all.
-- Assumes nothing.
use mathlib.Core.Path.{◌≡◌, refl, sym, ap, ◌∙◌}
use mathlib.Core.List.{List, [], ◌∷◌}
use mathlib.Core.Bool.{Bool, true, false, ◌&&◌}
use Prim.Native.Nat.{ℕ}
use native.Mathlib.Omega.{arith}
use lib.ListN.{length, take}
use Rattle.definition.specs.Tree.{Name, Definition, format, constant, byte_order, macro}
use Rattle.definition.specs.Names.{elem}
use Rattle.definition.specs.Bodies.{every_invocation, chains_ok, every_body}
use Rattle.definition.specs.Premise.{calls_known, chains_plain}
use Rattle.layout.specs.items.At.{name_past_of}
use Rattle.walker.specs.declared.walk.Walk.{Walk}
use Rattle.walker.specs.walk.Steps.{walk}
use Rattle.walker.specs.calls.Walk.{combinator_at}
use Rattle.walker.specs.pieces.Marked.{every_place}
use Rattle.walker.proofs.pieces.Marked.{every_by}
use Rattle.walker.specs.definitions.Params.{ParamsPast}
use Rattle.name_table.specs.forks.Leads.{Clear}
use Rattle.name_table.specs.kinds.Rows.{row_names, OfKinds}
use Rattle.name_table.proofs.kinds.Rows.{names_in}
use Rattle.premise.specs.called.Known.{known_at}
use Rattle.walker.specs.bodies.Tested.{FormatTested, BodiesTested}
use Rattle.walker.proofs.bodies.Tested.{format_tested}
use Rattle.premise.specs.holds.Holds.{passes, Holds}
use Rattle.premise.proofs.called.Every.{call_known, macro_known}

-- two tests at once
and_both : (a b x y : Bool) → (a && b) && (x && y) ≡ (b && x) && (a && y)
and_both true true x y = refl
and_both true false x y = refl
and_both false true true y = refl
and_both false true false y = refl
and_both false false x y = refl

-- a format: its chains, and the calls in its body
module _ {s : List ℕ} (at : ℕ) {params body : ℕ} (e : params ≡ name_past_of s at) (p : ParamsPast s params body) (m₁ m₂ : List ℕ) (w : Walk)
    (hw : w ≡ (combinator_at 64 s (walk body 0 64 true) m₁).0) (hm : m₂ ≡ (combinator_at 64 s (walk body 0 64 true) m₁).1) (pl : List ℕ) (n : ℕ) {row : ℕ} (long : length m₁ ≡ row) where
  pub format_calls : w.plain ≡ true → {ms : List ℕ} → ms ≡ take w.n m₂ → {r : Bool} → r ≡ every_place (known_at s pl n) ms → FormatTested s at (passes (row_names s pl n)) row r
  unfolding passes
  format_calls t em er = format_tested at e p m₁ m₂ w hw hm long em (λ c z h g q.
      let k : chains_ok c ≡ true = sym g ∙ t in
      er ∙ rw (q, k) (every_by s (known_at s pl n) (λ x. elem x (row_names s pl n)) (call_known s pl n) (macro_known s pl n) c body z h))

  pub format_chains : w.plain ≡ false → FormatTested s at (passes (row_names s pl n)) row false
  unfolding passes
  format_chains t = format_tested at e p m₁ m₂ w hw hm long {marks = take w.n m₂} refl (λ c z h g q.
      let k : chains_ok c ≡ false = sym g ∙ t in
      rw k)

-- both tests
both_tests : (ns : List Name) (ds : List Definition) → every_body (passes ns) ds ≡ every_body (λ c. every_invocation c (λ x. elem x ns)) ds && every_body chains_ok ds
unfolding every_body passes
both_tests ns [] = refl
both_tests ns (format n ps c ∷ ds) = rw (both_tests ns ds) (and_both (chains_ok c) (every_invocation c (λ x. elem x ns)) (every_body (λ c. every_invocation c (λ x. elem x ns)) ds) (every_body chains_ok ds))
both_tests ns (constant n x ∷ ds) = both_tests ns ds
both_tests ns (byte_order x ∷ ds) = both_tests ns ds
both_tests ns (macro n ps c ∷ ds) = both_tests ns ds

pub test_holds : {s pl ws pl' ws' : List ℕ} {n row : ℕ} {r : Bool} → OfKinds s 1 2 pl ws pl' ws' n → length pl ≡ 512 → length ws ≡ 1280 → Clear ws → row ≡ 8192
    → BodiesTested s (passes (row_names s pl' n)) row r → Holds s r
unfolding calls_known chains_plain
test_holds {s} {pl' = pl'} {n = n} t lp lw c lm v = record {
  says = λ ds e b.
      v.says ds e b lm
      ∙ both_tests (row_names s pl' n) ds
      ∙ ap (λ (ns : List Name). every_body (λ c. every_invocation c (λ x. elem x ns)) ds && every_body chains_ok ds)
      (names_in (t.right c (omega arith)) ds (t.says ds e b (record { places_long = omega arith; ways_long = omega arith })).0);
}
