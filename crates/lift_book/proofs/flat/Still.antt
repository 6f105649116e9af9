-- The test is demand 3's `Flat`, so nothing is lifted out of a book that passes it.
-- Assumes nothing.
use mathlib.Core.Path.{◌≡◌, refl}
use mathlib.Core.List.{List, [], ◌∷◌}
use mathlib.Core.Bool.{true, false}
use borrow.Author.Tests.{not-true}
use Rattle.definition.specs.Out.{done}
use Rattle.definition.specs.Tree.{Combinator, plain, chained, Inner, leaf, struct, choice, shell, bytes, invocation, macro_invocation, Fields, no_field, field, const, Cases, no_case, case, Definition, format, constant, byte_order, macro}
use Rattle.definition.specs.Collect.{anonymous_leaf}
use Rattle.definition.specs.Lift.{lift_book_of}
use Rattle.definition.specs.Answer.{outcome}
use Rattle.definition.specs.Bodies.{every_body}
use Rattle.laws.proofs.Tests.{not_both, both_true}
use Rattle.demand3.specs.Words.{EachBody}
use Rattle.demand3.specs.Flat.{Calm, CalmI, CalmF, CalmC, FlatI, Flat}
use Rattle.demand3.proofs.Flat.{calm_leaf}
use Rattle.demand3.proofs.Twice.{nothing_lifted}
use Rattle.lift_book.specs.flat.Flat.{calm, calm_i, calm_f, calm_c, flat_i, flat}

mutual
  unfolding calm

  is_calm : (c : Combinator) → calm c ≡ true → Calm c
  is_calm (plain i) e = is_calm_i i e
  is_calm (chained i c) e = let b = both_true (calm_i i) (calm c) e in (is_calm_i i b.0, is_calm c b.1)

  is_calm_i : (i : Inner) → calm_i i ≡ true → CalmI i
  is_calm_i (leaf k x) e = calm_leaf k (not-true (anonymous_leaf k) e)
  is_calm_i (struct f) e = not_both false e refl
  is_calm_i (choice s k f) e = not_both false e refl
  is_calm_i (shell x c) e = is_calm c e
  is_calm_i (bytes l) e = tt
  is_calm_i (invocation n a) e = tt
  is_calm_i (macro_invocation n a) e = tt

is_calm_f : (f : Fields) → calm_f f ≡ true → CalmF f
unfolding calm_f
is_calm_f no_field e = tt
is_calm_f (field k l c f) e = let b = both_true (calm c) (calm_f f) e in (is_calm c b.0, is_calm_f f b.1)
is_calm_f (const l x f) e = is_calm_f f e

is_calm_c : (f : Cases) → calm_c f ≡ true → CalmC f
unfolding calm_c
is_calm_c no_case e = tt
is_calm_c (case l c f) e = let b = both_true (calm c) (calm_c f) e in (is_calm c b.0, is_calm_c f b.1)

is_flat_i : (i : Inner) → flat_i i ≡ true → FlatI i
unfolding flat_i
is_flat_i (leaf k x) e = tt
is_flat_i (struct f) e = is_calm_f f e
is_flat_i (choice s k f) e = is_calm_c f e
is_flat_i (shell x c) e = is_calm c e
is_flat_i (bytes l) e = tt
is_flat_i (invocation n a) e = tt
is_flat_i (macro_invocation n a) e = tt

is_flat : (c : Combinator) → flat c ≡ true → Flat c
unfolding flat
is_flat (plain i) e = is_flat_i i e
is_flat (chained i c) e = let b = both_true (flat_i i) (calm c) e in (is_flat_i i b.0, is_calm c b.1)

each_flat : (ds : List Definition) → every_body flat ds ≡ true → EachBody Flat ds
unfolding every_body
each_flat [] e = tt
each_flat (format n ps c ∷ ds) e = let b = both_true (flat c) (every_body flat ds) e in (is_flat c b.0, each_flat ds b.1)
each_flat (constant n x ∷ ds) e = each_flat ds e
each_flat (byte_order x ∷ ds) e = each_flat ds e
each_flat (macro n ps c ∷ ds) e = each_flat ds e

pub book_stays : (ds : List Definition) → every_body flat ds ≡ true → outcome (lift_book_of ds) ≡ done (record { kept = ds; lifted = [] })
book_stays ds e = nothing_lifted ds (each_flat ds e)
