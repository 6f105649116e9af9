-- A pass over a book without macros, with the macros of a book that has none: nothing is replaced and nothing removed.
-- Assumes nothing.
use mathlib.Core.Path.{◌≡◌, refl, sym, ap, ◌∙◌}
use mathlib.Core.List.{List, [], ◌∷◌, ◌++◌}
use mathlib.Core.Bool.{Bool, true}
use Prim.Native.Nat.{ℕ, ◌+◌, ◌≤◌, ◌<◌}
use native.Mathlib.Omega.{arith}
use lib.Dec.{leb}
use lib.ListN.{length, drop}
use borrow.Author.Tests.{le-leb, lt-leb}
use Rattle.definition.specs.Code.{macro_growth}
use Rattle.definition.specs.Out.{done, given}
use Rattle.definition.specs.Tree.{Definition, format, constant, byte_order, macro}
use Rattle.definition.specs.Write.{w_book}
use Rattle.definition.specs.Size.{size_book, levels_book}
use Rattle.definition.specs.Macros.{Macro, macros, expand_all}
use Rattle.laws.specs.Book.{IsBook}
use Rattle.laws.proofs.NoneKnown.{none_known}
use Rattle.buffer.specs.writes.Buf.{put, Wrote}
use Rattle.buffer.proofs.writes.Put.{put_fits}
use Rattle.expand_macros.specs.kept.Kept.{kept_of, Macroless}
use Rattle.expand_macros.proofs.kept.Counting.{kept_few, all-kept}
use Rattle.std.specs.Prelude.{Ok, Err}
use Rattle.what_comes_back.specs.declared.Code.TheVariants.{MacroGrowth}
use Rattle.expand_macros.specs.pass.Pass.{pass, fitting, Leaves, Passed}

pub size_length : (es : List Definition) → size_book es ≡ length (w_book es)
unfolding size_book
size_length es = refl

no_macros : (ds : List Definition) (ms : List Macro) → kept_of ds ≡ length ds → macros ds ms ≡ ms
unfolding kept_of macros
no_macros [] ms h = refl
no_macros (format n ps c ∷ ds) ms h = no_macros ds ms (omega (arith, h))
no_macros (constant n x ∷ ds) ms h = no_macros ds ms (omega (arith, h))
no_macros (byte_order x ∷ ds) ms h = no_macros ds ms (omega (arith, h))
no_macros (macro n ps c ∷ ds) ms h = absurd (omega (arith, h, kept_few ds))

same_all : (ds : List Definition) → kept_of ds ≡ length ds → expand_all ds [] ≡ done ds
unfolding kept_of expand_all
same_all [] h = refl
same_all (format n ps c ∷ ds) h = rw (none_known c, same_all ds (omega (arith, h)))
same_all (constant n x ∷ ds) h = rw (same_all ds (omega (arith, h)))
same_all (byte_order x ∷ ds) h = rw (same_all ds (omega (arith, h)))
same_all (macro n ps c ∷ ds) h = absurd (omega (arith, h, kept_few ds))

pub pass_plain : (ms ds : List Definition) → kept_of ms ≡ length ms → kept_of ds ≡ length ds → IsBook ds → pass ms ds ≡ done ds
unfolding pass
pass_plain ms ds h k i =
    let a : leb (size_book ds) 16384 ≡ true = le-leb (size_book ds) 16384 i.short in
    let b : leb (levels_book ds) 64 ≡ true = le-leb (levels_book ds) 64 i.deep in
    rw (no_macros ms [] h, same_all ds k, a, b)

fit_plain : (room : ℕ) (ms ds : List Definition) → kept_of ms ≡ length ms → kept_of ds ≡ length ds → IsBook ds → fitting room (pass ms ds) ≡ given (leb (size_book ds) room) macro_growth ds
unfolding fitting
fit_plain room ms ds h k i = rw (pass_plain ms ds h k i)

module _ {lib book areas out : List ℕ} {a b : Bool} (p : Macroless lib a) (t : a ≡ true) (r : Macroless book b) (u : b ≡ true) where
  -- with no room for it
  pub plain_grown : length out < length book → Passed lib book areas out out (Err MacroGrowth)
  plain_grown l = record {
    says = λ ms ds el im eb id al ol.
        rw (fit_plain (length out) ms ds (all-kept p t ms el im) (all-kept r u ds eb id) id, lt-leb (size_book ds) (length out) (omega (arith, size_length ds, ap length eb))) (refl, refl);
  }

module _ {lib book areas out out' : List ℕ} {a b : Bool} {q : ℕ} (p : Macroless lib a) (t : a ≡ true) (r : Macroless book b) (u : b ≡ true) (l : length book ≤ length out) (w : Wrote out 0 book out' q) where
  pub passed_plain : Passed lib book areas out out' (Ok (length book))
  passed_plain = record { says = λ ms ds el im eb id al ol. copied ms ds (all-kept p t ms el im) eb id (all-kept r u ds eb id) }
    where
      copied : (ms ds : List Definition) → kept_of ms ≡ length ms → book ≡ w_book ds → IsBook ds → kept_of ds ≡ length ds → Leaves (fitting (length out) (pass ms ds)) out out' (Ok (length book))
      copied ms ds h eb id k =
          let s : size_book ds ≡ length book = size_length ds ∙ ap length (sym eb) in
          let f : put out 0 book ≡ book ++ drop (0 + length book) out = put_fits out 0 book (omega (arith, s, id.short)) in
          let z : 0 + length book ≡ length book = omega arith in
          rw (fit_plain (length out) ms ds h k id, le-leb (size_book ds) (length out) (omega (arith, s))) (ap Ok (sym s), w.holds ∙ f ∙ rw (s, ← eb) (ap (λ (n : ℕ). book ++ drop n out) z))
