-- Code 11 and the result, where nothing is lifted.
-- Assumes nothing.
use mathlib.Core.Path.{◌≡◌, refl, sym, ◌∙◌}
use mathlib.Core.List.{List, [], ◌++◌, append-nil}
use mathlib.Core.Bool.{Bool, true, false}
use Prim.Native.Nat.{ℕ, ◌+◌, ◌≤◌, ◌<◌}
use native.Mathlib.Omega.{arith}
use lib.Dec.{leb}
use lib.ListN.{length}
use borrow.Author.Tests.{le-leb, lt-leb}
use Rattle.definition.specs.Out.{done}
use Rattle.definition.specs.Tree.{Definition}
use Rattle.definition.specs.Write.{w_book}
use Rattle.definition.specs.Lift.{lift_book_of}
use Rattle.definition.specs.Answer.{outcome, filled}
use Rattle.laws.specs.Book.{IsBook}
use Rattle.layout.specs.items.At.{number_at}
use Rattle.walker.proofs.definitions.Listed.{book_listed}
use Rattle.buffer.specs.writes.Buf.{Wrote}
use Rattle.buffer.proofs.writes.Put.{put_fits}
use Rattle.lift_book.specs.flat.Told.{Told}
use Rattle.lift_book.proofs.flat.Still.{book_stays}
use Rattle.what_comes_back.specs.declared.Code.{Code}
use Rattle.what_comes_back.specs.declared.Code.TheVariants.{OutputShort}
use Rattle.std.specs.Prelude.{Ok, Err}
use Rattle.layout.specs.items.At.{pick}
use Rattle.what_comes_back.specs.Elaborates.{elaborated_as, lifted, Lifts}
use Rattle.lift_book.specs.unlifted.Copied.{Copied}

pub told_flat : {s : List ℕ} {r : Bool} → Told s r → r ≡ true → Told s true
told_flat t e = record { says = λ ds w b. sym e ∙ t.says ds w b }

pub copied : {s out out' : List ℕ} {n : ℕ} → length s ≤ length out → Wrote out 0 s out' n → Copied s out out' (Ok tt)
copied {s} {out} l w =
    let z : 0 + length s ≡ length s = omega arith in
    let b = le-leb (length s) (length out) l in
    record { fits = rw b; holds = rw b (w.holds ∙ (rw z at (put_fits out 0 s (omega arith)))) }

pub not_copied : {s out : List ℕ} → length out < length s → Copied s out out (Err OutputShort)
not_copied {s} {out} l = let b = lt-leb (length s) (length out) l in record { fits = rw b; holds = rw b }

-- whether it fits
module _ {s out out' : List ℕ} where
  whole : {x : Unit {0}} → Copied s out out' (Ok x) → leb (length s) (length out) ≡ true
  whole {x} k = of _ k.fits
    where
      of : (b : Bool) → Ok x ≡ pick b (Ok (tt {0})) (Err OutputShort) → b ≡ true
      of true e = refl
      of false e = cc

  short : {e : Code} → Copied s out out' (Err e) → (leb (length s) (length out) ≡ false) × (e ≡ OutputShort)
  short {e} k = of _ k.fits
    where
      of : (b : Bool) → Err e ≡ pick b (Ok (tt {0})) (Err OutputShort) → (b ≡ false) × (e ≡ OutputShort)
      of true f = cc
      of false f = (refl, cc)

-- its result is itself
module _ {s : List ℕ} (t : Told s true) where
  stays : (ds : List Definition) → s ≡ w_book ds → IsBook ds → outcome (lift_book_of ds) ≡ done (record { kept = ds; lifted = [] })
  stays ds w b = book_stays ds (sym (t.says ds w b))

  fits : (ds : List Definition) → s ≡ w_book ds → (n : ℕ) {b : Bool} → leb (length s) n ≡ b → leb (length (w_book (ds ++ []))) n ≡ b
  fits ds w n e = rw (append-nil ds, ← w) e

  pub copied_short : {out out' : List ℕ} {e : Code} → Copied s out out' (Err e) → Lifts s out out' (Err (record { code = e; at = 0 }))
  unfolding lifted elaborated_as filled
  copied_short k = let l = short k in record {
    lifts = λ ds w b q. record { answers = rw (stays ds w b, fits ds w _ l.0, l.1); fills = rw (stays ds w b, fits ds w _ l.0) (k.holds ∙ rw l.0) };
  }

  pub copied_whole : {out out' : List ℕ} {x : Unit {0}} → Copied s out out' (Ok x) → {n : ℕ} → n ≡ number_at s 0 → Lifts s out out' (Ok (record { length = length s; definitions = n; lifted = 0 }))
  unfolding lifted elaborated_as filled
  copied_whole k g = let l = whole k in record {
    lifts = λ ds w b q. record {
      answers = rw (stays ds w b, fits ds w _ l, append-nil ds, ← w, g ∙ (book_listed s ds w b).0);
      fills = rw (stays ds w b, fits ds w _ l, append-nil ds, ← w) (k.holds ∙ rw l);
    };
  }
