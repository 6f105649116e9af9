-- The listing of a book, from the answer, the output and the lines.
-- Assumes nothing.
use mathlib.Core.Path.{◌≡◌, refl}
use mathlib.Core.List.{List}
use mathlib.Core.Bool.{Bool, true, false}
use Prim.Native.Nat.{ℕ, ◌≤◌}
use native.Mathlib.Omega.{arith}
use lib.Dec.{leb}
use lib.ListN.{length}
use borrow.Author.Tests.{le-leb}
use Rattle.definition.specs.Code.{output_short}
use Rattle.definition.specs.Out.{Out, ◌>>=◌, given}
use Rattle.definition.specs.Write.{w_book}
use Rattle.definition.specs.Size.{size_book}
use Rattle.definition.specs.Tree.{Definition}
use Rattle.definition.specs.Lift.{lift_book_of}
use Rattle.definition.specs.Answer.{elaborated, Result as Resulting, all, outcome, attempt, fault_of, fault_at, output}
use Rattle.definition.specs.Listing.{listing}
use Rattle.laws.specs.Book.{Bytes, IsBook}
use Rattle.laws.proofs.Steps.{Yields, stops, yields, next, of_result, yielded}
use Rattle.laws.proofs.Results.{elaborated_book, lifted_yields, lifted_book, fault_inside}
use Rattle.nested.specs.Nested.{expanded_nested, elaborated_nested, attempt_nested_of, output_nested}
use Rattle.nested.proofs.Results.{expanded_is_book}
use Rattle.std.specs.Prelude.{Result}
use Rattle.what_comes_back.specs.declared.Elaborated.{Elaborated}
use Rattle.what_comes_back.specs.declared.Refusal.{Refusal}
use Rattle.what_comes_back.specs.Elaborates.{elaborated_as, Reports}
use Rattle.listing_lines.specs.answers.Prints.{Prints}
use Rattle.listing_lines.specs.lines.Lines.{Tells, TellsNested, TellsIn}

-- an output of 16,384 bytes holds every result
fits_all : {m : Out Resulting} {o : ℕ} → 16384 ≤ o → Yields (λ r. IsBook (all r)) m → (m >>= λ r. given (leb (length (w_book (all r))) o) output_short r) ≡ m
unfolding size_book
fits_all h stops = refl
fits_all {o = o} h (yields {a = r} b) = rw (le-leb (length (w_book (all r))) o (omega (arith, b.short)))

module _ (b out : List ℕ) (w : ℕ) (h : Bytes b) (o : 16384 ≤ length out) (k : 65536 ≤ w) where
  fault_whole : fault_at b w ≡ fault_of b
  unfolding fault_at
  fault_whole = rw (le-leb 65536 w k)

  attempt_whole : attempt b (length out) w ≡ elaborated b
  unfolding attempt
  attempt_whole = rw (le-leb 65536 w k) (fits_all o (elaborated_book b h))

  reports : {r : Result Elaborated Refusal} {out' : List ℕ} → r ≡ elaborated_as (fault_at b w) (attempt b (length out) w) → out' ≡ output b out w → Reports (fault_of b) (elaborated b) out out' r
  unfolding output
  reports e f = record { answers = rw (← attempt_whole, ← fault_whole) e; fills = rw (← attempt_whole) f }

  pub tells : {r : Result Elaborated Refusal} {out' text text' : List ℕ} {n : ℕ} → r ≡ elaborated_as (fault_at b w) (attempt b (length out) w) → out' ≡ output b out w → Prints r out' text text' n → Tells b text text' n
  unfolding listing
  tells e f p = p.prints (fault_of b) (fault_inside b) (elaborated b) out (reports e f) λ q g. yielded (elaborated_book b h) g

  -- the nested mode
  lifts_nested : (ds : List Definition) → IsBook ds → Yields (λ r. IsBook (all r)) (outcome (lift_book_of ds))
  lifts_nested ds i = lifted_yields (λ r. IsBook (all r)) ds (lifted_book ds i)

  nested_book : Yields (λ r. IsBook (all r)) (elaborated_nested b)
  unfolding elaborated_nested
  nested_book = next (of_result (expanded_nested b) (λ ds e. expanded_is_book b h ds e)) _ λ ds i. lifts_nested ds i.0

  nested_whole : attempt_nested_of b (length out) w ≡ elaborated_nested b
  unfolding attempt_nested_of
  nested_whole = rw (le-leb 65536 w k) (fits_all o nested_book)

  pub tells_nested : {r : Result Elaborated Refusal} {out' text text' : List ℕ} {n : ℕ} → r ≡ elaborated_as (fault_at b w) (attempt_nested_of b (length out) w) → out' ≡ output_nested b out w → Prints r out' text text' n → TellsNested b text text' n
  unfolding output_nested
  tells_nested e f p = p.prints (fault_of b) (fault_inside b) (elaborated_nested b) out (record { answers = rw (← nested_whole, ← fault_whole) e; fills = rw (← nested_whole) f }) λ q g. yielded nested_book g

-- either mode
module _ (nested : Bool) (b : List ℕ) {text text' : List ℕ} {n : ℕ} where
  pub in-nested : nested ≡ true → TellsNested b text text' n → TellsIn nested b text text' n
  in-nested e t = rw e t

  pub in-plain : nested ≡ false → Tells b text text' n → TellsIn nested b text text' n
  in-plain e t = rw e t
