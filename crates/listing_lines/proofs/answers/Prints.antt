-- The lines of an answer, from those of a refusal and of a result.
-- Assumes nothing.
use mathlib.Core.Path.{◌≡◌, refl, sym, ap, ◌∙◌}
use mathlib.Core.List.{List}
use Prim.Native.Nat.{ℕ, ◌+◌, ◌≤◌}
use native.Mathlib.Omega.{arith}
use lib.ListN.{length, take, drop}
use lib.Seq.{take-append_seam}
use Rattle.definition.specs.Code.{number}
use Rattle.definition.specs.Out.{Out, refused, done}
use Rattle.definition.specs.Write.{w_book}
use Rattle.definition.specs.Size.{size_book}
use Rattle.definition.specs.Answer.{Result as Resulting, all, Answer, answered, filled}
use Rattle.definition.specs.Listing.{listed}
use Rattle.laws.specs.Book.{IsBook}
use Rattle.laws.proofs.Sizes.{size_book_lem}
use Rattle.laws.proofs.Steps.{of_result}
use Rattle.buffer.specs.writes.Buf.{Wrote}
use Rattle.buffer.proofs.writes.Wrote.{place_fits}
use Rattle.what_comes_back.specs.declared.Elaborated.{Elaborated}
use Rattle.what_comes_back.specs.declared.Refusal.{Refusal}
use Rattle.what_comes_back.specs.Codes.{number_of}
use Rattle.std.specs.Prelude.{Result, Ok, Err}
use Rattle.what_comes_back.specs.Elaborates.{reported}
use Rattle.what_comes_back.proofs.InNumbers.{elaborated_numbers}
use Rattle.listing_lines.specs.refusal.Refusal.{refusal}
use Rattle.listing_lines.specs.printed.Lines.{Lists}
use Rattle.listing_lines.proofs.printed.Room.{code_some, listed_room}
use Rattle.listing_lines.specs.answers.Prints.{Filled, Prints}

-- a text of 65,536 bytes holds the lines of every outcome
fill : {p : ℕ} → p ≤ 16384 → {m : Out Resulting} {text text' : List ℕ} {n : ℕ} → ((q : Resulting) → m ≡ done q → IsBook (all q)) → Wrote text 0 (listed p m) text' n → Filled (listed p m) text text' n
fill {p} b {m} {text} {text'} {n} h w = record { wrote = w; fits = λ l. omega (arith, place l, room) }
  where
    room : length (listed p m) ≤ 65536
    room = listed_room b (of_result m h)

    place : 65536 ≤ length text → n ≡ 0 + length (listed p m)
    place l = place_fits w (omega (arith, room))

pub refused_prints : {r : Result Elaborated Refusal} {why : Refusal} {out text text' : List ℕ} {n : ℕ} → r ≡ Err why → Wrote text 0 (refusal (number_of why.code) why.at) text' n → Prints r out text text' n
unfolding reported answered listed refusal size_book
refused_prints {r} {why} {out} {text} {text'} {n} e w = record { prints = λ p b m out₀ s h. fill b h (of p m (elaborated_numbers p m (sym e ∙ s.answers))) }
  where
    of : (p : ℕ) (m : Out Resulting) → reported (Err why) ≡ answered p m → Wrote text 0 (listed p m) text' n
    of p (refused k) g =
        let i : number_of why.code ≡ number k = ap (λ (x : Answer). x.code) g in
        let j : why.at ≡ p = ap (λ (x : Answer). x.at) g in
        rw (i, j) at w
    of p (done q) g = let i : 0 ≡ length (w_book (all q)) = ap (λ (x : Answer). x.size) g in absurd (omega (arith, size_book_lem (all q)))

pub done_prints : {r : Result Elaborated Refusal} {e : Elaborated} {s out text text' : List ℕ} {z : ℕ} → r ≡ Ok e → s ≡ take e.length out → Lists s e.definitions e.lifted text text' z → Prints r out text text' z
unfolding reported answered filled
done_prints {r} {e} {s} {out} {text} {text'} {z} g p w = record { prints = λ a b m out₀ q h. fill b h (of a m out₀ (elaborated_numbers a m (sym g ∙ q.answers)) q.fills h) }
  where
    of : (a : ℕ) (m : Out Resulting) (out₀ : List ℕ) → reported (Ok e) ≡ answered a m → out ≡ filled m out₀ → ((q : Resulting) → m ≡ done q → IsBook (all q)) → Wrote text 0 (listed a m) text' z
    of a (refused k) out₀ g f h = let i : 0 ≡ number k = ap (λ (x : Answer). x.code) g in absurd (omega (arith, code_some k))
    of a (done q) out₀ g f h =
        let i : e.length ≡ length (w_book (all q)) = ap (λ (x : Answer). x.size) g in
        let t : s ≡ w_book (all q) = p ∙ rw (i, f) (take-append_seam (w_book (all q)) (drop (length (w_book (all q))) out₀)) in
        w.says a q t (h q refl) (ap (λ (x : Answer). x.definitions) g) (ap (λ (x : Answer). x.lifts) g)
