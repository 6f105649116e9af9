-- The whole answer: codes 1 to 6 and then 7 to 11.
-- Assumes nothing.
use mathlib.Core.Path.{◌≡◌, refl}
use mathlib.Core.List.{List}
use mathlib.Core.Bool.{Bool, true, false}
use Prim.Native.Nat.{ℕ}
use native.Mathlib.Omega.{arith}
use lib.Dec.{leb}
use lib.ListN.{length, take}
use lib.Seq.{take_all}
use Rattle.definition.specs.Code.{work_short, output_short}
use Rattle.definition.specs.Out.{Out, ◌>>=◌, given}
use Rattle.definition.specs.Write.{w_book}
use Rattle.definition.specs.Lift.{lift_book_of}
use Rattle.definition.specs.Answer.{expanded, elaborated, Result as Resulting, all, outcome, attempt, fault_at}
use Rattle.laws.proofs.Steps.{grouped_out}
use Rattle.what_comes_back.specs.declared.Elaborated.{Elaborated}
use Rattle.what_comes_back.specs.declared.Refusal.{Refusal}
use Rattle.std.specs.Prelude.{Result, Err}
use Rattle.open_book.specs.begin.Begins.{opened, Refuses, Expands}
use Rattle.what_comes_back.specs.Elaborates.{Reports, lifted, Expanded, Lifts}
use Rattle.what_comes_back.proofs.Reporting.{reports_refused, reports_lifted}

elaborated_says : (b : List ℕ) → elaborated b ≡ (expanded b >>= λ ds. outcome (lift_book_of ds))
unfolding elaborated
elaborated_says b = refl

attempt_is : (b : List ℕ) (o n : ℕ) → attempt b o n ≡ (opened b n >>= λ ds. lifted ds o)
unfolding attempt opened lifted
attempt_is b o n = both (leb 65536 n)
  where
    fits : Resulting → Out Resulting
    fits r = given (leb (length (w_book (all r))) o) output_short r

    both : (t : Bool) → (given t work_short b >>= λ c. elaborated c >>= λ r. fits r) ≡ ((given t work_short b >>= λ c. expanded c) >>= λ ds. outcome (lift_book_of ds) >>= λ r. fits r)
    both true = rw (elaborated_says b) (grouped_out (expanded b) (λ ds. outcome (lift_book_of ds)) (λ r. fits r))
    both false = refl

module _ (b : List ℕ) (n : ℕ) where
  -- codes 1 to 6
  pub reports_code : {out : List ℕ} {why : Refusal} → Refuses (opened b n) why.code → why.at ≡ fault_at b n → Reports (fault_at b n) (attempt b (length out) n) out out (Err why)
  reports_code {out} r a = rw (attempt_is b (length out) n) (reports_refused r.is r.coded a)

  -- the expanded book in the first bytes of another
  module _ {book : List ℕ} {len : ℕ} (o : Expands (opened b n) book len) where
    pub opened_book : Expanded (take len book)
    opened_book = record { of = o.left; book = o.holds; is_book = o.is_book }

    pub reports_lifts : fault_at b n ≡ 0 → {out out' : List ℕ} {r : Result Elaborated Refusal} → Lifts (take len book) out out' r → Reports (fault_at b n) (attempt b (length out) n) out out' r
    reports_lifts z {out} l = rw (attempt_is b (length out) n) (reports_lifted z o.is o.holds o.is_book l)

  -- the book itself, where it is its own expansion
  module _ (o : Expands (opened b n) b (length b)) where
    whole : take (length b) b ≡ b
    whole = take_all (length b) b (omega arith)

    pub plain_book : Expanded b
    plain_book = rw whole at (opened_book o)

    pub reports_plain : fault_at b n ≡ 0 → {out out' : List ℕ} {r : Result Elaborated Refusal} → Lifts b out out' r → Reports (fault_at b n) (attempt b (length out) n) out out' r
    reports_plain z {out} {out'} {r} l = reports_lifts o z (rw whole l)
