-- The nested mode's answer, from what the passes and the lifts say.
-- Assumes nothing.
use mathlib.Core.Path.{◌≡◌, refl, sym, ◌∙◌}
use mathlib.Core.List.{List, []}
use mathlib.Core.Bool.{Bool, true, false}
use Prim.Native.Nat.{ℕ, ◌≤◌}
use native.Mathlib.Omega.{arith}
use lib.Dec.{leb}
use lib.ListN.{length, take}
use mathlib.Core.Logic.{⊎_elim}
use Rattle.std.specs.Prelude.{Result, Ok, Err}
use Rattle.definition.specs.Code.{work_short, output_short, macro_growth, macro_left}
use Rattle.definition.specs.Out.{Out, ◌>>=◌, given}
use Rattle.definition.specs.Tree.{Definition}
use Rattle.definition.specs.Write.{w_book}
use Rattle.definition.specs.Macros.{macros}
use Rattle.definition.specs.Lift.{lift_book_of}
use Rattle.definition.specs.Answer.{Result as Resulting, all, outcome, fault_at}
use Rattle.laws.specs.Book.{Bytes}
use Rattle.laws.proofs.Steps.{grouped_out}
use Rattle.nested.specs.Nested.{again, expanded_nested, elaborated_nested, attempt_nested_of}
use Rattle.open_book.specs.opened.Opens.{Opens}
use Rattle.expand_nested.specs.passes.Repeats.{AgainBy, Again}
use Rattle.what_comes_back.specs.declared.Code.{Code as CodeOf}
use Rattle.what_comes_back.specs.declared.Elaborated.{Elaborated}
use Rattle.what_comes_back.specs.declared.Refusal.{Refusal}
use Rattle.what_comes_back.specs.Elaborates.{Reports, lifted, Expanded, Lifts}
use Rattle.what_comes_back.proofs.Reporting.{reports_refused, reports_lifted}
use Rattle.elaborate_nested.specs.OpensNested.{opened_nested, OpensNested}
use Rattle.elaborate_nested.proofs.Source.{source_written, nested_refused, nested_more, opened_long, nested_long}

module _ {b : List ℕ} {n m : ℕ} {area : List ℕ} (lm : m ≡ 16384) where
  -- codes 1 to 6
  pub opens_code : {why : Refusal} {area' : List ℕ} → Opens b n m area (Err why) → OpensNested b n area' (Err why)
  opens_code o = record { by = record { reason = (o.by lm).reason; is = nested_refused b n (o.by lm).is; coded = (o.by lm).coded }; placed = o.placed }

  module _ {len : ℕ} (o : Opens b n m area (Ok len)) where
    pub areas_long : 32768 ≤ n
    areas_long = omega (arith, opened_long b n (o.by lm).is)

    -- what the passes make of the book that the first one left
    module _ (small : Bytes b) (long : length area ≡ m) {areas room : ℕ} (la : areas ≡ 32768) (ln : room ≡ 16384) {area' : List ℕ} {r : Result ℕ CodeOf} (v : Again b area len 15 areas room area' r) where
      more : {X : Type 0} → ((ds : List Definition) → opened_nested b n ≡ again 15 (macros ds []) (o.by lm).left → AgainBy (again 15 (macros ds []) (o.by lm).left) area' r → X) → X
      more go = nested_more b n (o.by lm).is λ ds i e.
          let w = source_written b small ds i in
          go ds e (v.says ds (o.by lm).left w.0 w.1 (o.by lm).holds (o.by lm).is_book (o.by lm).fits (long ∙ lm) la ln)

      -- 6 or 12
      pub opens_again : {k : CodeOf} → r ≡ Err k → OpensNested b n area' (Err (record { code = k; at = 0 }))
      opens_again q = more λ ds e a.
          ⊎_elim (λ g. record { by = record { reason = macro_growth; is = e ∙ g.0; coded = g.1 }; placed = sym o.placed }) (λ g. record { by = record { reason = macro_left; is = e ∙ g.0; coded = g.1 }; placed = sym o.placed }) (rw q at a)

      pub opens_last : {len' : ℕ} → r ≡ Ok len' → OpensNested b n area' (Ok len')
      opens_last q = more λ ds e a.
          let s = rw q at a in
          record { by = record { left = s.list; is = e ∙ s.is; is_book = s.is_book; holds = s.holds; fits = s.fits }; placed = o.placed }

-- 7 to 11
attempt_is : (b : List ℕ) (o n : ℕ) → attempt_nested_of b o n ≡ (opened_nested b n >>= λ ds. lifted ds o)
unfolding attempt_nested_of elaborated_nested opened_nested lifted
attempt_is b o n = both (leb 65536 n)
  where
    fits : Resulting → Out Resulting
    fits r = given (leb (length (w_book (all r))) o) output_short r

    both : (t : Bool) → (given t work_short b >>= λ c. (expanded_nested c >>= λ ds. outcome (lift_book_of ds)) >>= λ r. fits r) ≡ ((given t work_short b >>= λ c. expanded_nested c) >>= λ ds. outcome (lift_book_of ds) >>= λ r. fits r)
    both true = grouped_out (expanded_nested b) (λ ds. outcome (lift_book_of ds)) (λ r. fits r)
    both false = refl

module _ {b : List ℕ} {n : ℕ} {book : List ℕ} where
  pub reports_code : {out : List ℕ} {why : Refusal} → OpensNested b n book (Err why) → Reports (fault_at b n) (attempt_nested_of b (length out) n) out out (Err why)
  reports_code {out} o = rw (attempt_is b (length out) n) (reports_refused o.by.is o.by.coded o.placed)

  module _ {len : ℕ} (o : OpensNested b n book (Ok len)) where
    pub work_long : 65536 ≤ n
    work_long = nested_long b n o.by.is

    pub opened_book : Expanded (take len book)
    opened_book = record { of = o.by.left; book = o.by.holds; is_book = o.by.is_book }

    pub reports_lifts : {out out' : List ℕ} {r : Result Elaborated Refusal} → Lifts (take len book) out out' r → Reports (fault_at b n) (attempt_nested_of b (length out) n) out out' r
    reports_lifts {out} l = rw (attempt_is b (length out) n) (reports_lifted o.placed o.by.is o.by.holds o.by.is_book l)
