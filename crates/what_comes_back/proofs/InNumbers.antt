-- What comes back has the definition's numbers.
-- Assumes nothing.
use mathlib.Core.Path.{◌≡◌, refl, ap, ◌∙◌}
use mathlib.Core.Bool.{Bool, true, false}
use Prim.Native.Nat.{ℕ}
use Rattle.std.specs.Prelude.{Result}
use Rattle.definition.specs.Code.{Code, number, work_short, book_long, not_a_book, bad_name, too_deep_of, macro_growth, leftover_macro, no_binder, name_long, result_long, output_short, macro_left}
use Rattle.definition.specs.Out.{Out, refused, done}
use Rattle.definition.specs.Answer.{Result as Resulting, answered}
use Rattle.definition.specs.Premise.{told as toldOf}
use Rattle.what_comes_back.specs.declared.Elaborated.{Elaborated}
use Rattle.what_comes_back.specs.declared.Refusal.{Refusal}
use Rattle.what_comes_back.specs.Codes.{code_of, number_of}
use Rattle.what_comes_back.specs.Elaborates.{elaborated_as, reported}
use Rattle.what_comes_back.specs.Tells.{tested_as, told}

pub code_number : (k : Code) → number_of (code_of k) ≡ number k
unfolding number
code_number work_short = refl
code_number book_long = refl
code_number not_a_book = refl
code_number bad_name = refl
code_number too_deep_of = refl
code_number macro_growth = refl
code_number leftover_macro = refl
code_number no_binder = refl
code_number name_long = refl
code_number result_long = refl
code_number output_short = refl
code_number macro_left = refl

as_answered : (p : ℕ) (m : Out Resulting) → reported (elaborated_as p m) ≡ answered p m
unfolding reported elaborated_as answered
as_answered p (refused k) = rw (code_number k)
as_answered p (done q) = refl

pub elaborated_numbers : (p : ℕ) (m : Out Resulting) {r : Result Elaborated Refusal} → r ≡ elaborated_as p m → reported r ≡ answered p m
elaborated_numbers p m e = ap (λ (x : Result Elaborated Refusal). reported x) e ∙ as_answered p m

as_told : (p : ℕ) (m : Out Bool) → told (tested_as p m) ≡ toldOf p m
unfolding told tested_as toldOf
as_told p (refused k) = rw (code_number k)
as_told p (done true) = refl
as_told p (done false) = refl

pub tested_numbers : (p : ℕ) (m : Out Bool) {r : Result Bool Refusal} → r ≡ tested_as p m → told r ≡ toldOf p m
tested_numbers p m e = ap (λ (x : Result Bool Refusal). told x) e ∙ as_told p m
