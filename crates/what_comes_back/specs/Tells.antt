-- The premise test's answer, by cases and in document 01's numbers.
use Rattle.std.specs.Prelude.{◌≡◌, ℕ, Bool, true, false, Result, Ok, Err}
use Rattle.definition.specs.Out.{Out, refused, done}
use Rattle.definition.specs.Premise.{PremiseAnswer}
use Rattle.what_comes_back.specs.declared.Numbers.{Numbers}
use Rattle.what_comes_back.specs.declared.Refusal.{Refusal}
use Rattle.what_comes_back.specs.Codes.{code_of, number_of}

-- "gives 1 to 6 as above, else yes or no"
unfoldable pub tested_as : ℕ → Out Bool → Result Bool Refusal
tested_as p (refused k) = Err (record { code = code_of k; at = p })
tested_as p (done b) = Ok b

-- in numbers: the code, 1 for yes, and the place
unfoldable pub told : Result Bool Refusal → PremiseAnswer
told (Ok true) = record { code = 0; holds = 1; at = 0 }
told (Ok false) = record { code = 0; holds = 0; at = 0 }
told (Err f) = record { code = number_of f.code; holds = 0; at = f.at }

-- these numbers
abbrev pub TestedInNumbers : Result Bool Refusal → Numbers → Type 0
TestedInNumbers t r = (r.code ≡ (told t).code) × (r.holds ≡ (told t).holds) × (r.at ≡ (told t).at)
