-- "That no second answer fits is proved": whatever meets what a contract says of an answer is that one answer.
use Rattle.std.specs.Prelude.{◌≡◌, List, ℕ, Bool, Result}
use Rattle.definition.specs.Answer.{attempt, fault_at, Answer}
use Rattle.definition.specs.Premise.{tested, PremiseAnswer}
use Rattle.nested.specs.Nested.{attempt_nested_of}
use Rattle.what_comes_back.specs.declared.Elaborated.{Elaborated}
use Rattle.what_comes_back.specs.declared.Refusal.{Refusal}
use Rattle.what_comes_back.specs.declared.Report.{Report}
use Rattle.what_comes_back.specs.declared.Numbers.{Numbers}
use Rattle.what_comes_back.specs.Elaborates.{elaborated_as}
use Rattle.what_comes_back.specs.Tells.{tested_as}

-- of `elaborate`
abbrev pub OneElaborated : Type 0
OneElaborated = (book : List ℕ) (out work : ℕ) (r q : Result Elaborated Refusal) → r ≡ elaborated_as (fault_at book work) (attempt book out work) → q ≡ elaborated_as (fault_at book work) (attempt book out work) → r ≡ q

-- of `elaborate_nested`
abbrev pub OneNested : Type 0
OneNested = (book : List ℕ) (out work : ℕ) (r q : Result Elaborated Refusal) → r ≡ elaborated_as (fault_at book work) (attempt_nested_of book out work) → q ≡ elaborated_as (fault_at book work) (attempt_nested_of book out work) → r ≡ q

-- of `premise`
abbrev pub OneTested : Type 0
OneTested = (book : List ℕ) (work : ℕ) (r q : Result Bool Refusal) → r ≡ tested_as (fault_at book work) (tested book work) → q ≡ tested_as (fault_at book work) (tested book work) → r ≡ q

-- of the exports that elaborate, whichever answer it is
abbrev pub Says : Report → Answer → Type 0
Says r a = (r.code ≡ a.code) × (r.length ≡ a.size) × (r.definitions ≡ a.definitions) × (r.lifted ≡ a.lifts) × (r.at ≡ a.at)

abbrev pub OneReport : Type 0
OneReport = (a : Answer) (r q : Report) → Says r a → Says q a → r ≡ q

-- of the export of the premise test
abbrev pub Tells : Numbers → PremiseAnswer → Type 0
Tells r a = (r.code ≡ a.code) × (r.holds ≡ a.holds) × (r.at ≡ a.at)

abbrev pub OneNumbers : Type 0
OneNumbers = (a : PremiseAnswer) (r q : Numbers) → Tells r a → Tells q a → r ≡ q
