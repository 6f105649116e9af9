-- What the calls answer by cases, in the definition's numbers.
-- Assumes nothing.
use mathlib.Core.Path.{◌≡◌}
use mathlib.Core.List.{List}
use Prim.Native.Nat.{ℕ}
use mathlib.Core.Bool.{Bool}
use Rattle.std.specs.Prelude.{Result}
use Rattle.definition.specs.Answer.{attempt, fault_at, answer}
use Rattle.definition.specs.Premise.{tested, premise}
use Rattle.nested.specs.Nested.{attempt_nested_of, answer_nested}
use Rattle.what_comes_back.specs.declared.Elaborated.{Elaborated}
use Rattle.what_comes_back.specs.declared.Refusal.{Refusal}
use Rattle.what_comes_back.specs.Elaborates.{elaborated_as, reported}
use Rattle.what_comes_back.specs.Tells.{tested_as, told}
use Rattle.what_comes_back.proofs.InNumbers.{elaborated_numbers, tested_numbers}

pub plain_numbers : (book : List ℕ) (out work : ℕ) {r : Result Elaborated Refusal} → r ≡ elaborated_as (fault_at book work) (attempt book out work) → reported r ≡ answer book out work
unfolding answer
plain_numbers book out work e = elaborated_numbers (fault_at book work) (attempt book out work) e

pub nested_numbers : (book : List ℕ) (out work : ℕ) {r : Result Elaborated Refusal} → r ≡ elaborated_as (fault_at book work) (attempt_nested_of book out work) → reported r ≡ answer_nested book out work
unfolding answer_nested
nested_numbers book out work e = elaborated_numbers (fault_at book work) (attempt_nested_of book out work) e

pub premise_numbers : (book : List ℕ) (work : ℕ) {r : Result Bool Refusal} → r ≡ tested_as (fault_at book work) (tested book work) → told r ≡ premise book work
unfolding premise
premise_numbers book work e = tested_numbers (fault_at book work) (tested book work) e
