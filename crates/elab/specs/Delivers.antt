-- Demand 3 about the bytes that `elaborate` and `elaborate_nested` write, and what the exports of these hand to C: corollaries over their contracts.
use Rattle.std.specs.Prelude.{◌≡◌, List, ℕ, length, Result}
use Rattle.definition.specs.Answer.{Answer, attempt, fault_at, answer, output}
use Rattle.laws.specs.Book.{Bytes}
use Rattle.nested.specs.Nested.{expanded_nested, attempt_nested_of, answer_nested, output_nested}
use Rattle.demand3.specs.Delivered.{Delivered, DeliveredFrom}
use Rattle.what_comes_back.specs.declared.Elaborated.{Elaborated}
use Rattle.what_comes_back.specs.declared.Refusal.{Refusal}
use Rattle.what_comes_back.specs.declared.Report.{Report}
use Rattle.what_comes_back.specs.Elaborates.{elaborated_as, reported}
use Rattle.elab.specs.Only.{Says}

-- what the two `ensures` of `elaborate` say of its answer and of the output afterwards, and that the book was accepted, give demand 3
abbrev pub ElaborateDelivers : Type 0
ElaborateDelivers = (book out work : List ℕ) → Bytes book → (r : Result Elaborated Refusal) (after : List ℕ) → r ≡ elaborated_as (fault_at book (length work)) (attempt book (length out) (length work)) → after ≡ output book out (length work)
    → (reported r).code ≡ 0 → Delivered book (reported r) after

-- document 02 b: "demand 3 then reads 'after the last pass'"
abbrev pub NestedDelivers : Type 0
NestedDelivers = (book out work : List ℕ) → Bytes book → (r : Result Elaborated Refusal) (after : List ℕ) → r ≡ elaborated_as (fault_at book (length work)) (attempt_nested_of book (length out) (length work)) → after ≡ output_nested book out (length work)
    → (reported r).code ≡ 0 → DeliveredFrom (expanded_nested book) (reported r) after

-- the numbers that a caller in C gets, as an answer
abbrev pub as_answer : Report → Answer
as_answer r = record { code = r.code; size = r.length; definitions = r.definitions; lifts = r.lifted; at = r.at }

-- `samulsto_elaborate`
abbrev pub ExportDelivers : Type 0
ExportDelivers = (book out work : List ℕ) → Bytes book → (r : Report) (after : List ℕ) → Says r (answer book (length out) (length work)) → after ≡ output book out (length work)
    → r.code ≡ 0 → Delivered book (as_answer r) after

-- `samulsto_elaborate_nested`
abbrev pub NestedExportDelivers : Type 0
NestedExportDelivers = (book out work : List ℕ) → Bytes book → (r : Report) (after : List ℕ) → Says r (answer_nested book (length out) (length work)) → after ≡ output_nested book out (length work)
    → r.code ≡ 0 → DeliveredFrom (expanded_nested book) (as_answer r) after
