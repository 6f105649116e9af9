-- The parameters of a lift: what the one call answers, and what its three tables hold then, on any bytes. That they are the definition's
-- `sorted (free c)` is shown in proofs/Parameters.antt.
-- Assumes nothing.
use Rattle.std.specs.Prelude.{List, ℕ, Result, Ok, Err}
use Rattle.what_comes_back.specs.declared.Code.{Code}
use Rattle.collect_params.specs.collect.Walk.{collect_at, answer_of}
use Rattle.collect_params.specs.params.Once.{sorted_by}

-- the answer, the labels, the uses and the spare table
abbrev pub Tables : Type 0
Tables = Result ℕ Code × List ℕ × List ℕ × List ℕ

unfoldable pub sorted_or : List ℕ → Result ℕ Code → List ℕ → List ℕ → List ℕ → Tables
sorted_or s (Err c) bound uses spare = (Err c, bound, uses, spare)
sorted_or s (Ok n) bound uses spare =
    let g = sorted_by s uses n spare in
    (Ok g.0, bound, g.1, g.2)

unfoldable pub params_at : List ℕ → ℕ → List ℕ → List ℕ → List ℕ → Tables
params_at s at bound uses spare =
    let g = collect_at s at bound uses in
    sorted_or s (answer_of g.0) g.1 g.2 spare
