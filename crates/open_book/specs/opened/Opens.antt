-- The steps that all entry points share: codes 1 to 6, and the expanded book.
use Rattle.std.specs.Prelude.{◌≡◌, List, ℕ, ◌≤◌, Result, Ok, Err}
use Rattle.definition.specs.Out.{Out}
use Rattle.definition.specs.Tree.{Definition}
use Rattle.definition.specs.Answer.{fault_at}
use Rattle.expand_macros.specs.pass.Pass.{fitting}
use Rattle.what_comes_back.specs.declared.Refusal.{Refusal}
use Rattle.open_book.specs.begin.Begins.{opened, Refuses, Expands}

abbrev pub OpensBy : Out (List Definition) → List ℕ → Result ℕ Refusal → Type 0
OpensBy m out (Ok len) = Expands m out len
OpensBy m out (Err f) = Refuses m f.code

-- an output that is shorter than the longest book takes what fits into it; what does not is refused with 6 too
abbrev pub OpensIn : ℕ → Out (List Definition) → List ℕ → Result ℕ Refusal → Type 0
OpensIn room m out (Ok len) = Expands (fitting room m) out len × (len ≤ room)
OpensIn room m out (Err f) = Refuses (fitting room m) f.code

-- document 02 a: a refusal hands on the place of the item at fault, and an expanded book has none
abbrev pub PlacedBy : ℕ → Result ℕ Refusal → Type 0
PlacedBy p (Ok len) = p ≡ 0
PlacedBy p (Err f) = f.at ≡ p

pub record Opens (book : List ℕ) (workLength outLength : ℕ) (out : List ℕ) (r : Result ℕ Refusal) : Type 0 where
  pub within : outLength ≤ 16384 → OpensIn outLength (opened book workLength) out r
  pub by : outLength ≡ 16384 → OpensBy (opened book workLength) out r
  pub placed : PlacedBy (fault_at book workLength) r
