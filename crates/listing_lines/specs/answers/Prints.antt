-- What the lines of an answer leave in a buffer. Document 01, "Premise test and listing".
use Rattle.std.specs.Prelude.{◌≡◌, List, ℕ, ◌≤◌, length, Result}
use Rattle.definition.specs.Out.{Out, done}
use Rattle.definition.specs.Answer.{Result as Resulting, all}
use Rattle.definition.specs.Listing.{listed}
use Rattle.laws.specs.Book.{IsBook}
use Rattle.buffer.specs.writes.Buf.{Wrote}
use Rattle.what_comes_back.specs.declared.Elaborated.{Elaborated}
use Rattle.what_comes_back.specs.declared.Refusal.{Refusal}
use Rattle.what_comes_back.specs.Elaborates.{Reports}

-- the lines stand at the text's start, cut where it ends, and what is behind them is as before; a text of 65,536 bytes holds all of them
pub record Filled (lines text text' : List ℕ) (n : ℕ) : Type 0 where
  pub wrote : Wrote text 0 lines text' n
  pub fits : 65536 ≤ length text → n ≤ 65536

-- whatever the answer and the output are of, its lines: for each of the elaboration's modes
pub record Prints (r : Result Elaborated Refusal) (out text text' : List ℕ) (n : ℕ) : Type 0 where
  pub prints : (p : ℕ) → p ≤ 16384 → (m : Out Resulting) (out₀ : List ℕ) → Reports p m out₀ out r → ((q : Resulting) → m ≡ done q → IsBook (all q)) → Filled (listed p m) text text' n
