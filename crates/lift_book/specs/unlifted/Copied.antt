-- What the copy of a book leaves in the output.
use Rattle.std.specs.Prelude.{◌≡◌, List, ◌++◌, ℕ, leb, length, drop, Result, Ok, Err}
use Rattle.layout.specs.items.At.{pick}
use Rattle.what_comes_back.specs.declared.Code.{Code}
use Rattle.what_comes_back.specs.declared.Code.TheVariants.{OutputShort}

-- "On 0 the result fills the output's first bytes and the rest is as before."
pub record Copied (s out out' : List ℕ) (r : Result Unit Code) : Type 0 where
  pub fits : r ≡ pick (leb (length s) (length out)) (Ok tt) (Err OutputShort)
  pub holds : out' ≡ pick (leb (length s) (length out)) (s ++ drop (length s) out) out
