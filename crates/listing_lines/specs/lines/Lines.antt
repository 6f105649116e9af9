-- What the listing leaves in a buffer. Document 01, "Premise test and listing".
use Rattle.std.specs.Prelude.{List, Bool, true, false, ℕ}
use Rattle.definition.specs.Listing.{listing}
use Rattle.nested.specs.Nested.{listing_nested}
use Rattle.listing_lines.specs.answers.Prints.{Filled}

abbrev pub Tells : List ℕ → List ℕ → List ℕ → ℕ → Type 0
Tells book text text' n = Filled (listing book) text text' n

abbrev pub TellsNested : List ℕ → List ℕ → List ℕ → ℕ → Type 0
TellsNested book text text' n = Filled (listing_nested book) text text' n

abbrev pub listing_in : Bool → List ℕ → List ℕ
listing_in true book = listing_nested book
listing_in false book = listing book

abbrev pub TellsIn : Bool → List ℕ → List ℕ → List ℕ → ℕ → Type 0
TellsIn nested book text text' n = Filled (listing_in nested book) text text' n
