-- How many definitions of a book are left without its macros.
use Rattle.std.specs.Prelude.{◌≡◌, List, [], ◌∷◌, Bool, ℕ, suc, eqb, length}
use Rattle.definition.specs.Tree.{Definition, format, constant, byte_order, macro}
use Rattle.definition.specs.Write.{w_book}
use Rattle.laws.specs.Book.{IsBook}

-- rule 1: "All kind 4 definitions are then removed": how many are left
unfoldable pub kept_of : List Definition → ℕ
kept_of [] = 0
kept_of (format n ps c ∷ ds) = suc (kept_of ds)
kept_of (constant n x ∷ ds) = suc (kept_of ds)
kept_of (byte_order x ∷ ds) = suc (kept_of ds)
kept_of (macro n ps c ∷ ds) = kept_of ds

pub record KeptOf (book : List ℕ) (r : ℕ) : Type 0 where
  pub says : (ds : List Definition) → book ≡ w_book ds → IsBook ds → r ≡ kept_of ds

-- a book has no macros exactly when all its definitions are kept
pub record Macroless (book : List ℕ) (r : Bool) : Type 0 where
  pub says : (ds : List Definition) → book ≡ w_book ds → IsBook ds → r ≡ eqb (kept_of ds) (length ds)
