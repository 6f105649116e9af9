-- Document 02 b, "run it again on its result with the same macros": what passes over the bytes of a book make of its list.
use Rattle.std.specs.Prelude.{◌≡◌, ◌⊎◌, List, [], ℕ, ◌≤◌, length, take, Result, Ok, Err}
use Rattle.definition.specs.Code.{macro_growth, macro_left}
use Rattle.definition.specs.Out.{Out, refused, done}
use Rattle.definition.specs.Tree.{Definition}
use Rattle.definition.specs.Write.{w_book}
use Rattle.definition.specs.Macros.{macros}
use Rattle.laws.specs.Book.{IsBook}
use Rattle.nested.specs.Nested.{pass, again}
use Rattle.what_comes_back.specs.declared.Code.{Code}
use Rattle.what_comes_back.specs.declared.Code.TheVariants.{MacroGrowth, MacroLeft}

-- a list that stands in the first bytes of a book's area
pub record Stands (m : Out (List Definition)) (area : List ℕ) (len : ℕ) : Type 0 where
  pub list : List Definition
  pub is : m ≡ done list
  pub is_book : IsBook list
  pub holds : take len area ≡ w_book list
  pub fits : len ≤ 16384
  pub long : length area ≡ 16384

-- a pass: the list, or 6
abbrev pub BackBy : Out (List Definition) → List ℕ → Result ℕ Code → Type 0
BackBy m area (Ok len) = Stands m area len
BackBy m area (Err k) = (m ≡ refused macro_growth) × (k ≡ MacroGrowth)

-- the macros of lib, and a book in the first bytes of an area; beside it stand the areas of an expansion, and room for its result
pub record PassedBack (lib area : List ℕ) (len areas room : ℕ) (area' : List ℕ) (r : Result ℕ Code) : Type 0 where
  pub says : (ms ds : List Definition) → lib ≡ w_book ms → IsBook ms → take len area ≡ w_book ds → IsBook ds → length area ≡ 16384 → areas ≡ 32768 → room ≡ 16384 → BackBy (pass (macros ms []) ds) area' r

-- several: the list, 6 or 12
abbrev pub AgainBy : Out (List Definition) → List ℕ → Result ℕ Code → Type 0
AgainBy m area (Ok len) = Stands m area len
AgainBy m area (Err k) = ((m ≡ refused macro_growth) × (k ≡ MacroGrowth)) ⊎ ((m ≡ refused macro_left) × (k ≡ MacroLeft))

-- so many more passes may be made
pub record Again (lib area : List ℕ) (len left areas room : ℕ) (area' : List ℕ) (r : Result ℕ Code) : Type 0 where
  pub says : (ms ds : List Definition) → lib ≡ w_book ms → IsBook ms → take len area ≡ w_book ds → IsBook ds → len ≤ 16384 → length area ≡ 16384 → areas ≡ 32768 → room ≡ 16384
      → AgainBy (again left (macros ms []) ds) area' r
