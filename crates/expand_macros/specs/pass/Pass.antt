-- A pass of expansion: macros come from a book of their own (document 02 b and i); in the plain mode the same book is handed in twice.
use Rattle.std.specs.Prelude.{◌≡◌, List, [], ◌++◌, ◌&&◌, ℕ, ◌*◌, ◌≤◌, leb, length, drop, Result, Ok, Err}
use Rattle.definition.specs.Code.{macro_growth}
use Rattle.definition.specs.Out.{Out, refused, done, ◌>>=◌, given}
use Rattle.definition.specs.Tree.{Definition}
use Rattle.definition.specs.Write.{w_book}
use Rattle.definition.specs.Size.{size_book, levels_book}
use Rattle.definition.specs.Macros.{macros, expand_all}
use Rattle.laws.specs.Book.{IsBook}
use Rattle.what_comes_back.specs.declared.Code.{Code}
use Rattle.what_comes_back.specs.declared.Code.TheVariants.{MacroGrowth}

-- rules 1 to 5, with the macros of ms
unfoldable pub pass : List Definition → List Definition → Out (List Definition)
pass ms ds = do
  es ← expand_all ds (macros ms [])
  given (leb (size_book es) 16384 && leb (levels_book es) 64) macro_growth es

-- and where the book has room for so many bytes only
unfoldable pub fitting : ℕ → Out (List Definition) → Out (List Definition)
fitting room m = do
  es ← m
  given (leb (size_book es) room) macro_growth es

-- the length of the expanded book, or code 6
abbrev pub answer_of : Out (List Definition) → Result ℕ Code
answer_of (refused k) = Err MacroGrowth
answer_of (done es) = Ok (size_book es)

-- and its bytes
abbrev pub leaves : Out (List Definition) → List ℕ → List ℕ → Type 0
leaves (refused k) out out' = length out' ≡ length out
leaves (done es) out out' = out' ≡ w_book es ++ drop (size_book es) out

abbrev pub Leaves : Out (List Definition) → List ℕ → List ℕ → Result ℕ Code → Type 0
Leaves m out out' r = (r ≡ answer_of m) × leaves m out out'

pub record Passed (lib book areas out out' : List ℕ) (r : Result ℕ Code) : Type 0 where
  pub says : (ms ds : List Definition) → lib ≡ w_book ms → IsBook ms → book ≡ w_book ds → IsBook ds → length areas ≡ 32768 → length out ≤ 16384
      → Leaves (fitting (length out) (pass ms ds)) out out' r

-- with so many marks, which are enough for the book
pub record PassedBy (marks : ℕ) (lib book areas out out' : List ℕ) (r : Result ℕ Code) : Type 0 where
  pub says : (ms ds : List Definition) → lib ≡ w_book ms → IsBook ms → book ≡ w_book ds → IsBook ds → length areas ≡ 32768 → length out ≤ 16384
      → length book ≤ 2 * marks → Leaves (fitting (length out) (pass ms ds)) out out' r
