-- A row of the tables `Pinned`, `Limits` and `Places`: what is asked of the definition, and what it says.
use Rattle.std.specs.Prelude.{List, [], ◌∷◌, ◌++◌, ℕ, zero, suc, ◌+◌, ◌-◌, length}
use Prim.Native.String.{String}
use Rattle.definition.specs.Utf8.{utf8}
use Rattle.definition.specs.Tree.{Inner, Combinator, plain, Definition}
use Rattle.definition.specs.Write.{w_book}
use Rattle.definition.specs.Answer.{Answer, answer, output, zeroed}
use Rattle.definition.specs.Premise.{PremiseAnswer, premise}
use Rattle.definition.specs.Listing.{listing}
use Rattle.definition.specs.Rows.{Each}
use Rattle.definition.specs.Notation.{Nothing, Bytes, one, Macro}
use Rattle.definition.specs.Worked.{Outcome, refuses_at, gives, answer_of, noise}

pub data Row : Type 0 where
  -- a book, the output's length, the work area's length
  elaborates : List ℕ → ℕ → ℕ → Outcome → Row
  -- the premise test: a book, the work area's length, code, 1 for yes, and the place of the item at fault
  tells_at : List ℕ → ℕ → ℕ → ℕ → ℕ → Row
  lists : List ℕ → String → Row
  -- the work area before and after
  clears : List ℕ → List ℕ → Row

abbrev pub becomes : ℕ → List Definition → Outcome
becomes n ds = gives n ds (w_book ds)

abbrev room : Outcome → ℕ
room (refuses_at k p) = 1
room (gives n ds b) = length b + 1

-- a book given as bytes or as a tree, with room for the result and one byte more
abbrev pub raw : List ℕ → Outcome → Row
raw b o = elaborates b (room o) 65536 o

abbrev pub tree : List Definition → Outcome → Row
tree ds o = raw (w_book ds) o

-- of a book that reads without fault, or is not read
abbrev pub tells : List ℕ → ℕ → ℕ → ℕ → Row
tells b w k h = tells_at b w k h 0

abbrev pub uses : String → Combinator
uses n = plain (Bytes (n ∷ []))

-- a struct that uses n, and a macro call that is not known
abbrev pub H : Combinator
H = one "b" (uses "n")

abbrev pub zz : Combinator
zz = plain (Macro "zz" [])

-- a macro call inside a macro call, k deep
unfoldable pub nested : ℕ → Inner
nested zero = Nothing
nested (suc k) = Macro "z" (nested k ∷ [])

pub data Seen : Type 0 where
  answered : Answer → List ℕ → Seen
  told : PremiseAnswer → Seen
  printed : List ℕ → Seen
  left : List ℕ → Seen

unfoldable pub seen : Row → Seen
unfolding w_book answer output zeroed premise listing
seen (elaborates b o w x) = answered (answer b o w) (output b (noise o) w)
seen (tells_at b w k h p) = told (premise b w)
seen (lists b l) = printed (listing b)
seen (clears w z) = left (zeroed w)

abbrev filled : Outcome → ℕ → List ℕ
filled (refuses_at k p) o = noise o
filled (gives n ds b) o = b ++ noise (o - length b)

unfoldable pub expected : Row → Seen
expected (elaborates b o w x) = answered (answer_of x) (filled x o)
expected (tells_at b w k h p) = told (record { code = k; holds = h; at = p })
expected (lists b l) = printed (utf8 l)
expected (clears w z) = left z

-- every row comes out as it is written
abbrev pub Holds : List Row → Type 0
Holds table = Each seen expected table
