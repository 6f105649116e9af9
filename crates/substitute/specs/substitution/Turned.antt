-- What the turn of a parameter says of the trees that stand in the bytes.
use Rattle.std.specs.Prelude.{◌≡◌, List, [], Option, IsNone, IsSomeAnd, ℕ, ◌≤◌, leb, length, take}
use Rattle.definition.specs.Tree.{Name, Combinator, Inner}
use Rattle.definition.specs.Code.{macro_growth}
use Rattle.definition.specs.Out.{Out, refused, done, ◌>>=◌, given}
use Rattle.definition.specs.Write.{w_name, w_inner, w_combinator}
use Rattle.definition.specs.Size.{size, levels, levels_i}
use Rattle.definition.specs.Macros.{subst, limited}
use Rattle.layout.specs.items.Here.{Here}
use Rattle.walker.specs.pieces.Pieces.{pieces, places}
use Rattle.buffer.specs.areas.First.{first}
use Rattle.substitute.specs.declared.substitution.Turn.{Turn}

-- what an expansion works with: both books, and two areas in one for combinators of at most 16,384 bytes
pub record Areas (macros book areas : List ℕ) : Type 0 where
  pub macros_short : length macros ≤ 16384
  pub book_short : length book ≤ 16384
  pub areas_long : length areas ≡ 32768

-- how many marks a combinator has: the place and the end of each of its calls
abbrev pub marks_of : Combinator → ℕ
marks_of c = length (places 0 (pieces c []))

-- rule 5, with a row that has room for k marks: a combinator that has more is left to a longer one. None has more than 8,192
unfoldable pub limited_by : ℕ → Combinator → Out Combinator
limited_by k c = do
  d ← limited c
  given (leb (marks_of d) k) macro_growth d

-- c stands at the front of a and takes len bytes; the first n marks are the place and the end of each of its calls
pub record Holds (a marks : List ℕ) (len n : ℕ) (c : Combinator) : Type 0 where
  pub rest : List ℕ
  pub here : Here a 0 (w_combinator c rest)
  pub end : len ≡ size c
  pub marked : take n marks ≡ places 0 (pieces c [])
  pub deep : levels c ≤ 64

-- the turn of a parameter after which d stands in a, with what follows the parameter and the argument
abbrev pub Went : List ℕ → List ℕ → List ℕ → List ℕ → Option Turn → List ℕ → List ℕ → Out Combinator → Type 0
Went macros book a marks r z y (refused k) = IsNone r
Went macros book a marks r z y (done d) = IsSomeAnd r (λ t. Here macros t.param z × Here book t.arg y × Holds a marks t.len t.n d)

-- rule 4: one parameter
pub record Turned (macros book areas marks : List ℕ) (t : Turn) (areas' marks' : List ℕ) (r : Option Turn) : Type 0 where
  pub says : Areas macros book areas → (p : Name) (x : Inner) (c : Combinator) (z y : List ℕ) → Here macros t.param (w_name p z) → Here book t.arg (w_inner x y) → levels_i x ≤ 63
      → Holds (first areas) marks t.len t.n c → Went macros book (first areas') marks' r z y (limited_by (length marks) (subst c p x))
