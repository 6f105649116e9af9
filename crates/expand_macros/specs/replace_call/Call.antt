-- What an instance of a macro says of the trees that stand in the bytes: its call, its inner.
use Rattle.std.specs.Prelude.{◌≡◌, List, [], Bool, true, false, Option, IsNone, IsSomeAnd, ℕ, suc, ◌≤◌, leb, length}
use Rattle.definition.specs.Code.{macro_growth}
use Rattle.definition.specs.Out.{Out, refused, done, ◌>>=◌, given}
use Rattle.definition.specs.Tree.{Name, Combinator, Inners, macro_invocation}
use Rattle.definition.specs.Write.{w_name, w_all, w_inner, w_inners}
use Rattle.definition.specs.Size.{levels_a}
use Rattle.definition.specs.Macros.{Macro, instance, inner_of}
use Rattle.layout.specs.items.Here.{Here}
use Rattle.buffer.specs.writes.Buf.{Wrote}
use Rattle.buffer.specs.areas.First.{first}
use Rattle.substitute.specs.declared.substitution.Turn.{Turn}
use Rattle.substitute.specs.substitution.Turned.{Areas, Holds, marks_of}
use Rattle.substitute.specs.instance.Instance.{instance_by, Made}
use Rattle.substitute.specs.instance.Paired.{Defined}

-- a write, or code 6: then the place after is past the end
abbrev pub Puts : List ℕ → ℕ → Out (List ℕ) → List ℕ → ℕ → Type 0
Puts d at (refused k) d' r = r ≡ suc (length d)
Puts d at (done l) d' r = Wrote d at l d' r

-- a macro and a call of it before the first turn: the body stands in the first area
pub record Open (macros book areas marks : List ℕ) (t : Turn) (m : Macro) (xs : Inners) (z : List ℕ) : Type 0 where
  pub behind : List ℕ
  pub params : Here macros t.param (w_all w_name m.params behind)
  pub args : Here book t.arg (w_inners xs z)
  pub holds : Holds (first areas) marks t.len t.n m.body

-- where the row of marks has room for those of the body
abbrev pub Begun : List ℕ → List ℕ → List ℕ → List ℕ → Option Turn → Macro → Inners → List ℕ → Bool → Type 0
Begun macros book areas marks r m xs z true = IsSomeAnd r (λ t. Open macros book areas marks t m xs z)
Begun macros book areas marks r m xs z false = IsNone r

pub record Opened (macros : List ℕ) (def : ℕ) (book : List ℕ) (call : ℕ) (areas marks areas' marks' : List ℕ) (r : Option Turn) : Type 0 where
  pub says : length macros ≤ 16384 → length areas ≡ 32768 → (m : Macro) → Defined macros def m → (n : Name) (xs : Inners) (z : List ℕ) → Here book call (w_inner (macro_invocation n xs) z)
      → Begun macros book areas' marks' r m xs z (leb (marks_of m.body) (length marks))

-- rule 4 with a row that has room for k marks
unfoldable pub instance_in : ℕ → Macro → Inners → Out Combinator
instance_in k m xs = do
  c ← given (leb (marks_of m.body) k) macro_growth m.body
  instance_by k m.params xs c

pub record Makes (macros : List ℕ) (def : ℕ) (book : List ℕ) (call : ℕ) (areas marks areas' marks' : List ℕ) (r : Option Turn) : Type 0 where
  pub says : Areas macros book areas → (m : Macro) → Defined macros def m → (n : Name) (xs : Inners) (z : List ℕ) → Here book call (w_inner (macro_invocation n xs) z) → levels_a xs ≤ 64
      → Made (first areas') marks' r (instance_in (length marks) m xs)

-- rule 3: "replaced by the macro body's inner"
pub record Called (macros : List ℕ) (def : ℕ) (book : List ℕ) (call : ℕ) (areas out : List ℕ) (o : ℕ) (out' : List ℕ) (r : ℕ) : Type 0 where
  pub says : Areas macros book areas → (m : Macro) → Defined macros def m → (n : Name) (xs : Inners) (z : List ℕ) → Here book call (w_inner (macro_invocation n xs) z) → levels_a xs ≤ 64
      → Puts out o (instance m.params xs m.body >>= λ c. done (w_inner (inner_of c) [])) out' r
