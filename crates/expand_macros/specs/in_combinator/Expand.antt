-- What expansion says of the trees that stand in the bytes.
use Rattle.std.specs.Prelude.{◌≡◌, List, [], ◌++◌, ℕ, ◌+◌, ◌≤◌, length, Option, Some, None}
use Rattle.definition.specs.Out.{Out, done, ◌>>=◌}
use Rattle.definition.specs.Tree.{Name, Inner, Inners, invocation, macro_invocation}
use Rattle.definition.specs.Write.{w_inner}
use Rattle.definition.specs.Macros.{Macro, instance, inner_of, expand_i}
use Rattle.layout.specs.items.Here.{Here}
use Rattle.buffer.specs.writes.Buf.{part}
use Rattle.walker.specs.pieces.Pieces.{Piece, places, written, expanded}
use Rattle.substitute.specs.substitution.Turned.{Areas}
use Rattle.substitute.specs.instance.Paired.{Defined}
use Rattle.expand_macros.specs.replace_call.Call.{Puts}
use Rattle.expand_macros.specs.known_macros.Table.{RowsOf}
use Rattle.expand_macros.specs.in_combinator.Deep.{DeepP}
use Rattle.expand_macros.specs.declared.known_macros.Macros.{Macros}

-- what stands at a place where the walk met a call
pub data IsCall : Inner → Type 0 where
  a_call : {n : Name} {a : List Name} → IsCall (invocation n a)
  a_macro : {n : Name} {xs : Inners} → IsCall (macro_invocation n xs)

-- a call that is replaced
pub record Replaced (macros : List ℕ) (ms : List Macro) (i : Inner) (def : ℕ) : Type 0 where
  pub name : Name
  pub args : Inners
  pub is_call : i ≡ macro_invocation name args
  pub known : Macro
  pub defined : Defined macros def known
  pub is : expand_i i ms ≡ (instance known.params args known.body >>= λ c. done (inner_of c))

-- rule 3: "A known invocation is replaced"; any other stays
abbrev pub Becomes : List ℕ → List Macro → Inner → Option ℕ → Type 0
Becomes macros ms i (Some def) = Replaced macros ms i def
Becomes macros ms i None = expand_i i ms ≡ done i

pub record MacroOf (book : List ℕ) (call : ℕ) (t : Macros) (r : Option ℕ) : Type 0 where
  pub says : (ms : List Macro) → RowsOf t ms → (i : Inner) (z : List ℕ) → IsCall i → Here book call (w_inner i z) → Becomes t.book.now ms i r

-- bytes in front of what is expanded
abbrev pub front : List ℕ → Out (List ℕ) → Out (List ℕ)
front b t = t >>= λ r. done (b ++ r)

-- rule 2: the pieces whose marks these are stand from some place on, up to `to`; what stands from `copied` up to there is not copied yet
pub record Expanding (t : Macros) (book : List ℕ) (to : ℕ) (marks areas out : List ℕ) (copied o : ℕ) (out' : List ℕ) (r : ℕ) : Type 0 where
  pub says : Areas t.book.now book areas → (ms : List Macro) → RowsOf t ms → (x : ℕ) (ps : List Piece) (z : List ℕ) → Here book x (written invocation ps z) → copied ≤ x
      → marks ≡ places x ps → to ≡ x + length (written invocation ps []) → DeepP ps → Puts out o (front (part copied x book) (expanded ms ps [])) out' r
