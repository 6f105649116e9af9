-- The book that is left when expansion is done.
use Rattle.std.specs.Prelude.{◌≡◌, List, [], ◌∷◌, map, Bool, true, false, ℕ, ◌+◌, ◌*◌, ◌≤◌, ◌<◌, leb, length}
use Rattle.definition.specs.Code.{macro_growth}
use Rattle.definition.specs.Out.{Out, refused, done, ◌>>=◌, given}
use Rattle.definition.specs.Tree.{Name, Combinator, Param, Definition, format, constant, byte_order, macro}
use Rattle.definition.specs.Write.{w_all, w_definition, kind_of, kind_byte, size_of, w_entries, entry_of, w_book}
use Rattle.definition.specs.Size.{levels, levels_p, levels_book}
use Rattle.definition.specs.Macros.{Macro, expand}
use Rattle.laws.specs.Book.{IsBook}
use Rattle.layout.specs.items.Here.{Here}
use Rattle.buffer.specs.writes.Buf.{put}
use Rattle.walker.specs.declared.definitions.Definitions.{Definitions}
use Rattle.walker.specs.declared.definitions.Entry.{Entry}
use Rattle.walker.specs.definitions.Listed.{Left}
use Rattle.expand_macros.specs.declared.known_macros.Macros.{Macros}
use Rattle.substitute.specs.substitution.Turned.{Areas}
use Rattle.expand_macros.specs.replace_call.Call.{Puts}
use Rattle.expand_macros.specs.known_macros.Table.{RowsOf}
use Rattle.expand_macros.specs.kept.Kept.{kept_of}

-- rule 5: "or the book left when expansion is done .. is over either": the levels, body by body
unfoldable pub shallow : Combinator → Out Combinator
shallow d = given (leb (levels d) 64) macro_growth d

unfoldable pub expand_one : Definition → List Macro → Out Definition
expand_one (format n ps c) ms = expand c ms >>= λ d. shallow d >>= λ e. done (format n ps e)
expand_one (constant n x) ms = done (constant n x)
expand_one (byte_order x) ms = done (byte_order x)
expand_one (macro n ps c) ms = done (macro n ps c)

abbrev pub and_one_of : Out Definition → Out (List Definition) → Out (List Definition)
and_one_of x t = x >>= λ e. t >>= λ es. done (e ∷ es)

unfoldable pub shallow_all : List Definition → List Macro → Out (List Definition)
shallow_all [] ms = done []
shallow_all (format n ps c ∷ ds) ms = and_one_of (expand_one (format n ps c) ms) (shallow_all ds ms)
shallow_all (constant n x ∷ ds) ms = and_one_of (expand_one (constant n x) ms) (shallow_all ds ms)
shallow_all (byte_order x ∷ ds) ms = and_one_of (expand_one (byte_order x) ms) (shallow_all ds ms)
shallow_all (macro n ps c ∷ ds) ms = shallow_all ds ms

-- what an expansion of the whole book needs
pub record Whole (t : Macros) (book areas marks out : List ℕ) (ms : List Macro) : Type 0 where
  pub sized : Areas t.book.now book areas
  -- a combinator of n bytes has at most n / 2 marks; the walk over what was made of it needs none
  pub marks-book : length book ≤ 2 * length marks
  pub out_short : length out ≤ 16384
  pub table : RowsOf t ms

pub record Formatted (t : Macros) (book : List ℕ) (at : ℕ) (areas marks out : List ℕ) (o : ℕ) (out' : List ℕ) (r : ℕ) : Type 0 where
  pub says : (ms : List Macro) → Whole t book areas marks out ms → (n : Name) (ps : List Param) (c : Combinator) (z : List ℕ) → Here book at (w_definition (format n ps c) z)
      → levels_p ps ≤ 64 → levels c ≤ 64 → Puts out o (expand_one (format n ps c) ms >>= λ e. done (w_definition e [])) out' r

pub record Kept (x : Entry) (t : Macros) (book areas marks out : List ℕ) (o : ℕ) (out' : List ℕ) (r : ℕ) : Type 0 where
  pub says : (ms : List Macro) → Whole t book areas marks out ms → (d : Definition) (z : List ℕ) → Here book x.at (w_definition d z)
      → x.kind ≡ kind_byte (kind_of d) → (x.kind ≡ 4 → ⊥) → x.size ≡ size_of d → levels_book (d ∷ []) ≤ 64 → Puts out o (expand_one d ms >>= λ e. done (w_definition e [])) out' r

-- the entries stand in out from e on, the bodies from o on, if the bodies fit; else the place is past the end
abbrev pub WritesBy : List ℕ → ℕ → ℕ → List Definition → List ℕ → ℕ → Bool → Type 0
WritesBy out e o es out' r true = (r ≡ o + length (w_all w_definition es [])) × (out' ≡ put (put out e (w_entries o (map entry_of es) [])) o (w_all w_definition es []))
WritesBy out e o es out' r false = length out < r

abbrev pub Writes : List ℕ → ℕ → ℕ → Out (List Definition) → List ℕ → ℕ → Type 0
Writes out e o (refused k) out' r = length out < r
Writes out e o (done es) out' r = WritesBy out e o es out' r (leb (o + length (w_all w_definition es [])) (length out))

-- the definitions that are left
pub record Listing (t : Macros) (book areas marks out : List ℕ) (d : Definitions) (e o : ℕ) (out' : List ℕ) (r : ℕ) : Type 0 where
  pub says : (ms : List Macro) → Whole t book areas marks out ms → (ds : List Definition) → Left book d ds → e + 6 * kept_of ds ≤ o → o ≤ length out
      → Writes out e o (shallow_all ds ms) out' r

pub record Booked (t : Macros) (book areas marks out : List ℕ) (o : ℕ) (out' : List ℕ) (r : ℕ) : Type 0 where
  pub says : (ms : List Macro) → Whole t book areas marks out ms → (ds : List Definition) → book ≡ w_book ds → IsBook ds → o ≡ 2 + 6 * kept_of ds → o ≤ length out
      → Writes out 2 o (shallow_all ds ms) out' r
