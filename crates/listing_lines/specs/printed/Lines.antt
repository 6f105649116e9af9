-- What the listing's lines leave in a buffer. Document 01, "Premise test and listing".
use Rattle.std.specs.Prelude.{◌≡◌, List, [], ◌∷◌, ◌++◌, ℕ, zero, suc, ◌≤◌, length}
use Rattle.definition.specs.Out.{done}
use Rattle.definition.specs.Tree.{Definition}
use Rattle.definition.specs.Write.{w_definition, kind_of, kind_byte, w_book}
use Rattle.definition.specs.Answer.{Result, all}
use Rattle.definition.specs.Listing.{w_format, w_lifted, line, lines, listed}
use Rattle.laws.specs.Book.{IsBook}
use Rattle.buffer.specs.writes.Buf.{Wrote}
use Rattle.layout.specs.items.Here.{Here}
use Rattle.walker.specs.declared.definitions.Definitions.{Definitions}
use Rattle.walker.specs.definitions.Listed.{Left}

-- how many definitions that were there are left
unfoldable pub word_of : ℕ → List ℕ
word_of zero = w_lifted
word_of (suc n) = w_format

-- the line of a definition that stands at a place
pub record Line (s : List ℕ) (kind at kept : ℕ) (d : List ℕ) (o : ℕ) (d' : List ℕ) (r : ℕ) : Type 0 where
  pub says : (x : Definition) (z : List ℕ) → kind ≡ kind_byte (kind_of x) → Here s at (w_definition x z) → Wrote d o (line (word_of kept) x) d' r

-- the lines of the definitions that are left, of which the first were there
pub record Lines (s : List ℕ) (e : Definitions) (kept : ℕ) (d : List ℕ) (o : ℕ) (d' : List ℕ) (r : ℕ) : Type 0 where
  pub says : (ks ls : List Definition) → Left s e (ks ++ ls) → kept ≡ length ks → o ≤ suc (length d) → Wrote d o (lines w_format ks ++ lines w_lifted ls) d' r

-- of a whole book, behind a newline
pub record AllLines (s : List ℕ) (kept : ℕ) (d : List ℕ) (o : ℕ) (d' : List ℕ) (r : ℕ) : Type 0 where
  pub says : (ks ls : List Definition) → s ≡ w_book (ks ++ ls) → IsBook (ks ++ ls) → kept ≡ length ks → Wrote d o ((10 ∷ []) ++ (lines w_format ks ++ lines w_lifted ls)) d' r

-- "`ok D L` (definitions, lifted) and a line per definition"
pub record Lists (s : List ℕ) (definitions lifted : ℕ) (d d' : List ℕ) (n : ℕ) : Type 0 where
  pub says : (p : ℕ) (r : Result) → s ≡ w_book (all r) → IsBook (all r) → definitions ≡ length (all r) → lifted ≡ length r.lifted → Wrote d 0 (listed p (done r)) d' n
