-- The contents and the bodies. Document 01: "Contents first: u16 count n, 0 to 512; then n entries .. Then the bodies in the same order, with no gap".
-- `width` is an entry's size: 6 in the book of document 01, and a parameter here for the second edition of document 02 k.
use Rattle.std.specs.Prelude.{List, [], ◌∷◌, ◌++◌, ◌&&◌, ℕ, zero, suc, ◌+◌, ◌-◌, ◌*◌, eqb, leb, length}
use Rattle.definition.specs.Code.{not_a_book}
use Rattle.definition.specs.Res.{Res, bad, ok, ◌>>=◌, require, from}
use Rattle.definition.specs.Utf8.{behind, characters, well_formed}
use Rattle.definition.specs.Tree.{Kind, Entry, Definition}
use Rattle.definition.specs.Read.{Reader, u16, part, text, no_dot_of, dot_allowed, undotted, byte, name_by, names_by, name, known, one_of, len, selector_by, selector, label, field_by, fields, cases, inners, items, level, too_deep, chain_by, chain, combinator, params, kinds, definition}

-- "kind, a zero byte, u16 offset, u16 length"; "each next is the previous offset plus its length".
-- `all` is the book's length, `at` where the body has to start. A fault in an entry is the entry's
unfoldable pub entry : ℕ → ℕ → ℕ → Reader Entry
entry width all at s = from s (do
  (k, s) ← one_of kinds s
  (z, s) ← byte s
  (o, s) ← u16 s
  (n, s) ← u16 s
  (x, s) ← part (width - 6) s
  (u, s) ← require (eqb z 0 && eqb o at && leb (at + n) all) not_a_book s
  ok (record { kind = k; size = n; extra = x }) s)

unfoldable pub entries : ℕ → ℕ → ℕ → ℕ → Reader (List Entry)
entries width all zero at s = ok [] s
entries width all (suc n) at s = do
  (e, s) ← entry width all at s
  (es, s) ← entries width all n (at + e.size) s
  ok (e ∷ es) s

-- a body cut out, and what follows it in the book
pub record Body : Type 0 where
  pub kind : Kind
  pub own : List ℕ
  pub later : List ℕ

unfoldable pub cut : List Entry → Reader (List Body)
cut [] s = ok [] s
cut (e ∷ es) s = do
  (b, s) ← part e.size s
  (bs, r) ← cut es s
  ok (record { kind = e.kind; own = b; later = s } ∷ bs) r

module _ {A : Type 0} where
  -- "bytes left over in a body are 3", and "the book ends with the last body"
  unfoldable pub at_end : A → Reader A
  at_end a [] = ok a []
  at_end a (b ∷ s) = bad not_a_book (b ∷ s)

  unfoldable pub whole : Res (List ℕ) A → Res (List ℕ) A
  whole m = do
    (a, s) ← m
    at_end a s

  -- a fault in a body, as a place in the book
  unfoldable pub within : List ℕ → Res (List ℕ) A → Res (List ℕ) A
  within later (bad k s) = bad k (s ++ later)
  within later (ok a s) = ok a s

unfoldable pub bodies : List Body → Res (List ℕ) (List Definition)
bodies [] = ok [] []
bodies (b ∷ bs) = do
  (d, s) ← within b.later (whole (definition b.kind b.own))
  (ds, s) ← bodies bs
  ok (d ∷ ds) []

-- "Contents first: u16 count n, 0 to 512"
unfoldable pub count : Reader ℕ
count s = from s (do
  (n, s) ← u16 s
  (u, s) ← require (leb n 512) not_a_book s
  ok n s)

-- "the first offset is 2 + 6n"
unfoldable pub contents : ℕ → Reader (List Entry)
contents width s = do
  (n, r) ← count s
  entries width (length s) n (2 + width * n) r

-- "the contents are tested whole, then bodies in order"; "the book ends with the last body": bytes behind it come before any body's fault (reading 12, docs/READINGS.md)
unfoldable pub book : ℕ → Reader (List Definition)
book width s = do
  (es, r) ← contents width s
  (bs, r) ← whole (cut es r)
  bodies bs

-- the book of document 01, with all that it takes to compute
unfoldable pub read_book_of : Reader (List Definition)
unfolding u16 part text behind characters well_formed no_dot_of dot_allowed undotted byte name_by names_by name known one_of len selector_by selector label field_by fields cases inners items level too_deep chain_by chain combinator params definition entry entries cut at_end whole within bodies count contents book
read_book_of s = book 6 s
