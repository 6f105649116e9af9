-- Document 01, "Worked books": P1 to P10 as one table, with one theorem over it (`Worked`, proved in proofs/Worked).
-- A row has the book as a tree and as bytes, and what comes of it. The bytes were written by another program than the definition.
-- "Run: 63 Vecs .." is run by the programs over the code.
use Rattle.std.specs.Prelude.{List, [], ◌∷◌, ◌++◌, ℕ, length, replicate}
use Prim.Native.String.{String}
use Rattle.definition.specs.Utf8.{utf8}
use Rattle.definition.specs.Res.{Maybe, absent, just}
use Rattle.definition.specs.Tree.{plain, chained, struct, no_field, Combinator, Definition}
use Rattle.definition.specs.Write.{w_book}
use Rattle.definition.specs.Answer.{Answer, answer, output}
use Rattle.definition.specs.Listing.{listing}
use Rattle.definition.specs.Rows.{Each}
use Rattle.definition.specs.Notation.{hex, Int, Enum, Nothing, Bytes, Vec, Call, ord, dep, one, Macro, param, fmt, mac}

-- what comes of a book: a code, or the result's tree and bytes and the count lifted
pub data Outcome : Type 0 where
  -- a code, and the place of the item at fault
  refuses_at : ℕ → ℕ → Outcome
  gives : ℕ → List Definition → List ℕ → Outcome

-- a code without a place
abbrev pub refuses : ℕ → Outcome
refuses k = refuses_at k 0

pub record Row : Type 0 where
  -- no tree: the bytes are no book
  pub tree : Maybe (List Definition)
  pub book : List ℕ
  pub outcome : Outcome
  -- where document 01 gives it
  pub listing : Maybe (List ℕ)

abbrev row : List Definition → String → Outcome → Row
row ds b o = record { tree = just ds; book = hex b; outcome = o; listing = absent }

abbrev listed : List Definition → String → Outcome → String → Row
listed ds b o l = record { tree = just ds; book = hex b; outcome = o; listing = just (utf8 l) }

abbrev treeless : String → Outcome → Row
treeless b o = record { tree = absent; book = hex b; outcome = o; listing = absent }

abbrev becomes : ℕ → List Definition → String → Outcome
becomes n ds b = gives n ds (hex b)

-- "body: Bytes, root n", in a struct
abbrev body : Combinator
body = one "body" (plain (Bytes ("n" ∷ [])))

abbrev empty : String → Definition
empty n = fmt n [] (plain Nothing)

-- P3's msg: "struct { Dependent n: ConstraintInt; hdr: .. }"
abbrev msg : Combinator → Definition
msg hdr = fmt "msg" [] (plain (struct (dep "n" (plain (Int "u8")) (ord "hdr" hdr no_field))))

-- P9's macro (a, b), and its body
abbrev pair : Combinator → Combinator → Combinator
pair x y = plain (struct (ord "x" x (ord "y" y no_field)))

abbrev p : Definition
p = mac "p" ("a" ∷ "b" ∷ []) (pair (plain (Call "a" [])) (plain (Call "b" [])))

-- P8's m: "parameter n of one type, field n of another"
abbrev m8 : Combinator → Definition
m8 h = fmt "m" (param "n" (Int "one") ∷ []) (plain (struct (dep "n" (plain (Int "two")) (ord "h" h no_field))))

unfoldable pub table : List Row
table =
    -- P1 `00 00`: same book; listing `ok 0 0`
    listed [] "00 00" (becomes 0 [] "00 00") "ok 0 0\n" ∷
    -- P1 "No bytes at all, or one: 3."
    treeless "" (refuses 3) ∷
    treeless "00" (refuses 3) ∷
    treeless "FF" (refuses 3) ∷
    -- P2: same book; `ok 1 0`, `format e 0`
    listed (empty "e" ∷ []) "01 00 01 00 08 00 08 00 01 65 00 00 0D 00 00 00"
    (becomes 0 (empty "e" ∷ []) "01 00 01 00 08 00 08 00 01 65 00 00 0D 00 00 00")
    "ok 1 0\nformat e 0\n" ∷
    -- P3 format msg, struct { Dependent n: ConstraintInt; hdr: struct { body: Bytes, root n } }
    listed (msg body ∷ [])
    "01 00 01 00 08 00 2A 00 03 6D 73 67 00 00 04 02 00 02 01 6E 01 02 00 75 38 00 01 03 68 64 72 04 01 00 01 04 62 6F 64 79 0A 01 00 01 6E 00 00 00 00 00"
    (becomes 1 (msg (plain (Call "msg_hdr" ("n" ∷ []))) ∷ fmt "msg_hdr" (param "n" (Int "u8") ∷ []) body ∷ [])
    "02 00 01 00 0E 00 26 00 01 00 34 00 23 00 03 6D 73 67 00 00 04 02 00 02 01 6E 01 02 00 75 38 00 01 03 68 64 72 0F 07 6D 73 67 5F 68 64 72 01 00 01 6E 00 00 07 6D 73 67 5F 68 64 72 01 00 01 6E 01 02 00 75 38 04 01 00 01 04 62 6F 64 79 0A 01 00 01 6E 00 00 00 00")
    "ok 2 1\nformat msg 0\nlifted msg_hdr 1\n" ∷
    -- P4 "P3 without n: 8"
    row (fmt "msg" [] (one "hdr" body) ∷ [])
    "01 00 01 00 08 00 21 00 03 6D 73 67 00 00 04 01 00 01 03 68 64 72 04 01 00 01 04 62 6F 64 79 0A 01 00 01 6E 00 00 00 00 00"
    (refuses 8) ∷
    -- P5 "msg with field f: Vec of Enum: lifted in order msg_f_item, msg_f"
    row (fmt "msg" [] (one "f" (plain (Vec (plain Enum)))) ∷ [])
    "01 00 01 00 08 00 13 00 03 6D 73 67 00 00 04 01 00 01 01 66 08 06 00 00 00 00 00"
    (becomes 2 (fmt "msg" [] (one "f" (plain (Call "msg_f" []))) ∷ fmt "msg_f_item" [] (plain Enum) ∷ fmt "msg_f" [] (plain (Vec (plain (Call "msg_f_item" [])))) ∷ [])
    "03 00 01 00 14 00 17 00 01 00 2B 00 11 00 01 00 3C 00 19 00 03 6D 73 67 00 00 04 01 00 01 01 66 0F 05 6D 73 67 5F 66 00 00 00 00 0A 6D 73 67 5F 66 5F 69 74 65 6D 00 00 06 00 00 00 05 6D 73 67 5F 66 00 00 08 0F 0A 6D 73 67 5F 66 5F 69 74 65 6D 00 00 00 00") ∷
    -- P6 "P3 with formats msg_hdr and msg_hdr_0 beside: msg_hdr_1"
    row (msg body ∷ empty "msg_hdr" ∷ empty "msg_hdr_0" ∷ [])
    "03 00 01 00 14 00 2A 00 01 00 3E 00 0E 00 01 00 4C 00 10 00 03 6D 73 67 00 00 04 02 00 02 01 6E 01 02 00 75 38 00 01 03 68 64 72 04 01 00 01 04 62 6F 64 79 0A 01 00 01 6E 00 00 00 00 00 07 6D 73 67 5F 68 64 72 00 00 0D 00 00 00 09 6D 73 67 5F 68 64 72 5F 30 00 00 0D 00 00 00"
    (becomes 1 (msg (plain (Call "msg_hdr_1" ("n" ∷ []))) ∷ empty "msg_hdr" ∷ empty "msg_hdr_0" ∷ fmt "msg_hdr_1" (param "n" (Int "u8") ∷ []) body ∷ [])
    "04 00 01 00 1A 00 28 00 01 00 42 00 0E 00 01 00 50 00 10 00 01 00 60 00 25 00 03 6D 73 67 00 00 04 02 00 02 01 6E 01 02 00 75 38 00 01 03 68 64 72 0F 09 6D 73 67 5F 68 64 72 5F 31 01 00 01 6E 00 00 07 6D 73 67 5F 68 64 72 00 00 0D 00 00 00 09 6D 73 67 5F 68 64 72 5F 30 00 00 0D 00 00 00 09 6D 73 67 5F 68 64 72 5F 31 01 00 01 6E 01 02 00 75 38 04 01 00 01 04 62 6F 64 79 0A 01 00 01 6E 00 00 00 00") ∷
    -- P7 "format m, root Bytes chained to an Enum: lifted m_0"
    row (fmt "m" [] (chained (Bytes []) (plain Enum)) ∷ [])
    "01 00 01 00 08 00 0E 00 01 6D 00 00 0A 00 00 00 00 01 06 00 00 00"
    (becomes 1 (fmt "m" [] (chained (Bytes []) (plain (Call "m_0" []))) ∷ fmt "m_0" [] (plain Enum) ∷ [])
    "02 00 01 00 0E 00 12 00 01 00 20 00 0A 00 01 6D 00 00 0A 00 00 00 00 01 0F 03 6D 5F 30 00 00 00 03 6D 5F 30 00 00 06 00 00 00") ∷
    -- P7 "A field d of m so made: m_d"
    row (fmt "m" [] (one "d" (chained (Bytes []) (plain Enum))) ∷ [])
    "01 00 01 00 08 00 15 00 01 6D 00 00 04 01 00 01 01 64 0A 00 00 00 00 01 06 00 00 00 00"
    (becomes 1 (fmt "m" [] (one "d" (chained (Bytes []) (plain (Call "m_d" [])))) ∷ fmt "m_d" [] (plain Enum) ∷ [])
    "02 00 01 00 0E 00 19 00 01 00 27 00 0A 00 01 6D 00 00 04 01 00 01 01 64 0A 00 00 00 00 01 0F 03 6D 5F 64 00 00 00 00 03 6D 5F 64 00 00 06 00 00 00") ∷
    -- P8 "parameter n of one type, field n of another, then a lifted use of n: the parameter's type"
    row (m8 (one "x" (plain (Bytes ("n" ∷ [])))) ∷ [])
    "01 00 01 00 08 00 2C 00 01 6D 01 00 01 6E 01 03 00 6F 6E 65 04 02 00 02 01 6E 01 03 00 74 77 6F 00 01 01 68 04 01 00 01 01 78 0A 01 00 01 6E 00 00 00 00 00"
    (becomes 1 (m8 (plain (Call "m_h" ("n" ∷ []))) ∷ fmt "m_h" (param "n" (Int "one") ∷ []) (one "x" (plain (Bytes ("n" ∷ [])))) ∷ [])
    "02 00 01 00 0E 00 27 00 01 00 35 00 1D 00 01 6D 01 00 01 6E 01 03 00 6F 6E 65 04 02 00 02 01 6E 01 03 00 74 77 6F 00 01 01 68 0F 03 6D 5F 68 01 00 01 6E 00 00 03 6D 5F 68 01 00 01 6E 01 03 00 6F 6E 65 04 01 00 01 01 78 0A 01 00 01 6E 00 00 00 00") ∷
    -- P9 "macro (a, b), body struct { x: call a; y: call b }, arguments call b and Nothing: both fields Nothing"
    row (p ∷ fmt "f" [] (plain (Macro "p" (Call "b" [] ∷ Nothing ∷ []))) ∷ [])
    "02 00 04 00 0E 00 1E 00 01 00 2C 00 12 00 01 70 02 00 01 61 01 62 04 02 00 01 01 78 0F 01 61 00 00 00 01 01 79 0F 01 62 00 00 00 00 01 66 00 00 10 01 70 02 00 0F 01 62 00 00 0D 00 00 00"
    (becomes 0 (fmt "f" [] (pair (plain Nothing) (plain Nothing)) ∷ [])
    "01 00 01 00 08 00 16 00 01 66 00 00 04 02 00 01 01 78 0D 00 00 00 01 01 79 0D 00 00 00 00") ∷
    -- P9 "One argument only: y stays a call of b"
    row (p ∷ fmt "f" [] (plain (Macro "p" (Nothing ∷ []))) ∷ [])
    "02 00 04 00 0E 00 1E 00 01 00 2C 00 0D 00 01 70 02 00 01 61 01 62 04 02 00 01 01 78 0F 01 61 00 00 00 01 01 79 0F 01 62 00 00 00 00 01 66 00 00 10 01 70 01 00 0D 00 00 00"
    (becomes 0 (fmt "f" [] (pair (plain Nothing) (plain (Call "b" []))) ∷ [])
    "01 00 01 00 08 00 18 00 01 66 00 00 04 02 00 01 01 78 0D 00 00 00 01 01 79 0F 01 62 00 00 00 00") ∷
    -- P10 label "Ab-é" gives the segment "ab__"
    row (fmt "m" [] (one "Ab-é" (plain Enum)) ∷ [])
    "01 00 01 00 08 00 13 00 01 6D 00 00 04 01 00 01 05 41 62 2D C3 A9 06 00 00 00 00"
    (becomes 1 (fmt "m" [] (one "Ab-é" (plain (Call "m_ab__" []))) ∷ fmt "m_ab__" [] (plain Enum) ∷ [])
    "02 00 01 00 0E 00 1A 00 01 00 28 00 0D 00 01 6D 00 00 04 01 00 01 05 41 62 2D C3 A9 0F 06 6D 5F 61 62 5F 5F 00 00 00 00 06 6D 5F 61 62 5F 5F 00 00 06 00 00 00") ∷
    []

-- What is compared, row by row: the tree's bytes, the answer, the output afterwards and the listing.
-- The output is three bytes longer than the result and holds 170 before, so that "the rest is as before" is seen
pub record Seen : Type 0 where
  pub book : List ℕ
  pub result : List ℕ
  pub answer : Answer
  pub output : List ℕ
  pub listing : List ℕ

abbrev bytes_of : Maybe (List Definition) → List ℕ → List ℕ
bytes_of absent b = b
bytes_of (just ds) b = w_book ds

abbrev tree_of : Outcome → List ℕ
tree_of (refuses_at k p) = []
tree_of (gives n ds b) = w_book ds

abbrev result_of : Outcome → List ℕ
result_of (refuses_at k p) = []
result_of (gives n ds b) = b

abbrev pub answer_of : Outcome → Answer
answer_of (refuses_at k p) = record { code = k; size = 0; definitions = 0; lifts = 0; at = p }
answer_of (gives n ds b) = record { code = 0; size = length b; definitions = length ds; lifts = n; at = 0 }

abbrev pub noise : ℕ → List ℕ
noise n = replicate n 170

abbrev before : Outcome → List ℕ
before o = noise (length (result_of o)) ++ noise 3

abbrev listing_of : Maybe (List ℕ) → List ℕ → List ℕ
listing_of absent b = []
listing_of (just l) b = listing b

abbrev given : Maybe (List ℕ) → List ℕ
given absent = []
given (just l) = l

unfoldable pub seen : Row → Seen
unfolding w_book answer output listing
seen r = record {
  book = bytes_of r.tree r.book;
  result = tree_of r.outcome;
  answer = answer r.book (length (before r.outcome)) 65536;
  output = output r.book (before r.outcome) 65536;
  listing = listing_of r.listing r.book;
}

unfoldable pub expected : Row → Seen
expected r = record {
  book = r.book;
  result = result_of r.outcome;
  answer = answer_of r.outcome;
  output = result_of r.outcome ++ noise 3;
  listing = given r.listing;
}

-- the theorem
abbrev pub Worked : Type 0
Worked = Each seen expected table
