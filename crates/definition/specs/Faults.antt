-- A fifth table, for document 02 a: "the offset of the item at fault: the first byte of the count, entry, tag, flag, name or text that failed (of a name or
-- text, its length), and for leftover bytes the first of them". One theorem over it: `Faults`, proved in proofs/Faults.
use Rattle.std.specs.Prelude.{List, [], ◌∷◌, ◌++◌, replicate}
use Rattle.definition.specs.Notation.{hex}
use Rattle.definition.specs.Worked.{refuses_at}
use Rattle.definition.specs.Asked.{Row, tells_at, lists, raw, Holds}

unfoldable pub table : List Row
table =
    -- the count: missing, cut, over 512
    raw (hex "") (refuses_at 3 0) ∷
    raw (hex "01") (refuses_at 3 0) ∷
    raw (hex "01 02") (refuses_at 3 0) ∷
    -- an entry: missing, cut, of no known kind, with another second byte, with a gap before its body, with a range past the end
    raw (hex "01 00") (refuses_at 3 2) ∷
    raw (hex "01 00 03 00 08") (refuses_at 3 2) ∷
    raw (hex "01 00 05 00 08 00 02 00 00 00") (refuses_at 3 2) ∷
    raw (hex "01 00 03 01 08 00 02 00 00 00") (refuses_at 3 2) ∷
    raw (hex "01 00 03 00 09 00 02 00 00 00") (refuses_at 3 2) ∷
    raw (hex "02 00 03 00 0E 00 05 00") (refuses_at 3 2) ∷
    -- the same of a second entry
    raw (hex "02 00 03 00 0E 00 02 00 05 00 10 00 02 00 00 00 00 00") (refuses_at 3 8) ∷
    raw (hex "02 00 03 00 0E 00 02 00 03 01 10 00 02 00 00 00 00 00") (refuses_at 3 8) ∷
    raw (hex "02 00 03 00 0E 00 02 00 03 00 11 00 02 00 00 00 00 00 00") (refuses_at 3 8) ∷
    raw (hex "02 00 03 00 0E 00 02 00 03 00 10 00 03 00 00 00 00 00") (refuses_at 3 8) ∷
    -- an item that is missing stands where it would begin: a name, a count of parameters, a tag, a flag, a text
    raw (hex "01 00 02 00 08 00 00 00") (refuses_at 3 8) ∷
    raw (hex "01 00 01 00 08 00 03 00 01 6D 00") (refuses_at 3 10) ∷
    raw (hex "01 00 01 00 08 00 04 00 01 6D 00 00") (refuses_at 3 12) ∷
    raw (hex "01 00 01 00 08 00 07 00 01 6D 00 00 0D 00 00") (refuses_at 3 15) ∷
    raw (hex "01 00 02 00 08 00 02 00 01 61") (refuses_at 3 10) ∷
    -- a tag, a chain's flag, a selector's flag, a case kind, a field kind
    raw (hex "01 00 01 00 08 00 08 00 01 6D 00 00 11 00 00 00") (refuses_at 3 12) ∷
    raw (hex "01 00 01 00 08 00 08 00 01 6D 00 00 0D 00 00 02") (refuses_at 3 15) ∷
    raw (hex "01 00 01 00 08 00 06 00 01 6D 00 00 07 02") (refuses_at 3 13) ∷
    raw (hex "01 00 01 00 08 00 07 00 01 6D 00 00 07 00 04") (refuses_at 3 14) ∷
    raw (hex "01 00 01 00 08 00 08 00 01 6D 00 00 04 01 00 04") (refuses_at 3 15) ∷
    -- a name: its length, where its bytes run past the body (3) and where they are not UTF-8 or have a dot (4): a definition's, a selector, a label, a root
    raw (hex "01 00 02 00 08 00 02 00 05 C0") (refuses_at 3 8) ∷
    raw (hex "01 00 02 00 08 00 04 00 01 2E 00 00") (refuses_at 4 8) ∷
    raw (hex "01 00 01 00 08 00 08 00 01 6D 00 00 07 01 01 FF") (refuses_at 4 14) ∷
    raw (hex "01 00 01 00 08 00 0A 00 01 6D 00 00 04 01 00 01 01 2E") (refuses_at 4 16) ∷
    raw (hex "01 00 01 00 08 00 0C 00 01 6D 00 00 0A 01 00 01 2E 00 00 00") (refuses_at 4 15) ∷
    -- a text: its length
    raw (hex "01 00 03 00 08 00 02 00 05 00") (refuses_at 3 8) ∷
    -- leftover bytes: in a body, behind the last one
    raw (hex "01 00 03 00 08 00 03 00 00 00 07") (refuses_at 3 10) ∷
    raw (hex "01 00 03 00 08 00 02 00 00 00 07") (refuses_at 3 10) ∷
    -- in a body that is not the last: a tag, a flag, a name, leftover bytes
    raw (hex "02 00 01 00 0E 00 08 00 03 00 16 00 02 00 01 65 00 00 11 00 00 00 00 00") (refuses_at 3 18) ∷
    raw (hex "02 00 01 00 0E 00 08 00 03 00 16 00 02 00 01 65 00 00 0D 00 00 02 00 00") (refuses_at 3 21) ∷
    raw (hex "02 00 02 00 0E 00 04 00 03 00 12 00 02 00 01 2E 00 00 00 00") (refuses_at 4 14) ∷
    raw (hex "02 00 03 00 0E 00 03 00 03 00 11 00 02 00 00 00 07 00 00") (refuses_at 3 16) ∷
    -- a tag at level 65
    raw (hex "01 00 01 00 08 00 45 00 01 76 00 00" ++ replicate 64 8 ++ hex "0D") (refuses_at 5 76) ∷
    -- the premise test hands it on
    tells_at (hex "01 00 02 00 08 00 04 00 01 2E 00 00") 65536 4 0 8 ∷
    -- "The listing prints `refused N at P` for the three", also where P is 0
    lists (hex "01") "refused 3 at 0\n" ∷
    lists (hex "01 00 02 00 08 00 04 00 01 2E 00 00") "refused 4 at 8\n" ∷
    lists (hex "01 00 01 00 08 00 45 00 01 76 00 00" ++ replicate 64 8 ++ hex "0D") "refused 5 at 76\n" ∷
    []

-- the theorem
abbrev pub Faults : Type 0
Faults = Holds table
