-- A third table, for the limits and for what comes first: each limit met and passed by one, which of two faults counts, and the work area.
-- One theorem over it: `Limits`, proved in proofs/Limits.
use Rattle.std.specs.Prelude.{List, [], ◌∷◌, ◌++◌, replicate}
use Rattle.definition.specs.Tree.{leaf, enum, plain, chained, byte_order}
use Rattle.definition.specs.Write.{w_book}
use Rattle.definition.specs.Notation.{hex, Int, Enum, Nothing, Call, one, Macro, param, fmt, mac, m, fat}
use Rattle.definition.specs.Worked.{refuses_at, refuses, noise}
use Rattle.definition.specs.Asked.{Row, elaborates, tells, lists, clears, becomes, raw, tree, H, nested, Holds}

unfoldable pub table : List Row
table =
    -- 1 before 2, in the call and in the premise test
    elaborates (replicate 16385 0) 0 65535 (refuses 1) ∷
    tells (replicate 16385 0) 65535 1 0 ∷
    -- 3: an offset that leaves a gap, with no byte left over; 513 entries that are there
    raw (hex "01 00 03 00 09 00 02 00 00 00") (refuses_at 3 2) ∷
    tree (replicate 513 (byte_order [])) (refuses 3) ∷
    -- the first faulty body counts: its 4 comes before the next one's 3
    raw (hex "02 00 02 00 0E 00 04 00 02 00 12 00 05 00 01 2E 00 00 01 61 00 00 00") (refuses_at 4 14) ∷
    -- 5: a tag that is missing at level 65 is 3; a parameter's type of 64 levels passes, of 65 does not
    raw (hex "01 00 01 00 08 00 44 00 01 76 00 00" ++ replicate 64 8) (refuses_at 3 76) ∷
    tree (fmt "m" (param "n" (nested 63) ∷ []) (plain Nothing) ∷ []) (becomes 0 (fmt "m" (param "n" (nested 63) ∷ []) (plain Nothing) ∷ [])) ∷
    tree (fmt "m" (param "n" (nested 64) ∷ []) (plain Nothing) ∷ []) (refuses_at 5 334) ∷
    -- 2: a book of 16,384 bytes passes
    tree (m (fat 16368)) (becomes 0 (m (fat 16368))) ∷
    -- 6: a macro's combinator of 16,384 bytes passes, of 16,385 with its chain does not
    tree (mac "p" ("a" ∷ []) (chained (Call "a" []) (plain (Call "a" []))) ∷ m (plain (Macro "p" (leaf enum (replicate 8188 46) ∷ [])))) (becomes 0 (m (fat 8188))) ∷
    tree (mac "p" ("a" ∷ []) (chained (Call "a" []) (chained (Call "a" []) (plain (Int "k")))) ∷ m (plain (Macro "p" (leaf enum (replicate 8186 46) ∷ [])))) (refuses 6) ∷
    -- 10: 512 definitions pass; it is tested before the lifts inside (reading 2), of which one is 8; the listing prints a number of two digits
    tree (fmt "m" [] (one "a" (plain Enum)) ∷ replicate 510 (byte_order [])) (becomes 1 (fmt "m" [] (one "a" (plain (Call "m_a" []))) ∷ (replicate 510 (byte_order []) ++ (fmt "m_a" [] (plain Enum) ∷ [])))) ∷
    tree (m (one "a" (chained (leaf enum (replicate 16330 46)) H))) (refuses 10) ∷
    lists (w_book (replicate 10 (byte_order []))) "ok 10 0\norder\norder\norder\norder\norder\norder\norder\norder\norder\norder\n" ∷
    -- "The work area, short or not, is all zero afterwards", and as long as it was
    clears [] [] ∷
    clears (hex "AA 00 FF") (hex "00 00 00") ∷
    clears (noise 65536) (replicate 65536 0) ∷
    []

-- the theorem
abbrev pub Limits : Type 0
Limits = Holds table
