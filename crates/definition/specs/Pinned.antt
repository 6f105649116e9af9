-- A second table, for what P1 to P10 leave open: each code, each tag and wrapper, parameters in byte order, the premise test, the listing,
-- and the readings (docs/READINGS.md). One theorem over it: `Pinned`, proved in proofs/Pinned.
use Rattle.std.specs.Prelude.{List, [], ◌∷◌, ◌++◌, replicate}
use Rattle.definition.specs.Utf8.{utf8}
use Rattle.definition.specs.Tree.{leaf, enum, struct, none, by, enums, ints, arrays, choice, invocation, no_field, const, no_case, plain, chained, format, constant, byte_order}
use Rattle.definition.specs.Write.{w_book}
use Rattle.definition.specs.Notation.{hex, Int, Enum, Bits, Tail, Nothing, Bytes, Vec, Option, Array, Wrap, Call, ord, dep, on, one, vecs, Macro, param, fmt, mac, m, long, fat}
use Rattle.definition.specs.Worked.{refuses_at, refuses, gives}
use Rattle.definition.specs.Asked.{Row, elaborates, tells, lists, becomes, raw, tree, uses, H, zz, nested, Holds}

unfoldable pub bytes_rows : List Row
bytes_rows =
    -- 1: one byte short, and before 3
    elaborates (hex "00 00") 2 65535 (refuses 1) ∷
    elaborates [] 0 0 (refuses 1) ∷
    -- 2, before 3; 16,384 bytes are not too many
    raw (replicate 16385 0) (refuses 2) ∷
    raw (replicate 16384 0) (refuses_at 3 2) ∷
    -- 3: a byte order alone is a book; kind 5; no zero byte; an offset too large by one, with a byte left over; bytes left over in a body and behind the last one; a count of 513 with nothing behind it
    raw (hex "01 00 03 00 08 00 02 00 00 00") (gives 0 (byte_order [] ∷ []) (hex "01 00 03 00 08 00 02 00 00 00")) ∷
    raw (hex "01 00 05 00 08 00 02 00 00 00") (refuses_at 3 2) ∷
    raw (hex "01 00 03 01 08 00 02 00 00 00") (refuses_at 3 2) ∷
    raw (hex "01 00 03 00 09 00 02 00 00 00 00") (refuses_at 3 2) ∷
    raw (hex "01 00 03 00 08 00 03 00 00 00 00") (refuses_at 3 10) ∷
    raw (hex "01 00 03 00 08 00 02 00 00 00 00") (refuses_at 3 10) ∷
    raw (hex "01 02") (refuses 3) ∷
    -- an unknown tag, and a flag that is neither 0 nor 1
    raw (hex "01 00 01 00 08 00 08 00 01 65 00 00 11 00 00 00") (refuses_at 3 12) ∷
    raw (hex "01 00 01 00 08 00 08 00 01 65 00 00 0D 00 00 02") (refuses_at 3 15) ∷
    -- 4: C0 80, a surrogate, past U+10FFFF, a plain name with '.'; U+10FFFF itself is a character
    raw (hex "01 00 02 00 08 00 05 00 02 C0 80 00 00") (refuses_at 4 8) ∷
    raw (hex "01 00 02 00 08 00 06 00 03 ED A0 80 00 00") (refuses_at 4 8) ∷
    raw (hex "01 00 02 00 08 00 07 00 04 F4 90 80 80 00 00") (refuses_at 4 8) ∷
    raw (hex "01 00 02 00 08 00 04 00 01 2E 00 00") (refuses_at 4 8) ∷
    raw (hex "01 00 02 00 08 00 07 00 04 F4 8F BF BF 00 00") (becomes 0 (constant (hex "F4 8F BF BF") [] ∷ [])) ∷
    -- reading 10: a count larger than what is left is no fault of the count
    raw (hex "01 00 04 00 08 00 05 00 00 03 00 01 2E") (refuses_at 4 11) ∷
    -- reading 11: a name that runs past its body is 3, whatever its bytes are
    raw (hex "01 00 02 00 08 00 02 00 05 C0") (refuses_at 3 8) ∷
    -- reading 12: a byte behind the last body is 3 before a body's 4
    raw (hex "01 00 02 00 08 00 04 00 01 2E 00 00 00") (refuses_at 3 12) ∷
    -- 5: 63 Vecs pass, 64 do not; 63 macro calls around an argument pass, 64 do not; a chain in the 63rd Vec is too deep; a tag at level 65 with nothing behind it; an unknown tag there is 3
    tree (m (vecs 63 (plain Nothing))) (becomes 0 (m (vecs 63 (plain Nothing)))) ∷
    tree (m (vecs 64 (plain Nothing))) (refuses_at 5 76) ∷
    tree (m (plain (nested 63))) (becomes 0 (m (plain (nested 63)))) ∷
    tree (m (plain (nested 64))) (refuses_at 5 332) ∷
    tree (m (vecs 63 (chained Nothing (plain Nothing)))) (refuses_at 5 79) ∷
    raw (hex "01 00 01 00 08 00 45 00 01 76 00 00" ++ replicate 64 8 ++ hex "0D") (refuses_at 5 76) ∷
    raw (hex "01 00 01 00 08 00 45 00 01 76 00 00" ++ replicate 64 8 ++ hex "11") (refuses_at 3 76) ∷
    []

unfoldable pub macro_rows : List Row
macro_rows =
    -- rule 1: the last definition of a name counts; a call that is not known stays
    tree (mac "p" [] (plain Enum) ∷ mac "p" [] (plain Tail) ∷ m (one "x" (plain (Macro "p" [])))) (becomes 0 (m (one "x" (plain Tail)))) ∷
    tree (m (plain (Macro "p" (Nothing ∷ [])))) (becomes 0 (m (plain (Macro "p" (Nothing ∷ []))))) ∷
    -- rules 2 and 3: macro arguments are not walked, nor what was put in; its own chain is lost and the call's stays, expanded
    tree (mac "p" ("a" ∷ []) (chained (Call "a" []) (plain Tail)) ∷ m (chained (Macro "p" (Macro "p" [] ∷ [])) (plain (Macro "p" (Nothing ∷ [])))))
    (becomes 0 (m (chained (Macro "p" []) (plain Nothing)))) ∷
    -- reading 4: chains are entered, a replaced call's too, and its arguments are lost; macro arguments are not entered
    tree (mac "p" ("a" ∷ []) (one "x" (chained (Call "a" ("k" ∷ [])) (plain (Call "a" [])))) ∷ m (plain (Macro "p" (Nothing ∷ []))))
    (becomes 0 (m (one "x" (chained Nothing (plain Nothing))))) ∷
    tree (mac "p" ("a" ∷ []) (plain (Macro "q" (Call "a" [] ∷ []))) ∷ m (plain (Macro "p" (Nothing ∷ [])))) (becomes 0 (m (plain (Macro "q" (Call "a" [] ∷ []))))) ∷
    -- a parameter named twice is substituted twice; an argument that calls an earlier parameter keeps that call; extra ones are ignored
    tree (mac "p" ("a" ∷ "a" ∷ []) (plain (Call "a" [])) ∷ m (plain (Macro "p" (Vec (plain (Call "a" [])) ∷ Nothing ∷ [])))) (becomes 0 (m (plain (Vec (plain Nothing))))) ∷
    tree (mac "p" ("a" ∷ "b" ∷ []) (plain (Call "b" [])) ∷ m (plain (Macro "p" (Nothing ∷ Call "a" [] ∷ Enum ∷ [])))) (becomes 0 (m (plain (Call "a" [])))) ∷
    -- rule 5: 64 levels pass and 65 do not; over 16,384 bytes after the first parameter, whatever the second takes away; the finished book
    tree (mac "p" ("a" ∷ []) (vecs 63 (plain (Call "a" []))) ∷ m (plain (Macro "p" (Nothing ∷ [])))) (becomes 0 (m (vecs 63 (plain Nothing)))) ∷
    tree (mac "p" ("a" ∷ []) (vecs 63 (plain (Call "a" []))) ∷ m (plain (Macro "p" (Vec (plain Nothing) ∷ [])))) (refuses 6) ∷
    tree (mac "p" ("a" ∷ "b" ∷ []) (plain (struct (ord "x" (plain (Call "a" [])) (ord "y" (plain (Call "a" [])) (ord "z" (plain (invocation (utf8 "b") (replicate 32 (long 250)))) no_field)))))
    ∷ m (plain (Macro "p" (leaf enum (replicate 4500 46) ∷ Nothing ∷ [])))) (refuses 6) ∷
    tree (mac "p" [] (fat 9000) ∷ m (plain (struct (ord "x" (plain (Macro "p" [])) (ord "y" (plain (Macro "p" [])) no_field))))) (refuses 6) ∷
    []

unfoldable pub lift_rows : List Row
lift_rows =
    -- 7 where collection goes, and nowhere else (reading 8); before 8 at one lift; not before the 8 of an earlier lift (reading 2)
    tree (m (one "s" (one "x" zz))) (refuses 7) ∷
    tree (m zz) (becomes 0 (m zz)) ∷
    tree (m (one "s" (chained Enum zz))) (becomes 1 (fmt "m" [] (one "s" (plain (Call "m_s" []))) ∷ fmt "m_s" [] (chained Enum zz) ∷ [])) ∷
    tree (m (one "s" (chained Enum (one "x" zz)))) (refuses 7) ∷
    tree (m (one "s" (one "x" (chained Tail zz)))) (refuses 7) ∷
    tree (m (one "s" (plain (struct (ord "x" (uses "n") (ord "y" zz no_field)))))) (refuses 7) ∷
    tree (m (one "s" (chained (struct (ord "x" (uses "n") no_field)) (one "y" zz)))) (refuses 8) ∷
    -- 8 only at lifts; a root's chain is walked before its fields; a finished struct binds no more (reading 1)
    tree (m (uses "n")) (becomes 0 (m (uses "n"))) ∷
    tree (m (chained (struct (dep "n" (plain (Int "i")) no_field)) (one "b" (uses "n")))) (refuses 8) ∷
    tree (m (plain (struct (ord "a" (plain (struct (dep "n" (plain (Int "i")) no_field))) (ord "h" H no_field))))) (refuses 8) ∷
    -- 9: a taken base of 253 bytes gives 255, of 254 gives 9; before 7
    tree (format (long 251) [] (one "a" (plain Enum)) ∷ constant (long 251 ++ utf8 "_a") [] ∷ [])
    (becomes 1 (format (long 251) [] (one "a" (plain (invocation (long 251 ++ utf8 "_a_0") []))) ∷ constant (long 251 ++ utf8 "_a") [] ∷ format (long 251 ++ utf8 "_a_0") [] (plain Enum) ∷ [])) ∷
    tree (format (long 252) [] (one "a" (plain Enum)) ∷ constant (long 252 ++ utf8 "_a") [] ∷ []) (refuses 9) ∷
    tree (format (long 254) [] (one "a" (one "x" zz)) ∷ []) (refuses 9) ∷
    -- 10: 16,384 bytes pass and 16,385 do not, nor do 513 definitions
    tree (m (one "a" (fat 16341))) (becomes 1 (fmt "m" [] (one "a" (plain (Call "m_a" []))) ∷ fmt "m_a" [] (fat 16341) ∷ [])) ∷
    tree (m (one "a" (fat 16342))) (refuses 10) ∷
    tree (fmt "m" [] (one "a" (plain Enum)) ∷ replicate 511 (byte_order [])) (refuses 10) ∷
    -- 11: one byte short, and just enough
    elaborates (w_book (m (plain Nothing))) 15 65536 (refuses 11) ∷
    elaborates (w_book (m (plain Nothing))) 16 65536 (becomes 0 (m (plain Nothing))) ∷
    -- each tag as a child: what is anonymous, in which order it comes out, and the segments
    tree (m (plain (struct
    (ord "a" (plain Enum) (ord "b" (plain Bits) (ord "c" (plain (struct (const (utf8 "k") [] no_field)))
    (ord "d" (plain (Int "i")) (ord "e" (plain Tail) (ord "f" (plain Nothing) (ord "g" (plain (Call "q" [])) (ord "h" zz no_field)))))))))))
    (becomes 3 (fmt "m" [] (plain (struct
    (ord "a" (plain (Call "m_a" [])) (ord "b" (plain (Call "m_b" [])) (ord "c" (plain (Call "m_c" []))
    (ord "d" (plain (Int "i")) (ord "e" (plain Tail) (ord "f" (plain Nothing) (ord "g" (plain (Call "q" [])) (ord "h" zz no_field))))))))))
    ∷ fmt "m_a" [] (plain Enum) ∷ fmt "m_b" [] (plain Bits) ∷ fmt "m_c" [] (plain (struct (const (utf8 "k") [] no_field))) ∷ [])) ∷
    -- wrappers: `anon` for Wrap, `item` for Vec, Array and Option
    tree (m (plain (struct (ord "w" (plain (Wrap (plain Enum))) (ord "o" (plain (Option (plain Bits))) (ord "r" (plain (Array [] (plain Enum))) no_field))))))
    (becomes 6 (fmt "m" [] (plain (struct (ord "w" (plain (Call "m_w" [])) (ord "o" (plain (Call "m_o" [])) (ord "r" (plain (Call "m_r" [])) no_field)))))
    ∷ fmt "m_w_anon" [] (plain Enum) ∷ fmt "m_w" [] (plain (Wrap (plain (Call "m_w_anon" []))))
    ∷ fmt "m_o_item" [] (plain Bits) ∷ fmt "m_o" [] (plain (Option (plain (Call "m_o_item" []))))
    ∷ fmt "m_r_item" [] (plain Enum) ∷ fmt "m_r" [] (plain (Array [] (plain (Call "m_r_item" [])))) ∷ [])) ∷
    -- choices: a label's segment for Enums, the case's number among all cases for Ints and Arrays
    tree (fmt "e" [] (plain (choice none enums (on "Ab" (plain Enum) no_case))) ∷ fmt "i" [] (plain (choice none ints (on "0" (plain Nothing) (on "1" (plain Enum) no_case)))) ∷ fmt "r" [] (plain (choice none arrays (on "x" (plain Bits) no_case))) ∷ [])
    (becomes 3 (fmt "e" [] (plain (choice none enums (on "Ab" (plain (Call "e_ab" [])) no_case))) ∷ fmt "i" [] (plain (choice none ints (on "0" (plain Nothing) (on "1" (plain (Call "i_choice1" [])) no_case)))) ∷ fmt "r" [] (plain (choice none arrays (on "x" (plain (Call "r_choice0" [])) no_case)))
    ∷ fmt "e_ab" [] (plain Enum) ∷ fmt "i_choice1" [] (plain Enum) ∷ fmt "r_choice0" [] (plain Bits) ∷ [])) ∷
    -- two parameters in byte order, each once; a Dependent field binds for the fields after it alone
    tree (m (plain (struct (dep "b" (plain (Int "1")) (dep "a" (plain (Int "2")) (ord "s" (plain (struct (ord "x" (plain (Bytes ("b" ∷ "a" ∷ []))) (dep "a" (uses "b") (ord "y" (uses "a") no_field))))) no_field))))))
    (becomes 1 (fmt "m" [] (plain (struct (dep "b" (plain (Int "1")) (dep "a" (plain (Int "2")) (ord "s" (plain (Call "m_s" ("a" ∷ "b" ∷ []))) no_field)))))
    ∷ fmt "m_s" (param "a" (Int "2") ∷ param "b" (Int "1") ∷ []) (plain (struct (ord "x" (plain (Bytes ("b" ∷ "a" ∷ []))) (dep "a" (uses "b") (ord "y" (uses "a") no_field))))) ∷ [])) ∷
    -- uses: roots of an Array, a selector and an argument up to their first '.', a chain on Tail; a selector ".x" has the root "" (reading 8)
    tree (m (plain (struct (dep "n" (plain (Int "i")) (ord "s" (plain (Array ("n" ∷ []) (plain Enum))) no_field)))))
    (becomes 2 (fmt "m" [] (plain (struct (dep "n" (plain (Int "i")) (ord "s" (plain (Call "m_s" ("n" ∷ []))) no_field))))
    ∷ fmt "m_s_item" [] (plain Enum) ∷ fmt "m_s" (param "n" (Int "i") ∷ []) (plain (Array ("n" ∷ []) (plain (Call "m_s_item" [])))) ∷ [])) ∷
    tree (m (plain (struct (dep "n" (plain (Int "i")) (ord "s" (plain (choice (by (utf8 "n.a.b")) ints no_case)) no_field)))))
    (becomes 1 (fmt "m" [] (plain (struct (dep "n" (plain (Int "i")) (ord "s" (plain (Call "m_s" ("n" ∷ []))) no_field)))) ∷ fmt "m_s" (param "n" (Int "i") ∷ []) (plain (choice (by (utf8 "n.a.b")) ints no_case)) ∷ [])) ∷
    tree (m (plain (struct (dep "n" (plain (Int "i")) (ord "s" (one "x" (plain (Call "q" ("n.a" ∷ [])))) no_field)))))
    (becomes 1 (fmt "m" [] (plain (struct (dep "n" (plain (Int "i")) (ord "s" (plain (Call "m_s" ("n" ∷ []))) no_field)))) ∷ fmt "m_s" (param "n" (Int "i") ∷ []) (one "x" (plain (Call "q" ("n.a" ∷ [])))) ∷ [])) ∷
    tree (m (plain (struct (dep "n" (plain (Int "i")) (ord "s" (one "x" (chained Tail (uses "n"))) no_field)))))
    (becomes 1 (fmt "m" [] (plain (struct (dep "n" (plain (Int "i")) (ord "s" (plain (Call "m_s" ("n" ∷ []))) no_field)))) ∷ fmt "m_s" (param "n" (Int "i") ∷ []) (one "x" (chained Tail (uses "n"))) ∷ [])) ∷
    tree (m (one "s" (plain (choice (by (utf8 ".x")) ints no_case)))) (refuses 8) ∷
    -- reading 1, document 01's run: the search starts at the source definition's parameters
    tree (fmt "m" (param "n" (Int "one") ∷ []) (one "s" (plain (struct (dep "n" (plain (Int "two")) (ord "h" H no_field))))) ∷ [])
    (becomes 2 (fmt "m" (param "n" (Int "one") ∷ []) (one "s" (plain (Call "m_s" []))) ∷ fmt "m_s_h" (param "n" (Int "one") ∷ []) H ∷ fmt "m_s" [] (plain (struct (dep "n" (plain (Int "two")) (ord "h" (plain (Call "m_s_h" ("n" ∷ []))) no_field)))) ∷ [])) ∷
    -- and goes on through a lifted body that does not have n itself
    tree (m (plain (struct (dep "n" (plain (Int "i")) (ord "s" (chained Enum H) no_field)))))
    (becomes 2 (fmt "m" [] (plain (struct (dep "n" (plain (Int "i")) (ord "s" (plain (Call "m_s" [])) no_field)))) ∷ fmt "m_s_0" (param "n" (Int "i") ∷ []) H ∷ fmt "m_s" [] (chained Enum (plain (Call "m_s_0" ("n" ∷ [])))) ∷ [])) ∷
    -- reading 6: children of a lifted node take the chosen name, and its chain the next free one after it
    tree (constant (utf8 "m_s") [] ∷ m (one "s" (chained (struct (ord "x" (plain Enum) no_field)) (plain Bits))))
    (becomes 3 (constant (utf8 "m_s") [] ∷ fmt "m" [] (one "s" (plain (Call "m_s_0" []))) ∷ fmt "m_s_0_0" [] (plain Bits) ∷ fmt "m_s_0_x" [] (plain Enum) ∷ fmt "m_s_0" [] (chained (struct (ord "x" (plain (Call "m_s_0_x" [])) no_field)) (plain (Call "m_s_0_0" []))) ∷ [])) ∷
    tree (fmt "" [] (one "" (plain Enum)) ∷ []) (becomes 1 (fmt "" [] (one "" (plain (Call "_anon" []))) ∷ fmt "_anon" [] (plain Enum) ∷ [])) ∷
    -- reading 7: a lifted binder's type is its call; only the outermost chain is dropped; the first binder within one struct wins
    tree (m (plain (struct (dep "n" (plain Enum) (ord "h" H no_field)))))
    (becomes 2 (fmt "m" [] (plain (struct (dep "n" (plain (Call "m_n" [])) (ord "h" (plain (Call "m_h" ("n" ∷ []))) no_field)))) ∷ fmt "m_n" [] (plain Enum) ∷ fmt "m_h" (param "n" (Call "m_n" []) ∷ []) H ∷ [])) ∷
    tree (m (plain (struct (dep "n" (plain (Vec (chained (Bytes []) (plain Enum)))) (dep "n" (plain Tail) (ord "h" H no_field))))))
    (becomes 2 (fmt "m" [] (plain (struct (dep "n" (plain (Vec (chained (Bytes []) (plain (Call "m_n_item" []))))) (dep "n" (plain Tail) (ord "h" (plain (Call "m_h" ("n" ∷ []))) no_field)))))
    ∷ fmt "m_n_item" [] (plain Enum) ∷ fmt "m_h" (param "n" (Vec (chained (Bytes []) (plain (Call "m_n_item" [])))) ∷ []) H ∷ [])) ∷
    []

unfoldable pub said_rows : List Row
said_rows =
    -- the premise test: yes; a call of nothing; a call of a constant; a chain on an Enum; chains on Tail and Bytes
    tells (w_book (m (one "x" (plain (Call "m" []))))) 65536 0 1 ∷
    tells (w_book (m (one "x" (plain (Call "q" []))))) 65536 0 0 ∷
    tells (w_book (constant (utf8 "q") [] ∷ m (one "x" (plain (Call "q" []))))) 65536 0 1 ∷
    tells (w_book (m (one "x" (chained Enum (plain Nothing))))) 65536 0 0 ∷
    tells (w_book (m (one "x" (chained Tail (chained (Bytes []) (plain Nothing)))))) 65536 0 1 ∷
    -- macro arguments aside (reading 14), and parameter types; after expansion; a macro is no kind 1 or 2
    tells (w_book (m (plain (Macro "z" (Call "q" [] ∷ Vec (chained Enum (plain Nothing)) ∷ []))))) 65536 0 1 ∷
    tells (w_book (fmt "m" (param "n" (Call "q" []) ∷ []) (plain Nothing) ∷ [])) 65536 0 1 ∷
    tells (w_book (mac "p" [] (plain (Call "q" [])) ∷ m (plain (Macro "p" [])))) 65536 0 0 ∷
    tells (w_book (mac "q" [] (plain Nothing) ∷ m (plain (Call "q" [])))) 65536 0 0 ∷
    -- it gives 1 to 6, and nothing later: this book is 8 for the call
    tells [] 65535 1 0 ∷
    tells [] 65536 3 0 ∷
    tells (w_book (m (one "h" H))) 65536 0 1 ∷
    -- the listing: escapes, `-` and `%2D`, `order` alone, a refusal
    lists (w_book (fmt "%" (param "n" Nothing ∷ []) (plain Enum) ∷ constant (utf8 "-") [] ∷ constant [] [] ∷ constant (utf8 "é /~") [] ∷ byte_order [] ∷ [])) "ok 5 0\nformat %25 1\nconst %2D\nconst -\nconst %C3%A9%20/~\norder\n" ∷
    lists (w_book (constant (utf8 "--") [] ∷ [])) "ok 1 0\nconst --\n" ∷
    lists (w_book (m (one "h" H))) "refused 8\n" ∷
    lists [] "refused 3 at 0\n" ∷
    []

unfoldable pub table : List Row
unfolding bytes_rows macro_rows lift_rows said_rows
table = bytes_rows ++ macro_rows ++ lift_rows ++ said_rows

-- the theorem
abbrev pub Pinned : Type 0
Pinned = Holds table
