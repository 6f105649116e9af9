-- A fourth table, for the places where a rule goes and those where it does not: tags, flags and kinds in bytes, where macros are expanded and
-- parameters substituted, where a macro call is met and what binds, names and what the listing shows. One theorem over it: `Places`, proved in proofs/Places.
use Rattle.std.specs.Prelude.{List, [], ◌∷◌, ℕ}
use Rattle.definition.specs.Utf8.{utf8}
use Rattle.definition.specs.Tree.{constraint_enum, never, leaf, struct, none, by, enums, ints, arrays, choice, no_field, const, no_case, Inner, plain, chained, Definition, constant}
use Rattle.definition.specs.Write.{w_book}
use Rattle.definition.specs.Notation.{hex, Int, Enum, Bits, Tail, Nothing, Bytes, Vec, Option, Array, Wrap, Call, ord, dep, on, one, Macro, param, fmt, mac, m}
use Rattle.definition.specs.Worked.{refuses, gives}
use Rattle.definition.specs.Asked.{Row, lists, becomes, raw, tree, H, zz, Holds}

abbrev Never : Inner
Never = leaf never []

-- a format with all sixteen tags, both selector flags, the three kinds of cases and of fields, and a chain, as bytes; these were written by another program than the definition
abbrev sixteen : List ℕ
sixteen = hex "01 00 01 00 08 00 AA 00 01 6D 00 00 04 0D 00 02 01 6E 01 02 00 75 38 00 03 01 63 01 00 37 01 01 65 02 00 00 00 01 01 62 03 00 00 00 01 01 77 05 01 00 3C 06 00 00 00 01 00 3E 00 01 01 76 08 0D 00 00 00 00 01 01 61 09 01 00 01 6E 00 00 0E 00 00 00 00 01 01 6F 0C 0B 00 00 00 00 01 01 72 0A 01 00 01 6E 00 00 01 0F 01 71 01 00 03 6E 2E 78 00 01 01 69 07 01 03 6E 2E 78 02 01 00 01 00 30 0D 00 00 00 00 01 01 73 07 00 01 01 00 01 41 0B 00 00 00 00 01 01 74 07 00 03 01 00 01 00 78 0E 00 00 00 00 01 01 7A 10 02 7A 7A 01 00 0D 00 00 00 00"

-- what it becomes, as bytes and as a tree
abbrev lifted : List ℕ
lifted = hex "07 00 01 00 2C 00 9A 00 01 00 C6 00 0A 00 01 00 D0 00 0F 00 01 00 DF 00 1B 00 01 00 FA 00 1E 00 01 00 18 01 12 00 01 00 2A 01 13 00 01 6D 00 00 04 0D 00 02 01 6E 01 02 00 75 38 00 03 01 63 01 00 37 01 01 65 02 00 00 00 01 01 62 0F 03 6D 5F 62 00 00 00 01 01 77 0F 03 6D 5F 77 00 00 00 01 01 76 08 0D 00 00 00 00 01 01 61 09 01 00 01 6E 00 00 0E 00 00 00 00 01 01 6F 0C 0B 00 00 00 00 01 01 72 0A 01 00 01 6E 00 00 01 0F 01 71 01 00 03 6E 2E 78 00 01 01 69 0F 03 6D 5F 69 01 00 01 6E 00 01 01 73 0F 03 6D 5F 73 00 00 00 01 01 74 0F 03 6D 5F 74 00 00 00 01 01 7A 10 02 7A 7A 01 00 0D 00 00 00 00 03 6D 5F 62 00 00 03 00 00 00 08 6D 5F 77 5F 61 6E 6F 6E 00 00 06 00 00 00 03 6D 5F 77 00 00 05 01 00 3C 0F 08 6D 5F 77 5F 61 6E 6F 6E 00 00 00 01 00 3E 00 03 6D 5F 69 01 00 01 6E 01 02 00 75 38 07 01 03 6E 2E 78 02 01 00 01 00 30 0D 00 00 00 00 03 6D 5F 73 00 00 07 00 01 01 00 01 41 0B 00 00 00 00 03 6D 5F 74 00 00 07 00 03 01 00 01 00 78 0E 00 00 00 00"

abbrev by_ints : Inner
by_ints = choice (by (utf8 "n.x")) ints (on "0" (plain Nothing) no_case)

abbrev by_enums : Inner
by_enums = choice none enums (on "A" (plain Tail) no_case)

abbrev by_arrays : Inner
by_arrays = choice none arrays (on "x" (plain Never) no_case)

abbrev lifted_tree : List Definition
lifted_tree =
    fmt "m" [] (plain (struct
    (dep "n" (plain (Int "u8")) (const (utf8 "c") (utf8 "7") (ord "e" (plain (leaf constraint_enum [])) (ord "b" (plain (Call "m_b" [])) (ord "w" (plain (Call "m_w" []))
    (ord "v" (plain (Vec (plain Nothing))) (ord "a" (plain (Array ("n" ∷ []) (plain Never))) (ord "o" (plain (Option (plain Tail)))
    (ord "r" (chained (Bytes ("n" ∷ [])) (plain (Call "q" ("n.x" ∷ [])))) (ord "i" (plain (Call "m_i" ("n" ∷ []))) (ord "s" (plain (Call "m_s" [])) (ord "t" (plain (Call "m_t" []))
    (ord "z" (plain (Macro "zz" (Nothing ∷ []))) no_field)))))))))))))))
    ∷ fmt "m_b" [] (plain Bits) ∷ fmt "m_w_anon" [] (plain Enum) ∷ fmt "m_w" [] (plain (Wrap (plain (Call "m_w_anon" []))))
    ∷ fmt "m_i" (param "n" (Int "u8") ∷ []) (plain by_ints) ∷ fmt "m_s" [] (plain by_enums) ∷ fmt "m_t" [] (plain by_arrays) ∷ []

unfoldable pub table : List Row
table =
    -- all of it in one book, as bytes and as a tree
    raw sixteen (gives 6 lifted_tree lifted) ∷
    raw sixteen (becomes 6 lifted_tree) ∷
    -- a selector and Ints; no selector and Arrays; Option and Array; ConstraintEnum
    raw (hex "01 00 01 00 08 00 15 00 01 6D 00 00 07 01 03 61 2E 62 02 01 00 01 00 30 0D 00 00 00 00") (becomes 0 (m (plain (choice (by (utf8 "a.b")) ints (on "0" (plain Nothing) no_case))))) ∷
    raw (hex "01 00 01 00 08 00 11 00 01 6D 00 00 07 00 03 01 00 01 00 30 0D 00 00 00 00") (becomes 0 (m (plain (choice none arrays (on "0" (plain Nothing) no_case))))) ∷
    raw (hex "01 00 01 00 08 00 12 00 01 6D 00 00 0C 09 01 00 01 6E 00 00 0D 00 00 00 00 00") (becomes 0 (m (plain (Option (plain (Array ("n" ∷ []) (plain Nothing))))))) ∷
    raw (hex "01 00 01 00 08 00 08 00 01 6D 00 00 02 00 00 00") (becomes 0 (m (plain (leaf constraint_enum [])))) ∷
    -- parameters are substituted in choices and behind a Const; macros are expanded there too
    tree (mac "p" ("a" ∷ []) (plain (choice none ints (on "0" (plain (Call "a" [])) no_case))) ∷ m (plain (Macro "p" (Nothing ∷ [])))) (becomes 0 (m (plain (choice none ints (on "0" (plain Nothing) no_case))))) ∷
    tree (mac "p" ("a" ∷ []) (plain (struct (const (utf8 "k") [] (ord "x" (plain (Call "a" [])) no_field)))) ∷ m (plain (Macro "p" (Nothing ∷ [])))) (becomes 0 (m (plain (struct (const (utf8 "k") [] (ord "x" (plain Nothing) no_field)))))) ∷
    tree (mac "p" [] (plain Tail) ∷ m (plain (choice none ints (on "0" (plain (Macro "p" [])) no_case)))) (becomes 0 (m (plain (choice none ints (on "0" (plain Tail) no_case))))) ∷
    tree (mac "p" [] (plain Tail) ∷ m (plain (struct (const (utf8 "k") [] (ord "x" (plain (Macro "p" [])) no_field))))) (becomes 0 (m (plain (struct (const (utf8 "k") [] (ord "x" (plain Tail) no_field)))))) ∷
    -- a parameter's type is not expanded; a macro may stand below its caller
    tree (mac "p" [] (plain Tail) ∷ fmt "m" (param "n" (Macro "p" []) ∷ []) (plain Nothing) ∷ []) (becomes 0 (fmt "m" (param "n" (Macro "p" []) ∷ []) (plain Nothing) ∷ [])) ∷
    tree (fmt "m" [] (plain (Macro "p" [])) ∷ mac "p" [] (plain Tail) ∷ []) (becomes 0 (m (plain Tail))) ∷
    -- 7 in a choice, in a Vec, behind a Const, in a chain on Bytes
    tree (m (one "s" (plain (choice none ints (on "0" zz no_case))))) (refuses 7) ∷
    tree (m (one "s" (one "x" (plain (Vec zz))))) (refuses 7) ∷
    tree (m (one "s" (plain (struct (const (utf8 "k") [] (ord "x" zz no_field)))))) (refuses 7) ∷
    tree (m (one "s" (one "x" (chained (Bytes []) zz)))) (refuses 7) ∷
    -- 8: an Ordinary field does not bind, nor does a Dependent field bind in itself
    tree (m (plain (struct (ord "n" (plain (Int "i")) (ord "h" H no_field))))) (refuses 8) ∷
    tree (m (plain (struct (dep "n" H no_field)))) (refuses 8) ∷
    -- ConstraintEnum and Never are not anonymous
    tree (m (one "x" (plain (leaf constraint_enum [])))) (becomes 0 (m (one "x" (plain (leaf constraint_enum []))))) ∷
    tree (m (one "x" (plain Never))) (becomes 0 (m (one "x" (plain Never)))) ∷
    -- names stay taken from one format to the next; a child that is walked takes its base as its name, taken or not (reading 6)
    tree (fmt "m" [] (one "a" (plain Enum)) ∷ fmt "m" [] (one "a" (plain Enum)) ∷ []) (becomes 2 (fmt "m" [] (one "a" (plain (Call "m_a" []))) ∷ fmt "m" [] (one "a" (plain (Call "m_a_0" []))) ∷ fmt "m_a" [] (plain Enum) ∷ fmt "m_a_0" [] (plain Enum) ∷ [])) ∷
    tree (constant (utf8 "m_d") [] ∷ m (one "d" (plain (Vec (chained (Bytes []) (plain Enum)))))) (becomes 1 (constant (utf8 "m_d") [] ∷ fmt "m" [] (one "d" (plain (Vec (chained (Bytes []) (plain (Call "m_d_item" [])))))) ∷ fmt "m_d_item" [] (plain Enum) ∷ [])) ∷
    -- the listing: 127 is escaped, '!' is not
    lists (w_book (constant (127 ∷ []) [] ∷ [])) "ok 1 0\nconst %7F\n" ∷
    lists (w_book (constant (utf8 "!") [] ∷ [])) "ok 1 0\nconst !\n" ∷
    []

-- the theorem
abbrev pub Places : Type 0
Places = Holds table
