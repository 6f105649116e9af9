-- Books for document 02 b as one table with one theorem over it (`Worked`, proved in proofs/Worked): of each, what comes of it in the plain mode and in the nested one.
-- What is expected was worked out by hand, and is what `oracle answer` gives for the same books without and with `--nested`.
use Rattle.std.specs.Prelude.{List, [], ◌∷◌, ◌++◌, ℕ, zero, suc, ◌+◌, ◌-◌, max, length, replicate}
use Prim.Native.String.{String}
use Rattle.definition.specs.Utf8.{utf8}
use Rattle.definition.specs.Tree.{Name, struct, none, ints, choice, macro_invocation, Fields, no_field, no_case, no_inner, Combinator, plain, chained, Definition, format, constant, byte_order, macro}
use Rattle.definition.specs.Write.{w_book}
use Rattle.definition.specs.Answer.{Answer, answer, output}
use Rattle.definition.specs.Notation.{Int, Enum, Tail, Nothing, Bytes, Vec, Option, Array, Wrap, Call, ord, on, one, vecs, Macro, param, fmt, mac, m, long, fat}
use Rattle.definition.specs.Rows.{Each}
use Rattle.definition.specs.Worked.{Outcome, refuses_at, refuses, gives, answer_of, noise}
use Rattle.definition.specs.Asked.{becomes}
use Rattle.nested.specs.Nested.{answer_nested, output_nested}

pub record Row : Type 0 where
  pub book : List ℕ
  -- the lengths of output and work area
  pub out : ℕ
  pub work : ℕ
  pub plainly : Outcome
  pub nested : Outcome

abbrev room : Outcome → ℕ
room (refuses_at k p) = 0
room (gives n ds b) = length b

-- room for each result and one byte more
abbrev raw : List ℕ → Outcome → Outcome → Row
raw b x y = record { book = b; out = max (room x) (room y) + 1; work = 65536; plainly = x; nested = y }

abbrev apart : List Definition → Outcome → Outcome → Row
apart ds x y = raw (w_book ds) x y

-- the same in both modes
abbrev alike : List Definition → Outcome → Row
alike ds x = apart ds x x

-- a macro without parameters, and a call of one
abbrev def : String → Combinator → Definition
def n c = mac n [] c

abbrev use_of : String → Combinator
use_of n = plain (Macro n [])

-- a struct of k fields x, each with one layout
unfoldable pub fields : ℕ → Combinator → Fields
fields zero c = no_field
fields (suc k) c = ord "x" c (fields k c)

abbrev many : ℕ → Combinator → Combinator
many k c = plain (struct (fields k c))

-- 510 definitions: with three lifts there are too many
abbrev crowd : Combinator → List Definition
crowd c = fmt "m" [] (many 2 c) ∷ replicate 509 (byte_order [])

-- a layout in a choice and in three wrappers, in two formats among other definitions
abbrev shells : Combinator → List Definition
shells c = constant (utf8 "c") [] ∷ fmt "k" [] (plain (choice none ints (on "0" (plain Nothing) (on "1" c no_case)))) ∷ byte_order [] ∷ m (plain (Wrap (plain (Option (plain (Array [] c))))))

-- k + 1 macros, each of which calls the next; the last one is Nothing. What calls the first needs k + 1 passes
abbrev rung : ℕ → Name
rung k = (65 + k) ∷ []

abbrev climb : ℕ → Combinator
climb k = plain (macro_invocation (rung k) no_inner)

unfoldable pub ladder : ℕ → List Definition
ladder zero = macro (rung zero) [] (plain Nothing) ∷ []
ladder (suc k) = macro (rung (suc k)) [] (climb k) ∷ ladder k

-- a macro that calls itself, and a format l that calls it: 12, if nothing comes before
abbrev looped : List Definition → List Definition
looped ds = def "p" (use_of "p") ∷ fmt "l" [] (use_of "p") ∷ ds

-- and what is left of it after one pass
abbrev left : List Definition → List Definition
left ds = fmt "l" [] (use_of "p") ∷ ds

unfoldable pub pass_rows : List Row
pass_rows =
    -- one pass is enough: no definition, no macro, no known call after the first pass
    alike [] (becomes 0 []) ∷
    alike (m (one "s" (plain Enum))) (becomes 1 (m (one "s" (plain (Call "m_s" []))) ++ fmt "m_s" [] (plain Enum) ∷ [])) ∷
    alike (mac "p" ("a" ∷ []) (one "x" (plain (Call "a" []))) ∷ m (plain (Macro "p" (Nothing ∷ [])))) (becomes 0 (m (one "x" (plain Nothing)))) ∷
    -- two: "a macro for a dated field inside a macro for a record"
    apart (def "date" (plain (Int "d")) ∷ def "rec" (one "f" (use_of "date")) ∷ m (use_of "rec"))
    (becomes 0 (m (one "f" (use_of "date")))) (becomes 0 (m (one "f" (plain (Int "d"))))) ∷
    -- what a later pass puts in is lifted like the rest; 7 in the plain mode, where the inner call is left
    apart (def "date" (one "y" (plain Tail)) ∷ def "rec" (one "f" (use_of "date")) ∷ m (one "s" (use_of "rec")))
    (refuses 7) (becomes 2 (m (one "s" (plain (Call "m_s" []))) ++ fmt "m_s_f" [] (one "y" (plain Tail)) ∷ fmt "m_s" [] (one "f" (plain (Call "m_s_f" []))) ∷ [])) ∷
    -- three; 16; one more is 12
    apart (ladder 2 ++ m (climb 2)) (becomes 0 (m (climb 1))) (becomes 0 (m (plain Nothing))) ∷
    apart (ladder 15 ++ m (climb 15)) (becomes 0 (m (climb 14))) (becomes 0 (m (plain Nothing))) ∷
    apart (ladder 16 ++ m (climb 16)) (becomes 0 (m (climb 15))) (refuses 12) ∷
    -- a macro that calls itself, alone and in a struct; two that call each other; all of this is nothing where no format calls them
    apart (looped []) (becomes 0 (left [])) (refuses 12) ∷
    apart (def "p" (one "x" (use_of "p")) ∷ m (use_of "p")) (becomes 0 (m (one "x" (use_of "p")))) (refuses 12) ∷
    apart (def "p" (use_of "q") ∷ def "q" (use_of "p") ∷ m (use_of "p")) (becomes 0 (m (use_of "q"))) (refuses 12) ∷
    alike (def "p" (use_of "p") ∷ m (plain Nothing)) (becomes 0 (m (plain Nothing))) ∷
    []

unfoldable pub macro_rows : List Row
macro_rows =
    -- the same macros in every pass: the last definition of a name counts in the second one too
    apart (def "q" (plain Enum) ∷ def "p" (use_of "q") ∷ def "q" (plain Tail) ∷ m (use_of "p")) (becomes 0 (m (use_of "q"))) (becomes 0 (m (plain Tail))) ∷
    -- calls that are not known stay, whoever puts them in
    alike (m (use_of "zz")) (becomes 0 (m (use_of "zz"))) ∷
    alike (def "p" (use_of "zz") ∷ m (use_of "p")) (becomes 0 (m (use_of "zz"))) ∷
    -- a known call in an argument of a call that stays: no pass reaches it, and it does not count
    alike (def "p" (plain Tail) ∷ m (plain (Macro "zz" (Macro "p" [] ∷ [])))) (becomes 0 (m (plain (Macro "zz" (Macro "p" [] ∷ []))))) ∷
    alike (def "p" (plain Tail) ∷ m (plain (Macro "zz" (Vec (use_of "p") ∷ [])))) (becomes 0 (m (plain (Macro "zz" (Vec (use_of "p") ∷ []))))) ∷
    -- put in for a parameter it is reached by the next pass; so is one in an argument of such a call, one pass later
    apart (mac "p" ("a" ∷ []) (one "x" (plain (Call "a" []))) ∷ def "q" (plain Tail) ∷ m (plain (Macro "p" (Macro "q" [] ∷ []))))
    (becomes 0 (m (one "x" (use_of "q")))) (becomes 0 (m (one "x" (plain Tail)))) ∷
    apart (mac "p" ("a" ∷ []) (plain (Vec (plain (Call "a" [])))) ∷ def "q" (plain Tail) ∷ m (plain (Macro "p" (Macro "p" (Macro "q" [] ∷ []) ∷ []))))
    (becomes 0 (m (plain (Vec (plain (Macro "p" (Macro "q" [] ∷ []))))))) (becomes 0 (m (vecs 2 (plain Tail)))) ∷
    -- substitution does not enter macro arguments: the inner macro's argument stays a call of a
    apart (mac "date" ("a" ∷ []) (plain (Call "a" [])) ∷ mac "rec" ("a" ∷ []) (one "f" (plain (Macro "date" (Call "a" [] ∷ [])))) ∷ m (plain (Macro "rec" (Tail ∷ []))))
    (becomes 0 (m (one "f" (plain (Macro "date" (Call "a" [] ∷ [])))))) (becomes 0 (m (one "f" (plain (Call "a" []))))) ∷
    -- every pass walks chains: the chain at the call stays and is expanded, the chain of each body put in is lost
    apart (def "p" (chained (Macro "q" []) (plain Enum)) ∷ def "q" (chained Tail (plain Enum)) ∷ m (chained (Macro "p" []) (use_of "p")))
    (becomes 0 (m (chained (Macro "q" []) (use_of "q")))) (becomes 0 (m (chained Tail (plain Tail)))) ∷
    apart (def "p" (use_of "q") ∷ def "q" (plain Tail) ∷ m (chained (Bytes []) (use_of "p"))) (becomes 0 (m (chained (Bytes []) (use_of "q")))) (becomes 0 (m (chained (Bytes []) (plain Tail)))) ∷
    -- and choices, Wrap, Option, Array; all formats
    apart (def "p" (use_of "q") ∷ def "q" (plain Tail) ∷ shells (use_of "p")) (becomes 0 (shells (use_of "q"))) (becomes 0 (shells (plain Tail))) ∷
    -- a parameter type is not walked, and does not count
    alike (def "p" (plain Tail) ∷ fmt "m" (param "n" (Macro "p" []) ∷ []) (plain Nothing) ∷ []) (becomes 0 (fmt "m" (param "n" (Macro "p" []) ∷ []) (plain Nothing) ∷ [])) ∷
    []

unfoldable pub code_rows : List Row
code_rows =
    -- 1 to 5 as in document 01, before the 12 of the same book
    record { book = w_book (looped []); out = 100; work = 65535; plainly = refuses 1; nested = refuses 1 } ∷
    alike (looped (m (fat 16384))) (refuses 2) ∷
    raw (w_book (looped []) ++ 0 ∷ []) (refuses_at 3 34) (refuses_at 3 34) ∷
    alike (looped (constant (utf8 ".") [] ∷ [])) (refuses_at 4 40) ∷
    alike (looped (m (vecs 64 (plain Nothing)))) (refuses_at 5 108) ∷
    -- 6 in the second pass: the finished book has over 16,384 bytes, or 65 levels; the body of q has, though only its Nothing would be put in. 64 levels pass
    apart (def "q" (fat 900) ∷ def "p" (many 20 (use_of "q")) ∷ m (use_of "p")) (becomes 0 (m (many 20 (use_of "q")))) (refuses 6) ∷
    apart (def "q" (vecs 40 (plain Nothing)) ∷ def "p" (vecs 24 (use_of "q")) ∷ m (use_of "p")) (becomes 0 (m (vecs 24 (use_of "q")))) (refuses 6) ∷
    apart (mac "q" ("a" ∷ []) (chained Nothing (vecs 62 (plain (Call "a" [])))) ∷ def "p" (plain (Macro "q" (Vec (plain Nothing) ∷ []))) ∷ m (use_of "p"))
    (becomes 0 (m (plain (Macro "q" (Vec (plain Nothing) ∷ []))))) (refuses 6) ∷
    apart (def "q" (vecs 39 (plain Nothing)) ∷ def "p" (vecs 24 (use_of "q")) ∷ m (use_of "p")) (becomes 0 (m (vecs 24 (use_of "q")))) (becomes 0 (m (vecs 63 (plain Nothing)))) ∷
    -- 6 before the 12 that would come: 4 levels more in each pass, 65 after pass 16. With 3 it is 12
    apart (def "p" (vecs 4 (use_of "p")) ∷ m (use_of "p")) (becomes 0 (m (vecs 4 (use_of "p")))) (refuses 6) ∷
    apart (def "p" (vecs 3 (use_of "p")) ∷ m (use_of "p")) (becomes 0 (m (vecs 3 (use_of "p")))) (refuses 12) ∷
    -- 12 before 7, 8, 9, 10 and 11
    apart (looped (m (one "s" (one "x" (use_of "zz"))))) (refuses 7) (refuses 12) ∷
    apart (looped (m (one "h" (one "b" (plain (Bytes ("n" ∷ []))))))) (refuses 8) (refuses 12) ∷
    apart (looped (format (long 254) [] (one "a" (plain Enum)) ∷ [])) (refuses 9) (refuses 12) ∷
    apart (looped (crowd (plain (Vec (plain Enum))))) (refuses 10) (refuses 12) ∷
    record { book = w_book (looped []); out = 0; work = 65536; plainly = refuses 11; nested = refuses 12 } ∷
    -- 7 to 11 as in document 01, over the list after the last pass
    apart (ladder 2 ++ m (one "s" (one "x" (climb 2)))) (refuses 7) (becomes 1 (m (one "s" (plain (Call "m_s" []))) ++ fmt "m_s" [] (one "x" (plain Nothing)) ∷ [])) ∷
    apart (def "p" (use_of "q") ∷ def "q" (one "x" (use_of "zz")) ∷ m (one "s" (use_of "p"))) (becomes 0 (m (one "s" (use_of "q")))) (refuses 7) ∷
    apart (def "p" (use_of "q") ∷ def "q" (one "x" (plain (Bytes ("n" ∷ [])))) ∷ m (one "s" (use_of "p"))) (becomes 0 (m (one "s" (use_of "q")))) (refuses 8) ∷
    apart (def "p" (use_of "q") ∷ def "q" (plain Enum) ∷ format (long 254) [] (one "a" (use_of "p")) ∷ []) (becomes 0 (format (long 254) [] (one "a" (use_of "q")) ∷ [])) (refuses 9) ∷
    apart (def "p" (use_of "q") ∷ def "q" (plain (Vec (plain Enum))) ∷ crowd (use_of "p")) (becomes 0 (crowd (use_of "q"))) (refuses 10) ∷
    record { book = w_book (def "p" (use_of "q") ∷ def "q" (fat 20) ∷ m (use_of "p")); out = 35; work = 65536; plainly = becomes 0 (m (use_of "q")); nested = refuses 11 } ∷
    record { book = w_book (def "p" (use_of "q") ∷ def "q" (fat 20) ∷ m (use_of "p")); out = 36; work = 65536; plainly = becomes 0 (m (use_of "q")); nested = becomes 0 (m (fat 20)) } ∷
    []

-- the two answers, and the outputs where there is a result
pub record Seen : Type 0 where
  pub plainly : Answer
  pub plain_output_of : List ℕ
  pub nested : Answer
  pub nested_output_of : List ℕ

abbrev plain_output : Outcome → Row → List ℕ
plain_output (refuses_at k p) r = []
plain_output (gives n ds b) r = output r.book (noise r.out) r.work

abbrev nested_output : Outcome → Row → List ℕ
nested_output (refuses_at k p) r = []
nested_output (gives n ds b) r = output_nested r.book (noise r.out) r.work

unfoldable pub seen : Row → Seen
unfolding w_book answer output answer_nested output_nested
seen r = record {
  plainly = answer r.book r.out r.work;
  plain_output_of = plain_output r.plainly r;
  nested = answer_nested r.book r.out r.work;
  nested_output_of = nested_output r.nested r;
}

abbrev filled : Outcome → ℕ → List ℕ
filled (refuses_at k p) o = []
filled (gives n ds b) o = b ++ noise (o - length b)

unfoldable pub expected : Row → Seen
expected r = record {
  plainly = answer_of r.plainly;
  plain_output_of = filled r.plainly r.out;
  nested = answer_of r.nested;
  nested_output_of = filled r.nested r.out;
}

unfoldable pub table : List Row
unfolding pass_rows macro_rows code_rows
table = pass_rows ++ macro_rows ++ code_rows

-- the theorem
abbrev pub Worked : Type 0
Worked = Each seen expected table
