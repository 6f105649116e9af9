-- The rows of the second table hold, by computing.
use mathlib.Core.Path.{refl}
use Rattle.definition.specs.Utf8.{utf8}
use Rattle.definition.specs.Write.{w_book}
use Rattle.definition.specs.Rows.{all, ◌&◌}
use Rattle.definition.specs.Notation.{hex, vecs, args}
use Rattle.definition.specs.Asked.{nested, seen, expected}
use Rattle.definition.specs.Pinned.{table, Pinned}

pub pinned : Pinned
unfolding utf8 hex vecs args nested w_book table seen expected
pinned =
    -- 1: one byte short, and before 3
    refl &
    refl &
    -- 2, before 3; 16,384 bytes are not too many
    refl &
    refl &
    -- 3: a byte order alone is a book; kind 5; no zero byte; an offset too large by one, with a byte left over; bytes left over in a body and behind the last one; a count of 513 with nothing behind it
    refl &
    refl &
    refl &
    refl &
    refl &
    refl &
    refl &
    -- an unknown tag, and a flag that is neither 0 nor 1
    refl &
    refl &
    -- 4: C0 80, a surrogate, past U+10FFFF, a plain name with '.'; U+10FFFF itself is a character
    refl &
    refl &
    refl &
    refl &
    refl &
    -- reading 10: a count larger than what is left is no fault of the count
    refl &
    -- reading 11: a name that runs past its body is 3, whatever its bytes are
    refl &
    -- reading 12: a byte behind the last body is 3 before a body's 4
    refl &
    -- 5: 63 Vecs pass, 64 do not; 63 macro calls around an argument pass, 64 do not; a chain in the 63rd Vec is too deep; a tag at level 65 with nothing behind it; an unknown tag there is 3
    refl &
    refl &
    refl &
    refl &
    refl &
    refl &
    refl &
    -- rule 1: the last definition of a name counts; a call that is not known stays
    refl &
    refl &
    -- rules 2 and 3: macro arguments are not walked, nor what was put in; its own chain is lost and the call's stays, expanded
    refl &
    -- reading 4: chains are entered, a replaced call's too, and its arguments are lost; macro arguments are not entered
    refl &
    refl &
    -- a parameter named twice is substituted twice; an argument that calls an earlier parameter keeps that call; extra ones are ignored
    refl &
    refl &
    -- rule 5: 64 levels pass and 65 do not; over 16,384 bytes after the first parameter, whatever the second takes away; the finished book
    refl &
    refl &
    refl &
    refl &
    -- 7 where collection goes, and nowhere else (reading 8); before 8 at one lift; not before the 8 of an earlier lift (reading 2)
    refl &
    refl &
    refl &
    refl &
    refl &
    refl &
    refl &
    -- 8 only at lifts; a root's chain is walked before its fields; a finished struct binds no more (reading 1)
    refl &
    refl &
    refl &
    -- 9: a taken base of 253 bytes gives 255, of 254 gives 9; before 7
    refl &
    refl &
    refl &
    -- 10: 16,384 bytes pass and 16,385 do not, nor do 513 definitions
    refl &
    refl &
    refl &
    -- 11: one byte short, and just enough
    refl &
    refl &
    -- each tag as a child: what is anonymous, in which order it comes out, and the segments
    refl &
    -- wrappers: `anon` for Wrap, `item` for Vec, Array and Option
    refl &
    -- choices: a label's segment for Enums, the case's number among all cases for Ints and Arrays
    refl &
    -- two parameters in byte order, each once; a Dependent field binds for the fields after it alone
    refl &
    -- uses: roots of an Array, a selector and an argument up to their first '.', a chain on Tail; a selector ".x" has the root "" (reading 8)
    refl &
    refl &
    refl &
    refl &
    refl &
    -- reading 1, document 01's run: the search starts at the source definition's parameters
    refl &
    -- and goes on through a lifted body that does not have n itself
    refl &
    -- reading 6: children of a lifted node take the chosen name, and its chain the next free one after it
    refl &
    refl &
    -- reading 7: a lifted binder's type is its call; only the outermost chain is dropped; the first binder within one struct wins
    refl &
    refl &
    -- the premise test: yes; a call of nothing; a call of a constant; a chain on an Enum; chains on Tail and Bytes
    refl &
    refl &
    refl &
    refl &
    refl &
    -- macro arguments aside (reading 14), and parameter types; after expansion; a macro is no kind 1 or 2
    refl &
    refl &
    refl &
    refl &
    -- it gives 1 to 6, and nothing later: this book is 8 for the call
    refl &
    refl &
    refl &
    -- the listing: escapes, `-` and `%2D`, `order` alone, a refusal
    refl &
    refl &
    refl &
    refl &
    all
