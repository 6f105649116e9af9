-- The rows of the table hold, by computing.
-- Assumes nothing.
use mathlib.Core.Path.{refl}
use Rattle.definition.specs.Utf8.{utf8}
use Rattle.definition.specs.Write.{w_book}
use Rattle.definition.specs.Notation.{vecs, args}
use Rattle.definition.specs.Rows.{all, ◌&◌}
use Rattle.nested.specs.Worked.{fields, ladder, table, seen, expected, Worked}

pub worked : Worked
unfolding utf8 vecs args fields ladder w_book table seen expected
worked =
    -- one pass is enough: no definition, no macro, no known call after the first pass
    refl &
    refl &
    refl &
    -- two: "a macro for a dated field inside a macro for a record"
    refl &
    -- what a later pass puts in is lifted like the rest; 7 in the plain mode, where the inner call is left
    refl &
    -- three; 16; one more is 12
    refl &
    refl &
    refl &
    -- a macro that calls itself, alone and in a struct; two that call each other; all of this is nothing where no format calls them
    refl &
    refl &
    refl &
    refl &
    -- the same macros in every pass: the last definition of a name counts in the second one too
    refl &
    -- calls that are not known stay, whoever puts them in
    refl &
    refl &
    -- a known call in an argument of a call that stays: no pass reaches it, and it does not count
    refl &
    refl &
    -- put in for a parameter it is reached by the next pass; so is one in an argument of such a call, one pass later
    refl &
    refl &
    -- substitution does not enter macro arguments: the inner macro's argument stays a call of a
    refl &
    -- every pass walks chains: the chain at the call stays and is expanded, the chain of each body put in is lost
    refl &
    refl &
    -- and choices, Wrap, Option, Array; all formats
    refl &
    -- a parameter type is not walked, and does not count
    refl &
    -- 1 to 5 as in document 01, before the 12 of the same book
    refl &
    refl &
    refl &
    refl &
    refl &
    -- 6 in the second pass: the finished book has over 16,384 bytes, or 65 levels; the body of q has, though only its Nothing would be put in. 64 levels pass
    refl &
    refl &
    refl &
    refl &
    -- 6 before the 12 that would come: 4 levels more in each pass, 65 after pass 16. With 3 it is 12
    refl &
    refl &
    -- 12 before 7, 8, 9, 10 and 11
    refl &
    refl &
    refl &
    refl &
    refl &
    -- 7 to 11 as in document 01, over the list after the last pass
    refl &
    refl &
    refl &
    refl &
    refl &
    refl &
    refl &
    all
