-- The rows of the third table hold, by computing.
use mathlib.Core.Path.{refl}
use Rattle.definition.specs.Utf8.{utf8}
use Rattle.definition.specs.Write.{w_book}
use Rattle.definition.specs.Rows.{all, ◌&◌}
use Rattle.definition.specs.Notation.{hex, args}
use Rattle.definition.specs.Asked.{nested, seen, expected}
use Rattle.definition.specs.Limits.{table, Limits}

pub limits : Limits
unfolding utf8 hex args nested w_book table seen expected
limits =
    -- 1 before 2, in the call and in the premise test
    refl &
    refl &
    -- 3: an offset that leaves a gap, with no byte left over; 513 entries that are there
    refl &
    refl &
    -- the first faulty body counts: its 4 comes before the next one's 3
    refl &
    -- 5: a tag that is missing at level 65 is 3; a parameter's type of 64 levels passes, of 65 does not
    refl &
    refl &
    refl &
    -- 2: a book of 16,384 bytes passes
    refl &
    -- 6: a macro's combinator of 16,384 bytes passes, of 16,385 with its chain does not
    refl &
    refl &
    -- 10: 512 definitions pass; it is tested before the lifts inside (reading 2), of which one is 8; the listing prints a number of two digits
    refl &
    refl &
    refl &
    -- "The work area, short or not, is all zero afterwards", and as long as it was
    refl &
    refl &
    refl &
    all
