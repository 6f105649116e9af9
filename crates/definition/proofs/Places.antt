-- The rows of the fourth table hold, by computing.
use mathlib.Core.Path.{refl}
use Rattle.definition.specs.Utf8.{utf8}
use Rattle.definition.specs.Write.{w_book}
use Rattle.definition.specs.Rows.{all, ◌&◌}
use Rattle.definition.specs.Notation.{hex, args}
use Rattle.definition.specs.Asked.{seen, expected}
use Rattle.definition.specs.Places.{table, Places}

pub places : Places
unfolding utf8 hex args w_book table seen expected
places =
    -- all of it in one book, as bytes and as a tree
    refl &
    refl &
    -- a selector and Ints; no selector and Arrays; Option and Array; ConstraintEnum
    refl &
    refl &
    refl &
    refl &
    -- parameters are substituted in choices and behind a Const; macros are expanded there too
    refl &
    refl &
    refl &
    refl &
    -- a parameter's type is not expanded; a macro may stand below its caller
    refl &
    refl &
    -- 7 in a choice, in a Vec, behind a Const, in a chain on Bytes
    refl &
    refl &
    refl &
    refl &
    -- 8: an Ordinary field does not bind, nor does a Dependent field bind in itself
    refl &
    refl &
    -- ConstraintEnum and Never are not anonymous
    refl &
    refl &
    -- names stay taken from one format to the next; a child that is walked takes its base as its name, taken or not (reading 6)
    refl &
    refl &
    -- the listing: 127 is escaped, '!' is not
    refl &
    refl &
    all
