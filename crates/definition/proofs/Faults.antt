-- The rows of the fifth table hold, by computing.
use mathlib.Core.Path.{refl}
use Rattle.definition.specs.Utf8.{utf8}
use Rattle.definition.specs.Rows.{all, ◌&◌}
use Rattle.definition.specs.Notation.{hex}
use Rattle.definition.specs.Asked.{seen, expected}
use Rattle.definition.specs.Faults.{table, Faults}

pub faults : Faults
unfolding utf8 hex table seen expected
faults =
    -- the count: missing, cut, over 512
    refl &
    refl &
    refl &
    -- an entry: missing, cut, of no known kind, with another second byte, with a gap before its body, with a range past the end
    refl &
    refl &
    refl &
    refl &
    refl &
    refl &
    -- the same of a second entry
    refl &
    refl &
    refl &
    refl &
    -- an item that is missing stands where it would begin: a name, a count of parameters, a tag, a flag, a text
    refl &
    refl &
    refl &
    refl &
    refl &
    -- a tag, a chain's flag, a selector's flag, a case kind, a field kind
    refl &
    refl &
    refl &
    refl &
    refl &
    -- a name: its length, where its bytes run past the body (3) and where they are not UTF-8 or have a dot (4): a definition's, a selector, a label, a root
    refl &
    refl &
    refl &
    refl &
    refl &
    -- a text: its length
    refl &
    -- leftover bytes: in a body, behind the last one
    refl &
    refl &
    -- in a body that is not the last: a tag, a flag, a name, leftover bytes
    refl &
    refl &
    refl &
    refl &
    -- a tag at level 65
    refl &
    -- the premise test hands it on
    refl &
    -- "The listing prints `refused N at P` for the three", also where P is 0
    refl &
    refl &
    refl &
    all
