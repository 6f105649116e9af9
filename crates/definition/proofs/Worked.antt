-- P1 to P10 hold, by computing.
use mathlib.Core.Path.{refl}
use Rattle.definition.specs.Utf8.{utf8}
use Rattle.definition.specs.Rows.{all, ◌&◌}
use Rattle.definition.specs.Notation.{hex, args}
use Rattle.definition.specs.Worked.{table, seen, expected, Worked}

pub worked : Worked
unfolding utf8 hex args table seen expected
worked =
    -- P1 `00 00`: same book; listing `ok 0 0`
    refl &
    -- P1 "No bytes at all, or one: 3."
    refl &
    refl &
    refl &
    -- P2: same book; `ok 1 0`, `format e 0`
    refl &
    -- P3 format msg, struct { Dependent n: ConstraintInt; hdr: struct { body: Bytes, root n } }
    refl &
    -- P4 "P3 without n: 8"
    refl &
    -- P5 "msg with field f: Vec of Enum: lifted in order msg_f_item, msg_f"
    refl &
    -- P6 "P3 with formats msg_hdr and msg_hdr_0 beside: msg_hdr_1"
    refl &
    -- P7 "format m, root Bytes chained to an Enum: lifted m_0"
    refl &
    -- P7 "A field d of m so made: m_d"
    refl &
    -- P8 "parameter n of one type, field n of another, then a lifted use of n: the parameter's type"
    refl &
    -- P9 "macro (a, b), body struct { x: call a; y: call b }, arguments call b and Nothing: both fields Nothing"
    refl &
    -- P9 "One argument only: y stays a call of b"
    refl &
    -- P10 label "Ab-é" gives the segment "ab__"
    refl &
    all
