use native.Mathlib.Omega.{arith}
use mathlib.Core.Logic.{inl, inr}
use Rattle.read_book.proofs.cursor.Laws.{n_none, n_at}
use Rattle.read_book.proofs.cursor.Cursor.u16.Goals as goal
use Rattle.read_book.proofs.cursor.Cursor.u16.Goals.{then-s-at-via-then-s-at, then-s-at-via-else-s-at+then-s-at-2}

pub returns-then-s-at : goal.returns-then-s-at
returns-then-s-at c =
    n_none _ _ (elim c.then-s-at.branch [ then-s-at-via-then-s-at w ↦ inl w.if-s-at.true | then-s-at-via-else-s-at+then-s-at-2 w ↦ inr (w.if-s-at.false, w.if-s-at-2.true) ])

pub returns : goal.returns
returns c = n_at _ _ _ (omega arith) (omega (arith, c.from_le_bytes-number.ensures))
