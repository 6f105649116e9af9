use native.Mathlib.Omega.{arith}
use mathlib.Core.Path.{sym}
use Rattle.read_book.proofs.cursor.Laws.{m_none, m_in, m_short, m_yes, m_no}
use Rattle.read_book.proofs.cursor.Cursor.name.Goals as goal

pub returns-in_err-b : goal.returns-in_err-b
returns-in_err-b c = m_none _ _ c.args.dots c.in_err-b.ensures c.from_residual.ensures.1

pub overflow_sub-s : goal.overflow_sub-s
overflow_sub-s c = (m_in _ _ c.args.dots c.in_ok-b.ensures).1

pub returns-then-s-from : goal.returns-then-s-from
returns-then-s-from c = m_short _ _ c.args.dots c.in_ok-b.ensures _ c.from-n.ensures c.if-s-from.true

pub slice_bounds-is_name-end : goal.slice_bounds-is_name-end
slice_bounds-is_name-end c = omega (arith, (m_in _ _ c.args.dots c.in_ok-b.ensures).1)

pub returns-then-not-is_name : goal.returns-then-not-is_name
returns-then-not-is_name c =
    m_no _ _ c.args.dots c.in_ok-b.ensures _ c.from-n.ensures (omega (arith, (m_in _ _ c.args.dots c.in_ok-b.ensures).1)) (sym c.if-not-is_name.ensures)

pub returns : goal.returns
returns c =
    m_yes _ _ c.args.dots c.in_ok-b.ensures _ c.from-n.ensures (omega (arith, (m_in _ _ c.args.dots c.in_ok-b.ensures).1)) (sym c.if-not-is_name.ensures)
