use mathlib.Core.Path.{◌∙◌}
use native.Mathlib.Omega.{arith}
use Rattle.layout.proofs.items.Laws.{number_inside}
use Rattle.read_book.proofs.entry.Entries.{f_short, f_kind, f_second, f_third, f_end, f_ok}
use Rattle.read_book.proofs.entry.entry.Goals as goal
use Rattle.read_book.proofs.entry.entry.Goals.{then-s-at-via-then-s-at, then-s-at-via-else-s-at+then-s-at-2, then-s-at-ne0-via-then-s-at-ne0, then-s-at-ne0-via-else-s-at-ne0+then-from-want}

pub returns-then-s-at : goal.returns-then-s-at
returns-then-s-at c =
    f_short _ _ _ c.args.more (elim c.then-s-at.branch [ then-s-at-via-then-s-at w ↦ omega arith | then-s-at-via-else-s-at+then-s-at-2 w ↦ omega arith ])

pub returns-then-kind-lt-FORMAT : goal.returns-then-kind-lt-FORMAT
returns-then-kind-lt-FORMAT c = f_kind _ _ _ c.args.more (omega arith) c.then-kind-lt-FORMAT.either

pub returns-then-s-at-ne0 : goal.returns-then-s-at-ne0
returns-then-s-at-ne0 c =
    elim c.then-s-at-ne0.branch [
      | then-s-at-ne0-via-then-s-at-ne0 w ↦ f_second _ _ _ c.args.more (omega arith) c.if-kind-lt-FORMAT.false c.if-kind-gt-MACRO.false w.if-s-at-ne0.true
      | then-s-at-ne0-via-else-s-at-ne0+then-from-want w ↦
          f_third _ _ _ c.args.more (omega arith) c.if-kind-lt-FORMAT.false c.if-kind-gt-MACRO.false w.if-s-at-ne0.false _ (w.from.ensures ∙ w.number.ensures ∙ number_inside _ _ (omega arith)) w.if-from-want.true
    ]

pub returns-then-s-end : goal.returns-then-s-end
returns-then-s-end c =
    f_end _ _ _ c.args.more (omega arith) c.if-kind-lt-FORMAT.false c.if-kind-gt-MACRO.false c.if-s-at-ne0.false
    _ (c.from.ensures ∙ c.number.ensures ∙ number_inside _ _ (omega arith)) c.if-from-want.false
    _ (c.from-2.ensures ∙ c.number-2.ensures ∙ number_inside _ _ (omega arith)) c.if-s-end.true

pub returns : goal.returns
returns c =
    f_ok _ _ _ c.args.more (omega arith) c.if-kind-lt-FORMAT.false c.if-kind-gt-MACRO.false c.if-s-at-ne0.false
    _ (c.from.ensures ∙ c.number.ensures ∙ number_inside _ _ (omega arith)) c.if-from-want.false
    _ (c.from-2.ensures ∙ c.number-2.ensures ∙ number_inside _ _ (omega arith)) _ (omega arith) c.if-s-end.false
