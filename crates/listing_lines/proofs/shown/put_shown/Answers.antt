use mathlib.Core.Path.{sym, ◌∙◌}
use native.Mathlib.Omega.{arith}
use Rattle.listing_lines.proofs.shown.Shown.{shown_none, some_byte, shown_dash, goes_start, goes_on, goes_whole}
use Rattle.listing_lines.proofs.shown.put_shown.Goals as goal

pub returns-then-is_empty : goal.returns-then-is_empty
returns-then-is_empty c = rw (shown_none _ (sym c.is_empty.ensures ∙ c.if-is_empty.true)) c.put_bytes.ensures

pub returns-then-is_dash : goal.returns-then-is_dash
returns-then-is_dash c = rw (shown_dash _ (sym c.is_dash.ensures ∙ c.if-is_dash.true)) c.put_bytes-then-is_dash.ensures

pub loop-b-init : goal.loop-b-init
loop-b-init c = goes_start _ _ _

pub loop-b-preserved : goal.loop-b-preserved
loop-b-preserved c = goes_on c.loop-b-test.true c.loop-b.invariant c.put_shown_byte-o.ensures

pub returns : goal.returns
returns c = goes_whole (some_byte _ (sym c.is_empty.ensures ∙ c.if-is_empty.false)) (sym c.is_dash.ensures ∙ c.if-is_dash.false) (omega arith) c.loop-b.invariant
