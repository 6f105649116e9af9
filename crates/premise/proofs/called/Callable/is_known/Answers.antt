use mathlib.Core.Path.{◌∙◌}
use Rattle.premise.proofs.called.Every.{other_known, found_known}
use Rattle.premise.proofs.called.Callable.is_known.Goals as goal

pub invariant_of-names : goal.invariant_of-names
invariant_of-names c = record { table = c.args.self.table }

pub returns-then-tag-eq-INVOCATION : goal.returns-then-tag-eq-INVOCATION
returns-then-tag-eq-INVOCATION c = c.is_some.ensures ∙ found_known _ _ _ _ _ c.byte-tag.ensures c.if-tag-eq-INVOCATION.true _ c.past-a.ensures _ c.name_at.ensures c.find.ensures

pub returns : goal.returns
returns c = other_known _ _ _ _ _ c.byte-tag.ensures c.if-tag-eq-INVOCATION.false
