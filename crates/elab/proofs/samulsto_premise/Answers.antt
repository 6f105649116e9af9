use Rattle.definition.specs.Premise.{PremiseAnswer}
use Rattle.elab.proofs.Numbers.{premise_numbers}
use mathlib.Core.Path.{ap, ◌∙◌}
use Rattle.elab.proofs.samulsto_premise.Goals as goal

pub returns : goal.returns
returns c =
    let n = c.into.ensures in
    let t = c.premise.ensures in
    let a = premise_numbers _ _ t.value in
    record { code_value = (n.0 ∙ ap (λ (x : PremiseAnswer). x.code) a, n.1 ∙ ap (λ (x : PremiseAnswer). x.holds) a, n.2 ∙ ap (λ (x : PremiseAnswer). x.at) a); work_after = t.work_after }
