use mathlib.Core.Path.{ap, ◌∙◌}
use Rattle.definition.specs.Answer.{Answer}
use Rattle.elab.proofs.Numbers.{plain_numbers}
use Rattle.elab.proofs.samulsto_elaborate.Goals as goal

pub returns : goal.returns
returns c =
    let n = c.into.ensures in
    let e = c.elaborate.ensures in
    let a = plain_numbers _ _ _ e.value in
    record { code_value = (n.0 ∙ ap (λ (x : Answer). x.code) a, n.1 ∙ ap (λ (x : Answer). x.size) a, n.2 ∙ ap (λ (x : Answer). x.definitions) a, n.3 ∙ ap (λ (x : Answer). x.lifts) a, n.4 ∙ ap (λ (x : Answer). x.at) a); out_after = e.out_after; work_after = e.work_after }
