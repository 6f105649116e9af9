use Rattle.std.proofs.Common.{◌∙◌, rules, tests}
use Rattle.std.proofs.lemmas.Iterator.{YieldsList-from_slice}
use Rattle.std.proofs.lemmas.Iterator.Search.{position_from_yields_List}
use lib.Dec.{eqb}
use Rattle.collect_params.proofs.uses.Uses.{root_found}
use Rattle.collect_params.proofs.uses.root_length.Goals as goal

pub returns : goal.returns
returns c = c.unwrap_or.ensures ∙ root_found _ _ (position_from_yields_List (λ b. eqb b 46) _ _ c.position.result c.position.ensures.ran (YieldsList-from_slice _ c.iter.ensures.rest) (λ x b q k. search (rules, tests)))
