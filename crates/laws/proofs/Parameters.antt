-- "Parameters: free root names, each once, in byte order.": those of every definition that is lifted.
use mathlib.Core.List.{◌∷◌, List, ◌++◌, []}
use Rattle.definition.specs.Tree.{Definition, Name, Combinator, Param, format, constant, byte_order, macro}
use Rattle.definition.specs.Collect.{free}
use Rattle.definition.specs.Lift.{Walk, full, State, start}
use Rattle.laws.specs.Lists.{param_names}
use Rattle.laws.specs.Laws.{LiftedAscend, ParametersAscend, Ascending}
use Rattle.laws.proofs.Steps.{so, yielded}
use Rattle.laws.proofs.Order.{sorted_ascends}
use Rattle.laws.proofs.Lifted.{Lifted}
use Rattle.laws.proofs.States.{Carried, states_all}
use Rattle.laws.proofs.Results.{elaborated_yields, attempt_yields}

ascend_snoc : (ds : List Definition) (n : Name) (ps : List Param) (c : Combinator) → LiftedAscend ds → Ascending (param_names ps) → LiftedAscend (ds ++ (format n ps c ∷ []))
ascend_snoc [] n ps c f g = (g, tt)
ascend_snoc (format m qs d ∷ ds) n ps c f g = (f.0, ascend_snoc ds n ps c f.1 g)
ascend_snoc (constant m x ∷ ds) n ps c f g = absurd f
ascend_snoc (byte_order x ∷ ds) n ps c f g = absurd f
ascend_snoc (macro m qs d ∷ ds) n ps c f g = absurd f

abbrev Ascends : State → State → Type 0
Ascends s t = LiftedAscend s.made → LiftedAscend t.made

lift_ascends : {c : Combinator} {inside : Walk} {n : Name} {b : List Param} {s : State} {d : Combinator} {t : State} (l : Lifted full c inside n b s d t) → Ascends l.first l.last → Ascends s t
lift_ascends {c = c} l f h = rw l.last_made (ascend_snoc l.last.made l.name l.params l.body (f (rw l.first_made h)) (rw l.needed (sorted_ascends (free c))))

carried_ascends : Carried full Ascends
carried_ascends = record { stays = λ s f. f; goes_on = λ f g h. g (f h); lifts = λ l f. lift_ascends l f }

pub parameters_ascend : ParametersAscend
unfolding start
parameters_ascend book o w r e = (yielded (attempt_yields (λ r. LiftedAscend r.lifted) book
    (elaborated_yields (λ r. LiftedAscend r.lifted) book λ ds e. so (states_all full Ascends carried_ascends ds (start ds)) λ es t f. f tt) o w) e).0
