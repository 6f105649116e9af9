use Rattle.collect_params.proofs.sort.+sort.Given as goal

abbrev pub decreases-sort : goal.decreases-sort
decreases-sort l = l.halvings
