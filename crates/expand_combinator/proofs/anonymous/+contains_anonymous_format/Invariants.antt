use Rattle.expand_combinator.proofs.anonymous.+contains_anonymous_format.Given as goal

abbrev pub decreases-contains_anonymous_format : goal.decreases-contains_anonymous_format
decreases-contains_anonymous_format l = l.levels
