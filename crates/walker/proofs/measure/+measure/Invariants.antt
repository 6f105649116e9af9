use Prim.Native.Nat.{◌+◌, ◌-◌, ◌*◌}
use mathlib.Core.Path.{◌≡◌}
use lib.ListN.{length}
use Rattle.walker.specs.measure.Measure.{times, argument_at, field_at, case_at}
use Rattle.walker.proofs.measure.+measure.Given as goal

abbrev pub decreases-argument : goal.decreases-argument
decreases-argument l = 8 * l.levels + 1

abbrev pub decreases-arguments : goal.decreases-arguments
decreases-arguments l = 8 * l.levels + 2

abbrev pub decreases-behind : goal.decreases-behind
decreases-behind l = 8 * l.levels + 3

abbrev pub decreases-choice : goal.decreases-choice
decreases-choice l = 8 * l.levels + 1

abbrev pub decreases-field : goal.decreases-field
decreases-field l = 8 * l.levels + 1

abbrev pub decreases-fields : goal.decreases-fields
decreases-fields l = 8 * l.levels + 2

abbrev pub decreases-measure_combinator : goal.decreases-measure_combinator
decreases-measure_combinator l = 8 * l.levels

abbrev pub decreases-measure_inner : goal.decreases-measure_inner
decreases-measure_inner l = 8 * l.levels + 4

abbrev pub decreases-wrap : goal.decreases-wrap
decreases-wrap l = 8 * l.levels + 1

abbrev pub invariant-arguments-loop : goal.invariant-arguments-loop
invariant-arguments-loop l = (length l.ends ≡ length l.initial.ends) × (times (argument_at l.levels l.s) (l.k - l.initial.counter) l.initial.here l.initial.ends ≡ times (argument_at l.levels l.s) (l.k - l.counter) l.here l.ends)

abbrev pub invariant-choice-loop : goal.invariant-choice-loop
invariant-choice-loop l = (length l.ends ≡ length l.initial.ends) × (times (case_at l.levels l.s l.kind) (l.k - l.initial.counter) l.initial.here l.initial.ends ≡ times (case_at l.levels l.s l.kind) (l.k - l.counter) l.here l.ends)

abbrev pub invariant-fields-loop : goal.invariant-fields-loop
invariant-fields-loop l = (length l.ends ≡ length l.initial.ends) × (times (field_at l.levels l.s) (l.k - l.initial.counter) l.initial.here l.initial.ends ≡ times (field_at l.levels l.s) (l.k - l.counter) l.here l.ends)
