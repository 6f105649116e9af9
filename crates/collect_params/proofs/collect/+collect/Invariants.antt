use Rattle.std.proofs.Common.{◌≡◌, ◌+◌, ◌-◌, ◌*◌}
use Rattle.collect_params.specs.collect.Walk.{times, argument_at, case_at, field_at}
use Rattle.collect_params.proofs.collect.+collect.Given as goal

abbrev pub decreases-argument : goal.decreases-argument
decreases-argument l = 8 * l.levels + 1

abbrev pub decreases-arguments : goal.decreases-arguments
decreases-arguments l = 8 * l.levels + 2

abbrev pub decreases-array : goal.decreases-array
decreases-array l = 8 * l.levels + 1

abbrev pub decreases-case : goal.decreases-case
decreases-case l = 8 * l.levels + 1

abbrev pub decreases-cases : goal.decreases-cases
decreases-cases l = 8 * l.levels + 2

abbrev pub decreases-chain : goal.decreases-chain
decreases-chain l = 8 * l.levels + 1

abbrev pub decreases-choice : goal.decreases-choice
decreases-choice l = 8 * l.levels + 3

abbrev pub decreases-collect_params_with_bound : goal.decreases-collect_params_with_bound
decreases-collect_params_with_bound l = 8 * l.levels

abbrev pub decreases-field : goal.decreases-field
decreases-field l = 8 * l.levels + 1

abbrev pub decreases-fields : goal.decreases-fields
decreases-fields l = 8 * l.levels + 2

abbrev pub decreases-inner : goal.decreases-inner
decreases-inner l = 8 * l.levels + 6

abbrev pub decreases-macro_call : goal.decreases-macro_call
decreases-macro_call l = 8 * l.levels + 3

abbrev pub decreases-wrap : goal.decreases-wrap
decreases-wrap l = 8 * l.levels + 1

abbrev pub invariant-arguments-loop : goal.invariant-arguments-loop
invariant-arguments-loop l =
    times (argument_at l.levels l.s) l.k l.initial.here l.initial.bound l.initial.uses ≡ times (argument_at l.levels l.s) (l.k - l.counter) l.here l.bound l.uses

abbrev pub invariant-cases-loop : goal.invariant-cases-loop
invariant-cases-loop l =
    times (case_at l.levels l.s l.kind) l.k l.initial.here l.initial.bound l.initial.uses ≡ times (case_at l.levels l.s l.kind) (l.k - l.counter) l.here l.bound l.uses

abbrev pub invariant-fields-loop : goal.invariant-fields-loop
invariant-fields-loop l =
    times (field_at l.levels l.s) l.k l.initial.here l.initial.bound l.initial.uses ≡ times (field_at l.levels l.s) (l.k - l.counter) l.here l.bound l.uses
