use Prim.Native.Nat.{◌+◌, ◌-◌, ◌*◌}
use mathlib.Core.Path.{◌≡◌}
use lib.ListN.{length}
use Rattle.walker.specs.calls.Walk.{times, argument_at, field_at, case_at}
use Rattle.walker.proofs.calls.+calls.Given as goal

abbrev pub decreases-argument : goal.decreases-argument
decreases-argument l = 8 * l.levels + 1

abbrev pub decreases-arguments : goal.decreases-arguments
decreases-arguments l = 8 * l.levels + 2

abbrev pub decreases-array : goal.decreases-array
decreases-array l = 8 * l.levels + 1

abbrev pub decreases-case : goal.decreases-case
decreases-case l = 8 * l.levels + 1

abbrev pub decreases-cases : goal.decreases-cases
decreases-cases l = 8 * l.levels + 2

abbrev pub decreases-choice : goal.decreases-choice
decreases-choice l = 8 * l.levels + 3

abbrev pub decreases-combinator : goal.decreases-combinator
decreases-combinator l = 8 * l.levels

abbrev pub decreases-field : goal.decreases-field
decreases-field l = 8 * l.levels + 1

abbrev pub decreases-fields : goal.decreases-fields
decreases-fields l = 8 * l.levels + 2

abbrev pub decreases-inner : goal.decreases-inner
decreases-inner l = 8 * l.levels + 6

abbrev pub decreases-macro_call : goal.decreases-macro_call
decreases-macro_call l = 8 * l.levels + 3

abbrev pub decreases-wrap : goal.decreases-wrap
decreases-wrap l = 8 * l.levels + 1

abbrev pub invariant-arguments-loop : goal.invariant-arguments-loop
invariant-arguments-loop l = (length l.marks ≡ length l.initial.marks) × (times (argument_at l.levels l.s) (l.k - l.initial.counter) l.initial.here l.initial.marks ≡ times (argument_at l.levels l.s) (l.k - l.counter) l.here l.marks)

abbrev pub invariant-cases-loop : goal.invariant-cases-loop
invariant-cases-loop l = (length l.marks ≡ length l.initial.marks) × (times (case_at l.levels l.s l.kind) (l.k - l.initial.counter) l.initial.here l.initial.marks ≡ times (case_at l.levels l.s l.kind) (l.k - l.counter) l.here l.marks)

abbrev pub invariant-fields-loop : goal.invariant-fields-loop
invariant-fields-loop l = (length l.marks ≡ length l.initial.marks) × (times (field_at l.levels l.s) (l.k - l.initial.counter) l.initial.here l.initial.marks ≡ times (field_at l.levels l.s) (l.k - l.counter) l.here l.marks)
