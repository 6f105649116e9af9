use Rattle.std.proofs.Common.{◌+◌, ◌*◌}
use Rattle.read_book.proofs.combinator.+combinator.Given as goal

abbrev pub decreases-arguments : goal.decreases-arguments
decreases-arguments l = 8 * l.levels + 2

abbrev pub decreases-arguments-item : goal.decreases-arguments-item
decreases-arguments-item l = 8 * l.levels + 1

abbrev pub decreases-array : goal.decreases-array
decreases-array l = 8 * l.levels + 2

abbrev pub decreases-case : goal.decreases-case
decreases-case l = 8 * l.levels + 2

abbrev pub decreases-cases : goal.decreases-cases
decreases-cases l = 8 * l.levels + 4

abbrev pub decreases-cases-item : goal.decreases-cases-item
decreases-cases-item l = 8 * l.levels + 3

abbrev pub decreases-choice : goal.decreases-choice
decreases-choice l = 8 * l.levels + 5

abbrev pub decreases-combinator : goal.decreases-combinator
decreases-combinator l = 8 * l.levels + 1

abbrev pub decreases-field : goal.decreases-field
decreases-field l = 8 * l.levels + 2

abbrev pub decreases-fields : goal.decreases-fields
decreases-fields l = 8 * l.levels + 4

abbrev pub decreases-fields-item : goal.decreases-fields-item
decreases-fields-item l = 8 * l.levels + 3

abbrev pub decreases-inner : goal.decreases-inner
decreases-inner l = 8 * l.levels

abbrev pub decreases-items : goal.decreases-items
decreases-items l = 8 * l.levels + 6

abbrev pub decreases-macro_invocation : goal.decreases-macro_invocation
decreases-macro_invocation l = 8 * l.levels + 3

abbrev pub decreases-wrap : goal.decreases-wrap
decreases-wrap l = 8 * l.levels + 2
