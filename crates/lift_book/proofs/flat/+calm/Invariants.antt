use Prim.Native.Nat.{◌+◌, ◌*◌}
use Rattle.lift_book.proofs.flat.+calm.Given as goal

abbrev pub decreases-calm_past : goal.decreases-calm_past
decreases-calm_past l = 8 * l.levels

abbrev pub decreases-inner_past : goal.decreases-inner_past
decreases-inner_past l = 8 * l.levels + 2

abbrev pub decreases-tail_past : goal.decreases-tail_past
decreases-tail_past l = 8 * l.levels + 1

abbrev pub decreases-wrap_past : goal.decreases-wrap_past
decreases-wrap_past l = 8 * l.levels + 1
