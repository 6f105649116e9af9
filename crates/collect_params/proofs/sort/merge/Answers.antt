use mathlib.Core.Path.{ap, sym, ◌∙◌}
use native.Mathlib.Omega.{arith}
use Rattle.collect_params.proofs.sort.Merging.{merging_all, merging_done, left_there, right_there, merge_left, merge_right}
use Rattle.collect_params.proofs.sort.merge.Goals as goal
use Rattle.collect_params.proofs.sort.merge.Goals.{then-takes_left, else-takes_left}

pub loop-slot-init : goal.loop-slot-init
loop-slot-init c = merging_all _ _ _ _ c.requires

pub bounds-l-0 : goal.bounds-l-0
bounds-l-0 c = let g = left_there c.loop-slot.invariant c.loop-slot-test.true (sym c.if-takes_left.true ∙ c.takes_left.ensures) in omega arith

pub slice_bounds-l-count : goal.slice_bounds-l-count
slice_bounds-l-count c = let g = left_there c.loop-slot.invariant c.loop-slot-test.true (sym c.if-takes_left.true ∙ c.takes_left.ensures) in omega arith

pub slice_bounds-l-start : goal.slice_bounds-l-start
slice_bounds-l-start c = let g = left_there c.loop-slot.invariant c.loop-slot-test.true (sym c.if-takes_left.true ∙ c.takes_left.ensures) in omega arith

pub bounds-r-0 : goal.bounds-r-0
bounds-r-0 c = let g = right_there c.loop-slot.invariant c.loop-slot-test.true (sym c.if-takes_left.false ∙ c.takes_left.ensures) in omega arith

pub slice_bounds-r-count : goal.slice_bounds-r-count
slice_bounds-r-count c = let g = right_there c.loop-slot.invariant c.loop-slot-test.true (sym c.if-takes_left.false ∙ c.takes_left.ensures) in omega arith

pub slice_bounds-r-start : goal.slice_bounds-r-start
slice_bounds-r-start c = let g = right_there c.loop-slot.invariant c.loop-slot-test.true (sym c.if-takes_left.false ∙ c.takes_left.ensures) in omega arith

pub loop-slot-preserved : goal.loop-slot-preserved
loop-slot-preserved c =
    elim c.if-takes_left.branch [
      | then-takes_left w ↦ rw (w.dst-is, ap (λ b. b.now) w.r-is) (merge_left c.loop-slot.invariant c.loop-slot-test.true (sym w.if-takes_left.true ∙ c.takes_left.ensures) (ap (λ b. b.now) w.l-is))
      | else-takes_left w ↦ rw (w.dst-is, ap (λ b. b.now) w.l-is) (merge_right c.loop-slot.invariant c.loop-slot-test.true (sym w.if-takes_left.false ∙ c.takes_left.ensures) (ap (λ b. b.now) w.r-is))
    ]

pub returns : goal.returns
returns c = merging_done c.loop-slot.invariant c.requires c.loop-slot-test.false
