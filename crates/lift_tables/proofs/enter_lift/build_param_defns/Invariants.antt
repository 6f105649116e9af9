use mathlib.Core.Path.{◌≡◌}
use lib.ListN.{length}
use Rattle.lift_tables.specs.tables.Parts.{order_in, rows_in_of, params_in, made_in, Parts}
use Rattle.lift_tables.specs.enter_lift.Bound.{bound_from, Filled, Within}
use Rattle.lift_tables.proofs.enter_lift.build_param_defns.Given as goal

abbrev pub invariant-loop-i : goal.invariant-loop-i
invariant-loop-i l = record {
  within : Within l.i l.names l.types;
  filled : Filled l.s l.uses l.i (bound_from l.s l.binders 0 l.b) (params_in l.initial.sheet) l.first (params_in l.sheet) l.names l.types;
  parts : Parts l.sheet (order_in l.initial.sheet) (rows_in_of l.initial.sheet) (params_in l.sheet) (made_in l.initial.sheet);
  long : length l.sheet ≡ length l.initial.sheet;
}
