use mathlib.Core.Path.{◌≡◌}
use mathlib.Core.List.{List}
use Prim.Native.Nat.{◌≤◌}
use lib.ListN.{length}
use Rattle.definition.specs.Tree.{Param}
use Rattle.definition.specs.Write.{w_param, w_all}
use Rattle.definition.specs.Size.{levels_p}
use Rattle.layout.specs.items.Here.{Here}
use Rattle.expand_definitions.proofs.own_params.Own.{Binding}
use Rattle.expand_definitions.proofs.own_params.own_params.Given as goal
use Prim.Native.Nat.{ℕ}

abbrev pub invariant-loop-b : goal.invariant-loop-b
invariant-loop-b l =
    (ps : List Param) (after : List ℕ) → Here l.s l.initial.here (w_all w_param ps after) → levels_p ps ≤ 64 → l.count ≡ length ps → Binding l.s l.initial.here ps after l.binders l.b l.here
