use mathlib.Core.Path.{◌≡◌, sym, ◌∙◌}
use Prim.Native.Nat.{◌+◌, ◌-◌}
use native.Mathlib.Omega.{arith}
use Rattle.layout.proofs.items.Laws.{more, done}
use Rattle.layout.proofs.items.names_past.Goals as goal

pub loop-preserved : goal.loop-preserved
loop-preserved c =
    let l = c.loop in
    let e : c.args.count - l.counter - 1 ≡ c.args.count - (l.counter + 1) = omega arith in
    l.invariant ∙ more _ _ _ (omega arith) ∙ rw (e, c.name_past-here.ensures)

pub returns : goal.returns
returns c = sym (c.loop.invariant ∙ done _ _ _ (omega arith))
