-- The steps of the walk that collects names: where it stands, and which labels are in force there.
-- Assumes nothing.
use Rattle.std.specs.Prelude.{List, Bool, ℕ}
use Rattle.collect_params.specs.labels.Labels.{bind_at}
use Rattle.collect_params.specs.declared.scope.Walk.{Walk}

abbrev pub walk : ℕ → ℕ → ℕ → Bool → Walk
walk at n b leftover = record { at = at; n = n; b = b; leftover = leftover }

-- at another place
abbrev pub moved : Walk → ℕ → Walk
moved w a = walk a w.n w.b w.leftover

-- at another place, with another count of uses
abbrev pub counted : Walk → ℕ → ℕ → Walk
counted w a n = walk a n w.b w.leftover

-- with the labels that were bound before
abbrev pub unbound : Walk → Walk → Walk
unbound w u = walk u.at u.n w.b u.leftover

-- the label at a place is bound
unfoldable pub bind_by : List ℕ → ℕ → Walk → List ℕ → Walk × List ℕ
bind_by s at w bound =
    let g = bind_at s at bound w.b in
    (walk w.at w.n g.0 w.leftover, g.1)
