-- What the walk that collects does with a name, by position and total on any bytes: what it answers and what its table holds then. It mirrors the code.
-- Assumes nothing.
use Rattle.std.specs.Prelude.{List, [], ◌∷◌, Bool, true, false, ℕ, zero, suc, eqb}
use Rattle.layout.specs.items.At.{byte_at, past_at, number_at, name_past_of, text_past_of, pick}
use Rattle.buffer.specs.writes.Buf.{put, after}
use Rattle.collect_params.specs.labels.Labels.{is_label_of}
use Rattle.collect_params.specs.uses.Uses.{name_in, use_at_of}
use Rattle.collect_params.specs.declared.scope.Walk.{Walk}
use Rattle.collect_params.specs.scope.Steps.{moved, counted}

-- whether a use means one of so many labels
unfoldable pub is_bound_of : List ℕ → ℕ → List ℕ → ℕ → Bool
is_bound_of s x bound b = is_label_of s (name_in s x) bound b

-- a walk and its table of uses, to those after
abbrev pub Use : Type 0
Use = Walk → List ℕ → Walk × List ℕ

-- a step, so often
unfoldable pub times_use : Use → ℕ → Use
times_use step zero w uses = (w, uses)
times_use step (suc k) w uses = let g = step w uses in times_use step k g.0 g.1

-- a name, used unless it is bound
unfoldable pub name_by : List ℕ → Bool → List ℕ → Use
name_by s cut bound w uses =
    let x = use_at_of s w.at cut in
    let e = name_past_of s w.at in
    pick (is_bound_of s x bound w.b) (moved w e, uses) (counted w e (after uses w.n (x ∷ [])), put uses w.n (x ∷ []))

unfoldable pub names_by : List ℕ → Bool → List ℕ → Use
names_by s cut bound w uses = times_use (name_by s cut bound) (number_at s w.at) (moved w (past_at s w.at 2)) uses

-- a length, and the arguments of a call whose name stands at the walk's place, and a selector
unfoldable pub length_by : List ℕ → List ℕ → Use
length_by s bound w uses =
    let g = names_by s false bound w uses in
    (moved g.0 (text_past_of s g.0.at), g.1)

unfoldable pub call_by : List ℕ → List ℕ → Use
call_by s bound w uses = names_by s true bound (moved w (name_past_of s w.at)) uses

unfoldable pub selector_by : List ℕ → List ℕ → Use
selector_by s bound w uses =
    let v = moved w (past_at s w.at 1) in
    pick (eqb (byte_at s w.at) 1) (name_by s true bound v uses) (v, uses)
