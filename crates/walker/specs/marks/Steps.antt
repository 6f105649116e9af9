-- The steps of the walk over a combinator that leave marks, by position and total on any bytes: where it stands then and what the row of marks holds.
use Rattle.std.specs.Prelude.{List, [], ◌∷◌, ℕ, ◌%◌}
use Rattle.layout.specs.items.At.{name_past_of, list_past_of}
use Rattle.buffer.specs.writes.Buf.{put, after}
use Rattle.walker.specs.declared.walk.Walk.{Walk}
use Rattle.walker.specs.walk.Steps.{walk}

-- a walk and its row of marks, to those after
abbrev pub State : Type 0
State = Walk × List ℕ

-- what is recorded of a call: its place and its end, as far as two bytes tell
abbrev pub pair_of : ℕ → ℕ → List ℕ
pair_of at end = at % 65536 ∷ end % 65536 ∷ []

unfoldable pub mark_at : Walk → ℕ → ℕ → List ℕ → State
mark_at w at end m = (walk end (after m w.n (pair_of at end)) w.left w.plain, put m w.n (pair_of at end))

unfoldable pub call_at : List ℕ → Walk → ℕ → List ℕ → State
call_at s w at m = mark_at w at (list_past_of s (name_past_of s w.at)) m
