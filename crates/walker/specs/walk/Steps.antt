-- The single steps of the walk over a combinator that record nothing, by position and total on any bytes: where it stands then.
use Rattle.std.specs.Prelude.{List, Bool, false, ℕ, min, eqb}
use Rattle.layout.specs.items.At.{text_past_of, length_past_of, stands_on_of, pick}
use Rattle.walker.specs.declared.walk.Walk.{Walk}

abbrev pub walk : ℕ → ℕ → ℕ → Bool → Walk
walk at n left plain = record { at = at; n = n; left = left; plain = plain }

-- the same walk at another place
abbrev pub moved : Walk → ℕ → Walk
moved w a = walk a w.n w.left w.plain

-- and with so many levels left there
abbrev pub entered : Walk → ℕ → ℕ → Walk
entered w a levels = walk a w.n (min w.left levels) w.plain

-- and with another count of marks: one past the end of the row records nothing
abbrev pub silent : Walk → ℕ → ℕ → Walk
silent w a n = walk a n w.left w.plain

-- the walk w behind what u went over with nothing recorded
abbrev pub back : Walk → Walk → Walk
back w u = walk u.at w.n u.left w.plain

-- "every chain there stands on Bytes or Tail"
unfoldable pub chained_to_of : Walk → ℕ → Walk
chained_to_of w tag = pick (stands_on_of tag) w (walk w.at w.n w.left false)

-- "10 Bytes: length"; the other inners that hold no combinator: text
unfoldable pub text_or_length_of : List ℕ → ℕ → ℕ → ℕ
text_or_length_of s at tag = pick (eqb tag 10) (length_past_of s at) (text_past_of s at)
