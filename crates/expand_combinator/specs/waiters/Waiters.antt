-- The frames that wait.
use Rattle.std.specs.Prelude.{false, List, ℕ, ◌-◌, get_or}
use Rattle.lift_combinator.specs.declared.frames.Frame.{Frame}
use Rattle.lift_combinator.specs.declared.frames.Kind.TheVariants.{Nothing}

abbrev pub no_frame : Frame ℕ
no_frame = record { place = 0; last = 0; here = 0; end = 0; left = 0; kind = Nothing; child = 0; len = 0; bound = 0; done = 0; chained = false; link = 0; own = 0; call = 0 }

-- the one that waits for the top
abbrev pub waiter : List (Frame ℕ) → ℕ → Frame ℕ
waiter frames d = get_or frames (d - 1) no_frame
