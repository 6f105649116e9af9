use Rattle.std.proofs.Common.{◌≡◌, ◌-◌}
use Rattle.lift_book.specs.flat.Past.{times, case_past, choice_past_of}
use Rattle.lift_book.proofs.flat.choice_past.Given as goal

abbrev pub invariant-loop : goal.invariant-loop
invariant-loop l = choice_past_of l.s l.at ≡ times (case_past l.s l.kind) (l.end - l.counter) l.here
