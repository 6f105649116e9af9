use Rattle.std.proofs.Common.{◌≡◌, ◌-◌}
use Rattle.lift_book.specs.flat.Past.{times, field_past_of, fields_past_of}
use Rattle.lift_book.proofs.flat.fields_past.Given as goal

abbrev pub invariant-loop : goal.invariant-loop
invariant-loop l = fields_past_of l.s l.at ≡ times (field_past_of l.s) (l.end - l.counter) l.here
