-- The laws of lifting by place.
use mathlib.Core.Path.{◌≡◌, refl, sym}
use mathlib.Core.List.{List, ◌++◌}
use Prim.Native.Nat.{ℕ}
use lib.ListN.{length-append, length-map}
use Rattle.definition.specs.Res.{Res, bad, ok}
use Rattle.definition.specs.Tree.{Definition}
use Rattle.definition.specs.Write.{w_book}
use Rattle.definition.specs.Size.{size_book}
use Rattle.lifting.specs.Trace.{Trace, tree_head, trace_book, result_of, traced}
use Rattle.lifting.specs.Laws.{SameAnswer, RecordsOfLifts, SumCloses, CallTakes, CountedInBytes, GoesLeftToRight, Gave, Comes, refuses, gives, ElaboratedByPlaces}
use Rattle.lifting.proofs.Agree.{sum_closed}
use Rattle.lifting.proofs.Book.{length-out_all, elaborated_by, was_traced}
use Rattle.lifting.proofs.Calls.{calls_end, calls_copy, calls_stretch, calls_call}
use Rattle.lifting.proofs.Written.{written}
use Rattle.lifting.proofs.Measured.{size-call, measured_by_bytes}

pub same_answer : SameAnswer
same_answer = elaborated_by

pub records_of_lifts : RecordsOfLifts
records_of_lifts = was_traced

pub sum_closes : SumCloses
sum_closes = sum_closed

pub call_takes : CallTakes
call_takes = size-call

pub counted_in_bytes : CountedInBytes
counted_in_bytes = measured_by_bytes

pub goes_left_to_right : GoesLeftToRight
goes_left_to_right s rs = record { at_end_of = calls_end s rs; at_byte = calls_copy s rs; at_stretch = calls_stretch s rs; at_lift = calls_call s rs }

gave : (ds : List Definition) (z : List ℕ) (t : Trace) → trace_book tree_head ds ≡ ok tt t → Gave (w_book ds ++ z) ds t (result_of ds t)
unfolding size_book
gave ds z t e =
    let k = was_traced ds t e in
    record {
      bytes = written ds z t e;
      long = sym k.bytes;
      definitions = simp (length-append, length-map, length-out_all) (sym k.defns);
      lifts = rw k.finished (simp length-map);
    }

pub elaborated_by_places : ElaboratedByPlaces
unfolding traced
elaborated_by_places ds z = rw (← (measured_by_bytes ds z), elaborated_by ds) (of (trace_book tree_head ds) refl)
  where
    of : (m : Res Trace (Unit {0})) → trace_book tree_head ds ≡ m → Comes (w_book ds ++ z) ds m (traced ds m)
    of (bad k t) e = refuses
    of (ok u t) e = gives (gave ds z t e)
