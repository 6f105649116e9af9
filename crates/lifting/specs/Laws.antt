-- The laws of lifting by place, statement by statement. The proofs are in proofs/Laws.antt.
use Rattle.std.specs.Prelude.{◌≡◌, List, [], ◌∷◌, ◌++◌, map, ℕ, suc, ◌+◌, ◌-◌, ◌≤◌, ◌<◌, length, get_or}
use Rattle.definition.specs.Code.{Code}
use Rattle.definition.specs.Res.{absent, just, Res, bad, ok}
use Rattle.definition.specs.Out.{Out, refused, done}
use Rattle.definition.specs.Tree.{Name, Combinator, Param, Definition, format}
use Rattle.definition.specs.Write.{w_combinator, size_of, w_book}
use Rattle.definition.specs.Size.{size, size_book}
use Rattle.definition.specs.Lift.{lift_book_of}
use Rattle.definition.specs.Answer.{Result, all, outcome}
use Rattle.laws.proofs.Sizes.{head}
use Rattle.buffer.specs.writes.Buf.{part}
use Rattle.lifting.specs.Records.{Record, find, call}
use Rattle.lifting.specs.After.{definition_of, out_all, lifts_all, first_at, Stands, AllFound}
use Rattle.lifting.specs.Calls.{with_calls, result_bytes, byte_head, call_room}
use Rattle.lifting.specs.Trace.{Trace, tree_head, trace_book, traced}

-- The walk that makes records -------------------------------------------------------------------

-- it refuses with the code of the definition's walk, or gives the same result
abbrev pub SameAnswer : Type 0
SameAnswer = (ds : List Definition) → outcome (lift_book_of ds) ≡ traced ds (trace_book tree_head ds)

-- what the finished records are
pub record Traced (ds : List Definition) (t : Trace) : Type 0 where
  -- each lift has its record, and no record stands elsewhere
  pub found : AllFound t.records (lifts_all ds (first_at ds))
  pub only : (x : ℕ) → (Stands x (lifts_all ds (first_at ds)) → ⊥) → find t.records x ≡ absent
  -- what is found at a place begins there, and ends behind it
  pub forward : (x : ℕ) (r : Record) → find t.records x ≡ just r → (r.at ≡ x) × (x < r.end)
  -- the lifts in the order of their definitions
  pub finished : t.finished ≡ map (λ l. l.at) (lifts_all ds (first_at ds))
  -- code 10's numbers are the result's
  pub bytes : t.bytes ≡ size_book (out_all ds (first_at ds) t.records ++ map (definition_of t.records) (lifts_all ds (first_at ds)))
  pub defns : t.defns ≡ length ds + length (lifts_all ds (first_at ds))

abbrev pub RecordsOfLifts : Type 0
RecordsOfLifts = (ds : List Definition) (t : Trace) → trace_book tree_head ds ≡ ok tt t → Traced ds t

-- Code 10 -----------------------------------------------------------------------------------------

-- "6 bytes of contents, the new body and the call, less the combinator moved": it is in the new body, and cancels
abbrev pub SumCloses : Type 0
SumCloses = (n : Name) (ps : List Param) (c there : Combinator) (b : ℕ) → (b + 6 + size_of (format n ps c) + size there) - size c ≡ b + 6 + head n ps + size there

abbrev pub CallTakes : Type 0
CallTakes = (r : Record) → size (call r) ≡ call_room r

-- heads may be counted in the bytes of the expanded book, whatever follows it
abbrev pub CountedInBytes : Type 0
CountedInBytes = (ds : List Definition) (z : List ℕ) → trace_book tree_head ds ≡ trace_book (byte_head (w_book ds ++ z)) ds

-- Bytes by place -----------------------------------------------------------------------------------

-- a range with its calls, gone over from left to right
pub record LeftToRight (s : List ℕ) (rs : List Record) : Type 0 where
  pub at_end_of : (from to : ℕ) → to ≤ from → with_calls s rs from to ≡ []
  pub at_byte : (from to : ℕ) → from < to → find rs from ≡ absent → with_calls s rs from to ≡ get_or s from 0 ∷ with_calls s rs (suc from) to
  pub at_stretch : (from mid to : ℕ) → from ≤ mid → mid ≤ to → mid ≤ length s → ((x : ℕ) → from ≤ x → x < mid → find rs x ≡ absent) → with_calls s rs from to ≡ part from mid s ++ with_calls s rs mid to
  pub at_lift : (from to : ℕ) (r : Record) → from < to → find rs from ≡ just r → from < r.end → with_calls s rs from to ≡ w_combinator (call r) (with_calls s rs r.end to)

abbrev pub GoesLeftToRight : Type 0
GoesLeftToRight = (s : List ℕ) (rs : List Record) → LeftToRight s rs

-- the result of a trace of the expanded book s, whatever follows it
pub record Gave (s : List ℕ) (ds : List Definition) (t : Trace) (r : Result) : Type 0 where
  pub bytes : w_book (all r) ≡ result_bytes s ds t.records t.finished
  pub long : length (w_book (all r)) ≡ t.bytes
  pub definitions : length (all r) ≡ t.defns
  pub lifts : length r.lifted ≡ length t.finished

pub data Comes (s : List ℕ) (ds : List Definition) : Res Trace Unit → Out Result → Type 0 where
  refuses : {k : Code} {t : Trace} → Comes s ds (bad k t) (refused k)
  gives : {u : Unit} {t : Trace} {r : Result} → Gave s ds t r → Comes s ds (ok u t) (done r)

-- codes 7 to 10 and the result, all by places of the expanded book's bytes
abbrev pub ElaboratedByPlaces : Type 0
ElaboratedByPlaces = (ds : List Definition) (z : List ℕ) → Comes (w_book ds ++ z) ds (trace_book (byte_head (w_book ds ++ z)) ds) (outcome (lift_book_of ds))
