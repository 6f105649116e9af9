-- Codes 7 to 11 and the result, from what the naming pass leaves in the tables.
-- Assumes nothing.
use mathlib.Core.Path.{◌≡◌, refl, sym, ap, ◌∙◌}
use mathlib.Core.Logic.{inl, inr}
use mathlib.Core.List.{List, [], ◌∷◌, ◌++◌, map, append-nil}
use Prim.Native.Nat.{ℕ, zero, suc, ◌≤◌, ◌<◌}
use native.Mathlib.Omega.{arith}
use lib.Dec.{leb}
use lib.ListN.{length, take, get_or}
use lib.Seq.{get_or-take, length-take-le}
use borrow.Author.Tests.{le-leb, lt-leb}
use Rattle.definition.specs.Code.{Code, output_short}
use Rattle.definition.specs.Res.{Res, ok}
use Rattle.definition.specs.Out.{Out, refused, done, ◌>>=◌, given}
use Rattle.definition.specs.Tree.{Definition}
use Rattle.definition.specs.Write.{w_book}
use Rattle.definition.specs.Size.{size_book}
use Rattle.definition.specs.Lift.{lift_book_of}
use Rattle.definition.specs.Answer.{Result, all, outcome, filled}
use Rattle.laws.specs.Book.{IsBook}
use Rattle.laws.proofs.Sizes.{size_bodies, size_book_lem}
use Rattle.lifting.specs.After.{Lift, lifts_all, first_at, Stands}
use Rattle.lifting.specs.Laws.{Gave, Comes, refuses, gives}
use Rattle.lifting.specs.Trace.{Trace, tree_head, trace_book}
use Rattle.lifting.proofs.Book.{in-rangeAll}
use Rattle.lifting.proofs.Both.{Both, refusals, values}
use Rattle.lifting.proofs.Laws.{records_of_lifts, counted_in_bytes, elaborated_by_places}
use Rattle.lift_tables.specs.tables.Rows.{Row, last_from}
use Rattle.lift_tables.specs.tables.Parts.{order_in, rows_in_of, params_in, made_in}
use Rattle.lift_tables.proofs.tables.Parts.{part_lengths}
use Rattle.lift_tables.specs.declared.enter_lift.Counts.{Counts}
use Rattle.lift_tables.specs.enter_lift.Sheet.{Sheet, sheet_of}
use Rattle.expand_definitions.specs.walked.Hands.{Hands}
use Rattle.expand_definitions.proofs.walked.Agree.{walks_as_traced}
use Rattle.expand_combinator.specs.declared.body.Named.{Named}
use Rattle.expand_combinator.specs.open_child.Good.{Good}
use Rattle.expand_combinator.specs.body.Walks.{Ends}
use Rattle.expand_definitions.specs.naming_pass.Expands.{Starts, Expands}
use Rattle.write_result.specs.result.Model.{tables}
use Rattle.write_result.specs.result.Held.{Held, Writes}
use Rattle.write_result.proofs.result.Numbered.{numbered_by}
use Rattle.std.specs.Prelude.{Ok, Err}
use Rattle.what_comes_back.specs.declared.Code.{Code as CodeOf}
use Rattle.what_comes_back.specs.declared.Code.TheVariants.{OutputShort}
use Rattle.what_comes_back.specs.Codes.{code_of}
use Rattle.what_comes_back.specs.Elaborates.{elaborated_as, Reports, lifted, Expanded, Lifts}
use Rattle.lift_book.specs.lift_with.Lent.{Lent}

pub starts : (sheet : List ℕ) {s ends number binders bound uses spare : List ℕ} → Expanded s → Lent s ends number binders bound uses spare → 40552 ≤ length sheet → Starts s (made_in sheet) (rows_in_of sheet) (params_in sheet) number (order_in sheet)
starts sheet x u a =
    let l = part_lengths sheet (omega arith) in
    record {
      book = x;
      made_long = omega (arith, l.3);
      rows_long = omega (arith, l.1);
      params_long = omega (arith, l.2);
      number_long = u.long;
      order_long = omega (arith, l.0);
      blank = u.blank;
    }

comes : (ds : List Definition) → Comes (w_book ds ++ []) ds (trace_book tree_head ds) (outcome (lift_book_of ds))
comes ds = rw (counted_in_bytes ds []) (elaborated_by_places ds [])

-- The same refusal, or what both passes hand over -------------------------------------------------

record Refused (m : Out Result) (c : CodeOf) : Type 0 where
  pub code : Code
  pub is : m ≡ refused code
  pub told : c ≡ code_of code

record Handed (s : List ℕ) (ds : List Definition) (b : Res Trace Unit) (m : Out Result) (u : Sheet) (G : Type 0) : Type 0 where
  pub trace : Trace
  pub traced : b ≡ ok tt trace
  pub result : Result
  pub is : m ≡ done result
  pub gave : Gave s ds trace result
  pub hands : Hands u trace
  pub good : G

module _ {s : List ℕ} {ds : List Definition} (sheet : Counts → ℕ → Sheet) (good : Counts → ℕ → Type 0) where
  refusal : {a : Res Sheet Unit} {b : Res Trace Unit} {m : Out Result} {c : CodeOf} → Both (λ x u y t. Hands u t) a b → Comes s ds b m → Ends a (Err c) sheet good → Refused m c
  unfolding Ends
  refusal refusals refuses e = record { code = _; is = refl; told = e }
  refusal (values h) (gives g) e = absurd e

  handed : {a : Res Sheet Unit} {b : Res Trace Unit} {m : Out Result} (v : Named) → Both (λ x u y t. Hands u t) a b → Comes s ds b m → Ends a (Ok v) sheet good
      → Handed s ds b m (sheet v.counts v.finished) (good v.counts v.finished)
  unfolding Ends
  handed v refusals refuses e = absurd e
  handed v (values h) (gives g) e = record { trace = _; traced = refl; result = _; is = refl; gave = g; hands = rw (← e.0) h; good = e.1 }

-- Where the lifts stand ---------------------------------------------------------------------------

stands_at : (ls : List Lift) (i : ℕ) → i < length (map (λ l. l.at) ls) → Stands (get_or (map (λ l. l.at) ls) i 0) ls
stands_at [] i h = absurd (omega arith)
stands_at (l ∷ ls) zero h = inl refl
stands_at (l ∷ ls) (suc i) h = inr (stands_at ls i (omega arith))

in-book : (ds : List Definition) (t : Trace) → trace_book tree_head ds ≡ ok tt t → (i : ℕ) → i < length t.finished → get_or t.finished i 0 < length (w_book ds)
unfolding size_book
in-book ds t e i h =
    let f = (records_of_lifts ds t e).finished in
    rw f (omega (arith, ((in-rangeAll ds (first_at ds)).range _ (stands_at (lifts_all ds (first_at ds)) i (rw (← f) h))).1, size_bodies ds, size_book_lem ds))

-- The answer --------------------------------------------------------------------------------------

module _ {m : Out Result} {out : List ℕ} where
  -- codes 7 to 10
  reports_refusal : {c : CodeOf} → Refused m c → Reports 0 (m >>= λ r. given (leb (length (w_book (all r))) (length out)) output_short r) out out (Err (record { code = c; at = 0 }))
  unfolding elaborated_as filled
  reports_refusal f = record { answers = rw (f.is, f.told); fills = rw f.is }

module _ {s made rows params number order : List ℕ} where
  pub lifts_refused : {out : List ℕ} {c : CodeOf} → Expands s made rows params number order (Err c) → Lifts s out out (Err (record { code = c; at = 0 }))
  unfolding lifted
  lifts_refused x = record { lifts = λ ds w b q. reports_refusal (refusal _ _ (walks_as_traced ds) (comes ds) (x.expands ds w b)) }

  module _ {r : Named} (x : Expands s made rows params number order (Ok r)) where
    abbrev v : Counts
    v = r.counts

    abbrev n : ℕ
    n = r.finished

    abbrev Given : List Definition → Type 0
    Given ds = Handed (w_book ds ++ []) ds (trace_book tree_head ds) (outcome (lift_book_of ds)) (sheet_of s made x.places rows params (take n order) v) (Good s made x.places x.ways x.hints rows params number order v n)

    given_by : (ds : List Definition) → s ≡ w_book ds → IsBook ds → Given ds
    given_by ds w b = handed _ _ r (walks_as_traced ds) (comes ds) (x.expands ds w b)

    module _ (ds : List Definition) (w : s ≡ w_book ds) (h : Given ds) where
      few : n ≤ 512
      few = omega (arith, h.good.finished, h.good.tables.few.0, h.good.tables.defns_most)

      counted : length (take n order) ≡ n
      counted = length-take-le n order (omega (arith, few, h.good.order_long))

      finished_count : n ≡ length h.trace.finished
      unfolding sheet_of
      finished_count = sym counted ∙ h.hands.count

      ordered : (i : ℕ) → i < n → suc (get_or order i 0) ≡ get_or number (get_or h.trace.finished i 0) 0
      unfolding sheet_of
      ordered i l =
          let k : i < length h.trace.finished = omega (arith, finished_count) in
          let p : get_or h.trace.finished i 0 < length s = rw w (in-book ds h.trace h.traced i k) in
          ap suc (sym (get_or-take n order i 0 l)) ∙ (h.hands.ordered i k ∙ sym (h.good.numbered _ p))

      held : Held (tables s made rows params number) order n ds [] h.trace
      unfolding sheet_of
      held = record {
        book = w ∙ sym (append-nil (w_book ds));
        short = omega (arith, h.good.tables.source);
        numbered = numbered_by (tables s made rows params number) h.trace.records v.lifts h.hands.rows (λ p l. h.good.numbered p l ∙ ap (λ (rs : List Row). last_from rs 0 p) h.hands.rows);
        count = finished_count;
        ordered = ordered;
      }

      bytes : length (w_book (all h.result)) ≡ v.bytes
      unfolding sheet_of
      bytes = h.gave.long ∙ sym h.hands.bytes

      defns : length (all h.result) ≡ v.defns
      unfolding sheet_of
      defns = h.gave.definitions ∙ sym h.hands.defns

      lifts_count : length h.result.lifted ≡ n
      lifts_count = h.gave.lifts ∙ sym finished_count

      -- code 11
      short_out : {out : List ℕ} → length out < v.bytes → Reports 0 (lifted ds (length out)) out out (Err (record { code = OutputShort; at = 0 }))
      unfolding lifted elaborated_as filled
      short_out {out} l =
          let e : length out < length (w_book (all h.result)) = rw bytes l in
          record { answers = rw (h.is, lt-leb _ _ e); fills = rw (h.is, lt-leb _ _ e) }

      written : {out out' : List ℕ} {k : ℕ} → v.bytes ≤ length out → IsBook (all h.result) → Writes (tables s made rows params number) order n out out' k
          → Reports 0 (lifted ds (length out)) out out' (Ok (record { length = v.bytes; definitions = v.defns; lifted = n }))
      unfolding lifted elaborated_as filled
      written {out} l b f =
          let e : length (w_book (all h.result)) ≤ length out = rw bytes l in
          record {
            answers = rw (h.is, le-leb _ _ e, bytes, defns, lifts_count);
            fills = rw (h.is, le-leb _ _ e) ((f ds [] h.trace h.result h.traced h.is b held).holds e);
          }

    pub lifts_short : {out : List ℕ} → length out < v.bytes → Lifts s out out (Err (record { code = OutputShort; at = 0 }))
    lifts_short l = record { lifts = λ ds w b q. short_out ds w (given_by ds w b) l }

    pub lifts_written : {out out' : List ℕ} {k : ℕ} → v.bytes ≤ length out → Writes (tables s made rows params number) order n out out' k → Lifts s out out' (Ok (record { length = v.bytes; definitions = v.defns; lifted = n }))
    lifts_written l f = record { lifts = λ ds w b q. let h = given_by ds w b in written ds w h l (q h.result h.is) f }

    -- each number fits in 16 bits
    pub record Small : Type 0 where
      pub bytes : v.bytes ≤ 16384
      pub defns : v.defns ≤ 512
      pub lifts : n ≤ 512

    pub small : Expanded s → Small
    small e = let h = given_by e.of e.book e.is_book in record { bytes = h.good.tables.bytes_most; defns = h.good.tables.defns_most; lifts = few e.of e.book h }
