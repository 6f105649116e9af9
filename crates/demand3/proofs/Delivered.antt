-- Demand 3 about the bytes that are written, and about the premise test's answer.
use mathlib.Core.Path.{◌≡◌, refl}
use mathlib.Core.List.{List, [], ◌++◌}
use mathlib.Core.Bool.{Bool, true, false, ◌&&◌}
use Prim.Native.Nat.{ℕ, ◌-◌, ◌≤◌}
use native.Mathlib.Omega.{arith}
use lib.Dec.{leb}
use lib.ListN.{length, drop, length-append}
use lib.Seq.{take-append_seam, drop-append_seam}
use borrow.Author.Tests.{leb-true, le-leb}
use Rattle.definition.specs.Res.{ok}
use Rattle.definition.specs.Code.{work_short}
use Rattle.definition.specs.Out.{Out, refused, done, given}
use Rattle.definition.specs.Tree.{Definition}
use Rattle.definition.specs.Contents.{read_book_of}
use Rattle.definition.specs.Write.{w_book}
use Rattle.definition.specs.Answer.{expanded, Result, all, answered, fault_at, attempt, answer, output}
use Rattle.definition.specs.Premise.{calls_known, chains_plain, tested, told, premise}
use Rattle.laws.specs.Laws.{AcceptedBy}
use Rattle.laws.proofs.Tests.{both_true}
use Rattle.laws.proofs.Steps.{yielded, did_out, did_given}
use Rattle.laws.proofs.Results.{attempt_yields, result_is_book}
use Rattle.demand3.specs.Delivered.{DeliveredFrom, AcceptedIsDelivered, Premises, YesIsPremises}
use Rattle.demand3.proofs.Agree.{calls_known_lem, known_calls, chains_plain_lem, plain_chains}
use Rattle.demand3.proofs.Demand3.{Comes, comes}

-- the lifted ones are the last
module _ (expansion : Out (List Definition)) (r : Result) (c : Comes expansion r) (out : List ℕ) where
  abbrev bytes_of : List ℕ
  bytes_of = w_book (all r)

  written : (p : ℕ) → read_book_of bytes_of ≡ ok (all r) [] → DeliveredFrom expansion (answered p (done r)) (bytes_of ++ drop (length bytes_of) out)
  unfolding answered
  written p e =
      let n : length (all r) - length r.lifted ≡ length r.kept = simp length-append (omega arith) in
      record {
        list = c.list;
        expands = c.expands;
        result = all r;
        reads = rw (take-append_seam bytes_of (drop (length bytes_of) out)) e;
        counted = omega arith;
        lifts = simp length-append (omega arith);
        meets = rw (n, take-append_seam r.kept r.lifted, drop-append_seam r.kept r.lifted) c.meets;
      }

-- whichever way the list was expanded: what is accepted, and comes from the expansion, is delivered
pub delivered : (p : ℕ) (expansion : Out (List Definition)) (m : Out Result) (out after : List ℕ) (k : AcceptedBy m out after) → Comes expansion k.result → DeliveredFrom expansion (answered p m) after
delivered p expansion m out after k c = rw (k.fills, k.attempted) (written expansion k.result c out p k.reads)

pub accepted_is_delivered : AcceptedIsDelivered
unfolding answer
accepted_is_delivered book out w b a after e f z =
    let k = result_is_book book out w b (rw e at z) in
    rw (e, f) (delivered (fault_at book w) (expanded book) (attempt book (length out) w) out (output book out w) k (yielded (attempt_yields (Comes (expanded book)) book (comes book b) (length out) w) k.attempted).0)

-- the premise test
told_yes : (p : ℕ) (m : Out Bool) → (told p m).holds ≡ 1 → m ≡ done true
unfolding told
told_yes p (refused k) h = absurd (omega arith)
told_yes p (done true) h = refl
told_yes p (done false) h = absurd (omega arith)

yes_premises : (book : List ℕ) (w : ℕ) → tested book w ≡ done true → (65536 ≤ w) × Premises book
unfolding tested
yes_premises book w e = did_out (given (leb 65536 w) work_short book) _ true e λ b g e₁. did_out (expanded b) _ true e₁ λ ds x e₂.
    let p = did_given (leb 65536 w) work_short book b g in
    let q : calls_known ds && chains_plain ds ≡ true = cc in
    let r = both_true (calls_known ds) (chains_plain ds) q in
    (leb-true 65536 w p.0, record { list = ds; expands = rw p.1 x; calls = known_calls ds r.0; chains = plain_chains ds r.1 })

premises_yes : (book : List ℕ) (w : ℕ) → 65536 ≤ w → Premises book → tested book w ≡ done true
unfolding tested
premises_yes book w h p = rw (le-leb 65536 w h, p.expands, calls_known_lem p.list p.calls, chains_plain_lem p.list p.chains)

pub yes_is_premises : YesIsPremises
unfolding premise told
yes_is_premises book w = (
  (λ h. yes_premises book w (told_yes (fault_at book w) (tested book w) h.1)),
  (λ h. rw (premises_yes book w h.0 h.1) (refl, refl)),
)
