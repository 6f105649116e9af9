-- From the bytes of a book to the result: what is read, expanded and lifted a book can hold.
use mathlib.Core.Path.{◌≡◌, refl, ap, ◌∙◌}
use mathlib.Core.List.{List, ◌++◌}
use mathlib.Core.Bool.{Bool, true, false}
use Prim.Native.Nat.{ℕ, ◌≤◌}
use native.Mathlib.Omega.{arith}
use lib.Dec.{leb}
use lib.ListN.{length}
use borrow.Author.Tests.{leb-true}
use Rattle.definition.specs.Code.{Code, number, work_short, book_long, not_a_book, bad_name, too_deep_of, macro_growth, leftover_macro, no_binder, name_long, result_long, output_short, macro_left}
use Rattle.definition.specs.Res.{Res, bad, ok}
use Rattle.definition.specs.Out.{Out, refused, done}
use Rattle.definition.specs.Tree.{Definition}
use Rattle.definition.specs.Contents.{book, read_book_of}
use Rattle.definition.specs.Write.{w_book}
use Rattle.definition.specs.Size.{size_book}
use Rattle.definition.specs.Macros.{expand_list, expand_book}
use Rattle.definition.specs.Lift.{full, State, walk_all, start, lift_book_of}
use Rattle.definition.specs.Answer.{out, source, expanded, Result, outcome, elaborated, all, attempt, answered, place, where_read, fault_of, fault_at, answer, filled, output}
use Rattle.laws.specs.Book.{Bytes, IsBook}
use Rattle.laws.specs.Lists.{NoMacro}
use Rattle.laws.specs.Laws.{ExpandedIsBook, WrittenIsRead, ReadIsWritten, AcceptedBy, ResultIsBook}
use Rattle.laws.proofs.Steps.{Gives, refusal, value, so, gave, Yields, stops, yields, next, where-true, yielded, of_result, of_value}
use Rattle.laws.proofs.BookInverse.{i_book}
use Rattle.laws.proofs.BookRoundTrip.{r_book}
use Rattle.laws.proofs.Small.{book_small}
use Rattle.laws.proofs.Measure.{within_limits}
use Rattle.laws.proofs.WalkGood.{result_fine}
use Rattle.laws.proofs.ExpandGood.{expand_good}

-- the definition computes with long lists of what unfolds; what it says is short
read_says : (s : List ℕ) → read_book_of s ≡ book 6 s
unfolding read_book_of
read_says s = refl

pub expand_says : (ds : List Definition) → expand_book ds ≡ expand_list ds
unfolding expand_book
expand_says ds = refl

pub lift_says : (ds : List Definition) → lift_book_of ds ≡ walk_all full ds (start ds)
unfolding lift_book_of
lift_says ds = refl

pub written_is_read : WrittenIsRead
written_is_read ds b = (book_small ds b, read_says (w_book ds) ∙ r_book ds b)

reads : (s : List ℕ) → Bytes s → length s ≤ 16384 → Gives (λ ds r. (s ≡ w_book ds) × IsBook ds) (read_book_of s)
unfolding size_book
reads s h l = rw (read_says s) (so (i_book s h) λ ds r w. (w.same, record { good = w.good; deep = w.deep; few = w.few; short = omega (arith, ap length w.same) }))

pub read_is_written : ReadIsWritten
read_is_written s h l ds r e = gave (reads s h l) e

-- from the bytes of a book to the result
out_yields : {S A : Type 0} {P : A → Type 0} {m : Res S A} → Gives (λ a s. P a) m → Yields P (out m)
unfolding out
out_yields refusal = stops
out_yields (value p) = yields p

pub source_book : (s : List ℕ) → Bytes s → Yields IsBook (source s)
unfolding source
source_book s h = next {P = λ b. Bytes b × (length b ≤ 16384)} (where-true (leb (length s) 16384) _ s (λ t. (h, leb-true (length s) 16384 t))) _ λ b w. out_yields (so (reads b w.0 w.1) λ ds r v. v.1)

pub expanded_book : (s : List ℕ) → Bytes s → Yields (λ ds. IsBook ds × NoMacro ds) (expanded s)
unfolding expanded
expanded_book s h = next (source_book s h) _ λ ds b. rw (expand_says ds) (expand_good ds b.good b.few)

pub expanded_is_book : ExpandedIsBook
expanded_is_book s h ds e = yielded (expanded_book s h) e

-- what holds of every walk of a list holds of every result that comes of it
outcome_yields : (P : Result → Type 0) {m : Res State (List Definition)} → Gives (λ es t. P (record { kept = es; lifted = t.made })) m → Yields P (outcome m)
unfolding outcome
outcome_yields P refusal = stops
outcome_yields P (value p) = yields p

pub lifted_yields : (P : Result → Type 0) (ds : List Definition) → Gives (λ es t. P (record { kept = es; lifted = t.made })) (walk_all full ds (start ds)) → Yields P (outcome (lift_book_of ds))
lifted_yields P ds w = rw (lift_says ds) (outcome_yields P w)

pub elaborated_yields : (P : Result → Type 0) (s : List ℕ) → ((ds : List Definition) → expanded s ≡ done ds → Gives (λ es t. P (record { kept = es; lifted = t.made })) (walk_all full ds (start ds))) → Yields P (elaborated s)
unfolding elaborated
elaborated_yields P s h = next (of_result (expanded s) λ ds e. h ds e) _ λ ds w. lifted_yields P ds w

pub attempt_yields : (P : Result → Type 0) (s : List ℕ) → Yields P (elaborated s) → (o w : ℕ) → Yields (λ r. P r × (length (w_book (all r)) ≤ o)) (attempt s o w)
unfolding attempt
attempt_yields P s h o w = next {P = λ b. Yields P (elaborated b)} (where-true (leb 65536 w) _ s (λ t. h)) _ λ b g. next g _ λ r k. where-true (leb (length (w_book (all r))) o) _ r λ t. (k, leb-true _ o t)

pub lifted_book : (ds : List Definition) → IsBook ds → Gives (λ es t. IsBook (es ++ t.made)) (walk_all full ds (start ds))
lifted_book ds b = of_value (walk_all full ds (start ds)) λ es t e.
    let f = gave (result_fine full ds (record { good = b.good; deep = b.deep })) e in
    let w = within_limits ds es t e b.short b.few in
    record { good = f.good; deep = f.deep; few = w.1; short = w.0 }

pub elaborated_book : (s : List ℕ) → Bytes s → Yields (λ r. IsBook (all r)) (elaborated s)
elaborated_book s h = elaborated_yields (λ r. IsBook (all r)) s λ ds e. lifted_book ds (yielded (expanded_book s h) e).0

-- no code of the table is 0
positive : {X : Type 0} (k : Code) → number k ≡ 0 → X
unfolding number
positive work_short e = absurd (omega arith)
positive book_long e = absurd (omega arith)
positive not_a_book e = absurd (omega arith)
positive bad_name e = absurd (omega arith)
positive too_deep_of e = absurd (omega arith)
positive macro_growth e = absurd (omega arith)
positive leftover_macro e = absurd (omega arith)
positive no_binder e = absurd (omega arith)
positive name_long e = absurd (omega arith)
positive result_long e = absurd (omega arith)
positive output_short e = absurd (omega arith)
positive macro_left e = absurd (omega arith)

-- code 0: there is a result
pub code-done : {X : Type 0} (p : ℕ) (m : Out Result) → (answered p m).code ≡ 0 → ((r : Result) → m ≡ done r → X) → X
unfolding answered
code-done p (refused k) e go = positive k e
code-done p (done r) e go = go r refl

-- where all results of an attempt are books that fit, one with code 0 is accepted
pub accepted_by : (p : ℕ) (m : Out Result) (o : List ℕ) → Yields (λ r. IsBook (all r) × (length (w_book (all r)) ≤ length o)) m → (answered p m).code ≡ 0 → AcceptedBy m o (filled m o)
unfolding filled
accepted_by p m o y e = code-done p m e λ r g.
    let k = yielded y g in
    let z = written_is_read (all r) k.0 in
    record { result = r; attempted = g; is_book = k.0; small = z.0; reads = z.1; fits = k.1; fills = rw g }

pub result_is_book : ResultIsBook
unfolding answer output
result_is_book s o w h e = accepted_by (fault_at s w) (attempt s (length o) w) o (attempt_yields (λ r. IsBook (all r)) s (elaborated_book s h) (length o) w) e

-- the item at fault stands in the book, or at its end
pub fault_inside : (s : List ℕ) → fault_of s ≤ 16384
unfolding fault_of place
fault_inside s = of (leb (length s) 16384) refl (read_book_of s)
  where
    of : (t : Bool) → leb (length s) 16384 ≡ t → (m : Res (List ℕ) (List Definition)) → where_read t (place s m) ≤ 16384
    of true e (bad k z) = omega (arith, leb-true (length s) 16384 e)
    of true e (ok ds z) = omega arith
    of false e m = omega arith
