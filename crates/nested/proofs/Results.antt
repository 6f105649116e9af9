-- From the bytes of a book to the result of the nested mode: what every pass leaves a book can hold, and what is accepted meets demand 3.
-- Assumes nothing.
use mathlib.Core.Path.{◌≡◌}
use mathlib.Core.List.{List, []}
use mathlib.Core.Bool.{Bool, true, false}
use Prim.Native.Nat.{ℕ, zero, suc, ◌≤◌}
use lib.Dec.{leb}
use lib.ListN.{length}
use borrow.Author.Tests.{leb-true}
use Rattle.definition.specs.Out.{Out, done}
use Rattle.definition.specs.Tree.{Definition}
use Rattle.definition.specs.Write.{w_book}
use Rattle.definition.specs.Macros.{Macro, macros}
use Rattle.definition.specs.Lift.{full, walk_all, start}
use Rattle.definition.specs.Answer.{Result, all, fault_at}
use Rattle.laws.specs.Book.{Bytes, IsBook}
use Rattle.laws.specs.Lists.{NoMacro}
use Rattle.laws.proofs.Steps.{Gives, Yields, stops, yields, next, where-true, of_result, yielded}
use Rattle.laws.proofs.ExpandGood.{GoodM, macros_good, pass_good, expand_good}
use Rattle.laws.proofs.Results.{source_book, lifted_yields, lifted_book, accepted_by}
use Rattle.demand3.proofs.Demand3.{Comes, walk_comes}
use Rattle.demand3.proofs.Delivered.{delivered}
use Rattle.nested.specs.Nested.{settled, pass, until, again, nested_list, expanded_nested, elaborated_nested, attempt_nested_of, answer_nested, output_nested}
use Rattle.nested.specs.Laws.{ExpandedIsBook, ResultIsBook, AcceptedIsDelivered}

abbrev Fine : List Definition → Type 0
Fine ds = IsBook ds × NoMacro ds

until_fine : (b : Bool) (ds : List Definition) (v : Out (List Definition)) → Fine ds → Yields Fine v → Yields Fine (until b ds v)
unfolding until
until_fine true ds v w y = yields w
until_fine false ds v w y = y

again_fine : (n : ℕ) (ms : List Macro) → GoodM ms → (ds : List Definition) → Fine ds → Yields Fine (again n ms ds)
unfolding again pass
again_fine zero ms h ds w = until_fine (settled ms ds) ds _ w stops
again_fine (suc n) ms h ds w = until_fine (settled ms ds) ds _ w (next (pass_good ds ms h w.0.good w.0.few) _ λ es v. again_fine n ms h es v)

expanded_book : (s : List ℕ) → Bytes s → Yields Fine (expanded_nested s)
unfolding expanded_nested nested_list
expanded_book s h = next (source_book s h) _ λ ds b. next (expand_good ds b.good b.few) _ λ es w. again_fine 15 (macros ds []) (macros_good ds [] b.good tt) es w

pub expanded_is_book : ExpandedIsBook
expanded_is_book s h ds e = yielded (expanded_book s h) e

-- what holds of every walk of the list after the last pass holds of every result
elaborated_yields : (P : Result → Type 0) (s : List ℕ) → ((ds : List Definition) → expanded_nested s ≡ done ds → Gives (λ es t. P (record { kept = es; lifted = t.made })) (walk_all full ds (start ds))) → Yields P (elaborated_nested s)
unfolding elaborated_nested
elaborated_yields P s h = next (of_result (expanded_nested s) λ ds e. h ds e) _ λ ds w. lifted_yields P ds w

attempt_yields : (P : Result → Type 0) (s : List ℕ) → ((ds : List Definition) → expanded_nested s ≡ done ds → Gives (λ es t. P (record { kept = es; lifted = t.made })) (walk_all full ds (start ds)))
    → (o w : ℕ) → Yields (λ r. P r × (length (w_book (all r)) ≤ o)) (attempt_nested_of s o w)
unfolding attempt_nested_of
attempt_yields P s h o w = next {P = λ b. Yields P (elaborated_nested b)} (where-true (leb 65536 w) _ s (λ t. elaborated_yields P s h)) _
    λ b g. next g _ λ r q. where-true (leb (length (w_book (all r))) o) _ r λ t. (q, leb-true _ o t)

pub result_is_book : ResultIsBook
unfolding answer_nested output_nested
result_is_book s o w h e = accepted_by (fault_at s w) (attempt_nested_of s (length o) w) o (attempt_yields (λ r. IsBook (all r)) s (λ ds x. lifted_book ds (expanded_is_book s h ds x).0) (length o) w) e

pub accepted_is_delivered : AcceptedIsDelivered
unfolding answer_nested
accepted_is_delivered book out w b a after e f z =
    let k = result_is_book book out w b (rw e at z) in
    let c = (yielded (attempt_yields (Comes (expanded_nested book)) book (λ ds x. walk_comes (expanded_nested book) ds x (expanded_is_book book b ds x).1) (length out) w) k.attempted).0 in
    rw (e, f) (delivered (fault_at book w) (expanded_nested book) (attempt_nested_of book (length out) w) out (output_nested book out w) k c)
