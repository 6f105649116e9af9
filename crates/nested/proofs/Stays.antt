-- A settled list: no pass changes it, and the nested mode answers for it as the plain one does.
-- Assumes nothing.
use mathlib.Core.Path.{◌≡◌, refl, ap}
use mathlib.Core.List.{List, [], ◌∷◌}
use mathlib.Core.Bool.{Bool, true, false, not, ◌||◌}
use Prim.Native.Nat.{ℕ}
use lib.Dec.{leb}
use lib.ListN.{length}
use borrow.Author.Tests.{le-leb}
use Rattle.definition.specs.Code.{work_short, output_short}
use Rattle.definition.specs.Out.{Out, refused, done, ◌>>=◌, given}
use Rattle.definition.specs.Tree.{Name, Combinator, plain, chained, Inner, leaf, struct, choice, shell, bytes, invocation, macro_invocation, Fields, no_field, field, const, Cases, no_case, case, Inners, Definition, format, constant, byte_order, macro}
use Rattle.definition.specs.Names.{eq_name}
use Rattle.definition.specs.Size.{size_book, levels_book}
use Rattle.definition.specs.Write.{w_book}
use Rattle.definition.specs.Macros.{Macro, macros, expand_by, expand_macro, expand, expand_i, expand_f, expand_c, expand_all, expand_list, expand_book}
use Rattle.definition.specs.Bodies.{every_body}
use Rattle.definition.specs.Lift.{lift_book_of}
use Rattle.definition.specs.Answer.{source, expanded, Result, all, outcome, elaborated, attempt, answered, fault_at, answer, filled, output}
use Rattle.laws.specs.Lists.{NoMacro}
use Rattle.laws.proofs.Tests.{both_true, not_both, not-true}
use Rattle.laws.proofs.Results.{expand_says}
use Rattle.nested.specs.Nested.{every_macro_call, every_macro_call_i, every_macro_call_f, every_macro_call_c, is_macro, settled, pass, again, nested_list, expanded_nested, elaborated_nested, attempt_nested_of, answer_nested, output_nested}
use Rattle.nested.specs.Laws.{SettledStays, SettledIsPlain}
use Rattle.nested.proofs.Passes.{now}

unknown : (ms : List Macro) (n : Name) (xs : Inners) → is_macro ms n ≡ false → expand_macro ms n xs ≡ done (macro_invocation n xs)
unfolding is_macro expand_macro expand_by
unknown [] n xs e = refl
unknown (m ∷ ms) n xs e = by_name (eq_name m.name n) e (unknown ms n xs)
  where
    by_name : (b : Bool) → b || is_macro ms n ≡ false → (is_macro ms n ≡ false → expand_macro ms n xs ≡ done (macro_invocation n xs)) → expand_by b m xs (expand_macro ms n xs) ≡ done (macro_invocation n xs)
    by_name true e go = not_both true refl e
    by_name false e go = go e

module _ (ms : List Macro) where
  -- not a known macro
  abbrev free : Name → Bool
  free n = not (is_macro ms n)

  mutual
    unfolding expand every_macro_call

    stay : (c : Combinator) → every_macro_call c free ≡ true → expand c ms ≡ done c
    stay (plain i) e = rw (stay_i i e)
    stay (chained i c) e = let b = both_true (every_macro_call_i i free) (every_macro_call c free) e in rw (stay c b.1, stay_i i b.0)

    stay_i : (i : Inner) → every_macro_call_i i free ≡ true → expand_i i ms ≡ done i
    stay_i (leaf k x) e = refl
    stay_i (struct f) e = rw (stay_f f e)
    stay_i (choice s k f) e = rw (stay_c f e)
    stay_i (shell x c) e = rw (stay c e)
    stay_i (bytes l) e = refl
    stay_i (invocation n a) e = refl
    stay_i (macro_invocation n a) e = unknown ms n a (not-true (is_macro ms n) e)

    stay_f : (f : Fields) → every_macro_call_f f free ≡ true → expand_f f ms ≡ done f
    stay_f no_field e = refl
    stay_f (field k l c f) e = let b = both_true (every_macro_call c free) (every_macro_call_f f free) e in rw (stay c b.0, stay_f f b.1)
    stay_f (const l x f) e = rw (stay_f f e)

    stay_c : (f : Cases) → every_macro_call_c f free ≡ true → expand_c f ms ≡ done f
    stay_c no_case e = refl
    stay_c (case l c f) e = let b = both_true (every_macro_call c free) (every_macro_call_c f free) e in rw (stay c b.0, stay_c f b.1)

  stay_all : (ds : List Definition) → NoMacro ds → settled ms ds ≡ true → expand_all ds ms ≡ done ds
  unfolding expand_all settled every_body
  stay_all [] h e = refl
  stay_all (format n ps c ∷ ds) h e = let b = both_true (every_macro_call c free) (every_body (λ d. every_macro_call d free) ds) e in rw (stay c b.0, stay_all ds h b.1)
  stay_all (constant n x ∷ ds) h e = rw (stay_all ds h e)
  stay_all (byte_order x ∷ ds) h e = rw (stay_all ds h e)
  stay_all (macro n ps c ∷ ds) h e = absurd h

pub settled_stays : SettledStays
unfolding pass
settled_stays ms ds b h e = rw (stay_all ms ds h e, le-leb (size_book ds) 16384 b.short, le-leb (levels_book ds) 64 b.deep)

-- one pass is enough, or is refused
module _ (book : List ℕ) (h : (ds es : List Definition) → source book ≡ done ds → expanded book ≡ done es → settled (macros ds []) es ≡ true) where
  same_list : expanded_nested book ≡ expanded book
  unfolding expanded_nested nested_list expanded
  same_list = of_source (source book) refl
    where
      of_list : (ds : List Definition) → source book ≡ done ds → (v : Out (List Definition)) → expand_list ds ≡ v → (v >>= λ es. again 15 (macros ds []) es) ≡ v
      of_list ds p (refused k) q = refl
      of_list ds p (done es) q = now (macros ds []) 15 es (h ds es p (rw (p, expand_says ds) q))

      of_source : (v : Out (List Definition)) → source book ≡ v → (v >>= λ ds. nested_list ds) ≡ (v >>= λ ds. expand_book ds)
      of_source (refused k) p = refl
      of_source (done ds) p = rw (expand_says ds) (of_list ds p (expand_list ds) refl)

  same_result : elaborated_nested book ≡ elaborated book
  unfolding elaborated_nested elaborated
  same_result = ap (λ (m : Out (List Definition)). m >>= λ ds. outcome (lift_book_of ds)) same_list

  same_attempt : (o w : ℕ) → attempt_nested_of book o w ≡ attempt book o w
  unfolding attempt_nested_of attempt
  same_attempt o w = of_work (leb 65536 w)
    where
      fits : Result → Out Result
      fits r = given (leb (length (w_book (all r))) o) output_short r

      of_work : (b : Bool) → (given b work_short book >>= λ c. elaborated_nested c >>= λ r. fits r) ≡ (given b work_short book >>= λ c. elaborated c >>= λ r. fits r)
      of_work true = rw same_result
      of_work false = refl

pub settled_is_plain : SettledIsPlain
unfolding answer_nested answer output_nested output
settled_is_plain book out w h = (ap (λ (m : Out Result). answered (fault_at book w) m) (same_attempt book h (length out) w), ap (λ (m : Out Result). filled m out) (same_attempt book h (length out) w))
