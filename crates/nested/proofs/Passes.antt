-- Passes run until the list is settled: the three ways in which they end, and that each is the definition's.
-- Assumes nothing.
use mathlib.Core.Path.{◌≡◌, refl, sym, ap, ◌∙◌}
use mathlib.Core.Logic.{◌⊎◌, inl, inr}
use mathlib.Core.List.{List, []}
use mathlib.Core.Bool.{true, false}
use Prim.Native.Nat.{ℕ, zero, suc, ◌≤◌}
use native.Mathlib.Omega.{arith}
use Rattle.definition.specs.Code.{Code, macro_growth, macro_left}
use Rattle.definition.specs.Out.{Out, refused, done, ◌>>=◌}
use Rattle.definition.specs.Tree.{Definition}
use Rattle.definition.specs.Macros.{Macro, macros, expand_list}
use Rattle.definition.specs.Answer.{source}
use Rattle.laws.proofs.Tests.{by_test, not_both}
use Rattle.laws.proofs.Steps.{no_done}
use Rattle.laws.proofs.OnlySix.{Grows, code_six, only_six}
use Rattle.nested.specs.Nested.{settled, pass, until, again, nested_list, expanded_nested}
use Rattle.nested.specs.Laws.{passes, LeftBefore, Ends, settles, grows, leaves, PassesUntilSettled, OnlySixAndTwelve}

-- a pass is refused with 6 only
pub pass_grows : (ms : List Macro) (ds : List Definition) → Grows (pass ms ds)
unfolding pass
pass_grows ms ds = only_six ms ds

pub pass_code : (ms : List Macro) (ds : List Definition) (k : Code) → pass ms ds ≡ refused k → k ≡ macro_growth
pass_code ms ds k e = of (pass_grows ms ds)
  where
    of : Grows (pass ms ds) → k ≡ macro_growth
    of g = code_six (rw e at g)

done_is : {a b : List Definition} → done a ≡ done b → a ≡ b
done_is e = cc

module _ (ms : List Macro) where
  passes_on : (k : ℕ) (ds fs : List Definition) → pass ms ds ≡ done fs → passes (suc k) ms ds ≡ passes k ms fs
  unfolding passes
  passes_on k ds fs p = rw p

  passes_off : (k : ℕ) (ds : List Definition) (c : Code) → pass ms ds ≡ refused c → passes (suc k) ms ds ≡ refused c
  unfolding passes
  passes_off k ds c p = rw p

  -- a list that is not settled, if it counts, and the pass over it
  module _ (first most : ℕ) (ds : List Definition) (early : first ≤ 1) (not_yet : first ≤ 0 → settled ms ds ≡ false) where
    left_here : (es : List Definition) → first ≤ 0 → passes 0 ms ds ≡ done es → settled ms es ≡ false
    unfolding passes
    left_here es l e = let z : ds ≡ es = done_is e in rw (← z) (not_yet l)

    unsettled : {X : Type 0} (es : List Definition) → first ≤ 0 → passes 0 ms ds ≡ done es → settled ms es ≡ true → X
    unsettled es l e t = not_both (settled ms es) t (left_here es l e)

    no_pass : {X : Type 0} (k : Code) → passes 0 ms ds ≡ refused k → X
    unfolding passes
    no_pass k e = no_done (sym e)

    left_one : LeftBefore first 1 ms ds
    left_one zero l h es e = left_here es l e
    left_one (suc i) l h es e = absurd (omega arith)

    refused_ends : (k : Code) → pass ms ds ≡ refused k → Ends first (suc most) ms ds (refused k)
    refused_ends k e = let z = pass_code ms ds k e in rw z (grows 1 (omega arith) (passes_off 0 ds macro_growth (e ∙ ap refused z)) left_one)

    ends_refused : (k : Code) {v : Out (List Definition)} → pass ms ds ≡ refused k → Ends first (suc most) ms ds v → refused k ≡ v
    ends_refused k p (settles zero es l m q t u) = unsettled es l q t
    ends_refused k p (settles (suc i) es l m q t u) = no_done (sym (passes_off i ds k p) ∙ q)
    ends_refused k p (grows zero m q u) = no_pass macro_growth q
    ends_refused k p (grows (suc i) m q u) = sym (passes_off i ds k p) ∙ q
    ends_refused k p (leaves es q u) = no_done (sym (passes_off most ds k p) ∙ q)

    module _ (fs : List Definition) (p : pass ms ds ≡ done fs) where
      left_more : (k : ℕ) → LeftBefore 0 k ms fs → LeftBefore first (suc k) ms ds
      left_more k u zero l h es e = left_here es l e
      left_more k u (suc i) l h es e = u i (omega arith) (omega arith) es (sym (passes_on i ds fs p) ∙ e)

      left_less : (k : ℕ) → LeftBefore first (suc k) ms ds → LeftBefore 0 k ms fs
      left_less k u i l h es e = u (suc i) (omega arith) (omega arith) es (passes_on i ds fs p ∙ e)

      done_ends : {v : Out (List Definition)} → Ends 0 most ms fs v → Ends first (suc most) ms ds v
      done_ends (settles k es l m q t u) = settles (suc k) es (omega arith) (omega arith) (passes_on k ds fs p ∙ q) t (left_more k u)
      done_ends (grows k m q u) = grows (suc k) (omega arith) (passes_on k ds fs p ∙ q) (left_more k u)
      done_ends (leaves es q u) = leaves es (passes_on most ds fs p ∙ q) (left_more (suc most) u)

      ends_done : {v : Out (List Definition)} → Ends first (suc most) ms ds v → Ends 0 most ms fs v
      ends_done (settles zero es l m q t u) = unsettled es l q t
      ends_done (settles (suc k) es l m q t u) = settles k es (omega arith) (omega arith) (sym (passes_on k ds fs p) ∙ q) t (left_less k u)
      ends_done (grows zero m q u) = no_pass macro_growth q
      ends_done (grows (suc k) m q u) = grows k (omega arith) (sym (passes_on k ds fs p) ∙ q) (left_less k u)
      ends_done (leaves es q u) = leaves es (sym (passes_on most ds fs p) ∙ q) (left_less (suc most) u)

  -- what `again` does: a settled list, no pass left, one pass more
  pub now : (n : ℕ) (ds : List Definition) → settled ms ds ≡ true → again n ms ds ≡ done ds
  unfolding again until
  now zero ds t = rw t
  now (suc n) ds t = rw t

  never : (ds : List Definition) → settled ms ds ≡ false → again 0 ms ds ≡ refused macro_left
  unfolding again until
  never ds f = rw f

  once_more : (n : ℕ) (ds : List Definition) → settled ms ds ≡ false → again (suc n) ms ds ≡ (pass ms ds >>= λ es. again n ms es)
  unfolding again until
  once_more n ds f = rw f

  now_ends : (n : ℕ) (ds : List Definition) → settled ms ds ≡ true → Ends 0 n ms ds (done ds)
  unfolding passes
  now_ends n ds t = settles 0 ds (omega arith) (omega arith) refl t (λ i l h. absurd (omega arith))

  ends_now : (n : ℕ) (ds : List Definition) {v : Out (List Definition)} → settled ms ds ≡ true → Ends 0 n ms ds v → done ds ≡ v
  unfolding passes
  ends_now n ds t (settles zero es l m q s u) = q
  ends_now n ds t (settles (suc k) es l m q s u) = not_both (settled ms ds) t (u 0 (omega arith) (omega arith) ds refl)
  ends_now n ds t (grows zero m q u) = no_done (sym q)
  ends_now n ds t (grows (suc k) m q u) = not_both (settled ms ds) t (u 0 (omega arith) (omega arith) ds refl)
  ends_now n ds t (leaves es q u) = not_both (settled ms ds) t (u 0 (omega arith) (omega arith) ds refl)

  never_ends : (ds : List Definition) → settled ms ds ≡ false → Ends 0 0 ms ds (refused macro_left)
  unfolding passes
  never_ends ds f = leaves ds refl (left_one 0 0 ds (omega arith) (λ l. f))

  ends_never : (ds : List Definition) {v : Out (List Definition)} → settled ms ds ≡ false → Ends 0 0 ms ds v → refused macro_left ≡ v
  ends_never ds f (settles zero es l m q t u) = unsettled 0 0 ds (omega arith) (λ l. f) es l q t
  ends_never ds f (settles (suc k) es l m q t u) = absurd (omega arith)
  ends_never ds f (grows zero m q u) = no_pass 0 0 ds (omega arith) (λ l. f) macro_growth q
  ends_never ds f (grows (suc k) m q u) = absurd (omega arith)
  ends_never ds f (leaves es q u) = refl

  -- a pass, and then what ends as it should
  then_ends : (first n : ℕ) (ds : List Definition) → first ≤ 1 → (first ≤ 0 → settled ms ds ≡ false) → ((fs : List Definition) → Ends 0 n ms fs (again n ms fs))
      → (v : Out (List Definition)) → pass ms ds ≡ v → Ends first (suc n) ms ds (v >>= λ es. again n ms es)
  then_ends first n ds l f go (refused k) p = refused_ends first n ds l f k p
  then_ends first n ds l f go (done fs) p = done_ends first n ds l f fs p (go fs)

  ends_then : (first n : ℕ) (ds : List Definition) → first ≤ 1 → (first ≤ 0 → settled ms ds ≡ false) → (v : Out (List Definition)) → ((fs : List Definition) → Ends 0 n ms fs v → again n ms fs ≡ v)
      → Ends first (suc n) ms ds v → (w : Out (List Definition)) → pass ms ds ≡ w → (w >>= λ es. again n ms es) ≡ v
  ends_then first n ds l f v go e (refused k) p = ends_refused first n ds l f k p e
  ends_then first n ds l f v go e (done fs) p = go fs (ends_done first n ds l f fs p e)

  again_ends : (n : ℕ) (ds : List Definition) → Ends 0 n ms ds (again n ms ds)
  again_ends zero ds = by_test (settled ms ds) (λ t. rw (now 0 ds t) (now_ends 0 ds t)) (λ f. rw (never ds f) (never_ends ds f))
  again_ends (suc n) ds = by_test (settled ms ds)
      (λ t. rw (now (suc n) ds t) (now_ends (suc n) ds t))
      (λ f. rw (once_more n ds f) (then_ends 0 n ds (omega arith) (λ l. f) (λ fs. again_ends n fs) (pass ms ds) refl))

  ends_again : (n : ℕ) (ds : List Definition) (v : Out (List Definition)) → Ends 0 n ms ds v → again n ms ds ≡ v
  ends_again zero ds v e = by_test (settled ms ds) (λ t. now 0 ds t ∙ ends_now 0 ds t e) (λ f. never ds f ∙ ends_never ds f e)
  ends_again (suc n) ds v e = by_test (settled ms ds)
      (λ t. now (suc n) ds t ∙ ends_now (suc n) ds t e)
      (λ f. once_more n ds f ∙ ends_then 0 n ds (omega arith) (λ l. f) v (λ fs g. ends_again n fs v g) e (pass ms ds) refl)

-- the first pass is document 01's
pub nested_says : (ds : List Definition) → nested_list ds ≡ (pass (macros ds []) ds >>= λ es. again 15 (macros ds []) es)
unfolding nested_list expand_list pass
nested_says ds = refl

pub nested_ends : (ds : List Definition) → Ends 1 16 (macros ds []) ds (nested_list ds)
nested_ends ds = rw (nested_says ds) (then_ends (macros ds []) 1 15 ds (omega arith) (λ l. absurd (omega arith)) (again_ends (macros ds []) 15) (pass (macros ds []) ds) refl)

ends_nested : (ds : List Definition) (v : Out (List Definition)) → Ends 1 16 (macros ds []) ds v → nested_list ds ≡ v
ends_nested ds v e = nested_says ds ∙ ends_then (macros ds []) 1 15 ds (omega arith) (λ l. absurd (omega arith)) v (λ fs g. ends_again (macros ds []) 15 fs v g) e (pass (macros ds []) ds) refl

pub passes_until_settled : PassesUntilSettled
passes_until_settled ds v = ((λ e. rw (← e) (nested_ends ds)), (λ e. ends_nested ds v e))

-- what is refused before the lifts
six_or_twelve : {ds : List Definition} {k : Code} → Ends 1 16 (macros ds []) ds (refused k) → (k ≡ macro_growth) ⊎ (k ≡ macro_left)
six_or_twelve (grows i m q u) = inl refl
six_or_twelve (leaves es q u) = inr refl

pub only_six_and_twelve : OnlySixAndTwelve
unfolding expanded_nested
only_six_and_twelve book k e = of (source book) refl e
  where
    of_nested : (ds : List Definition) → nested_list ds ≡ refused k → Ends 1 16 (macros ds []) ds (nested_list ds) → (k ≡ macro_growth) ⊎ (k ≡ macro_left)
    of_nested ds q g = six_or_twelve {ds = ds} (rw q at g)

    of : (v : Out (List Definition)) → source book ≡ v → (v >>= λ ds. nested_list ds) ≡ refused k → (source book ≡ refused k) ⊎ ((k ≡ macro_growth) ⊎ (k ≡ macro_left))
    of (refused i) p q = inl (p ∙ q)
    of (done ds) p q = inr (of_nested ds q (nested_ends ds))
