-- A row read by a loop.
use mathlib.Core.Path.{◌≡◌, refl}
use mathlib.Core.List.{List}
use mathlib.Core.Bool.{Bool}
use Prim.Native.Nat.{ℕ, zero, suc, ◌+◌, ◌-◌, ◌≤◌, ◌<◌}
use native.Mathlib.Omega.{arith}
use lib.ListN.{drop}
use Rattle.std.specs.Prelude.{Ok, Err, IsErrAnd}
use Rattle.definition.specs.Res.{Res, ok, ◌>>=◌}
use Rattle.definition.specs.Tree.{Inner}
use Rattle.definition.specs.Read.{Reader, u16, name_by, names_by, inners}
use Rattle.read_book.specs.cursor.Ends.{Step, Walked, Took, Part, Ends}
use Rattle.read_book.specs.declared.cursor.Cursor.{Cursor}
use Rattle.read_book.specs.declared.cursor.Fault.{Fault}
use Rattle.read_book.specs.name_list.Rows.{counted, Leads, Run, done, stop, more, CountsBy, Counts}
use Rattle.read_book.proofs.cursor.Laws.{handed}
use Rattle.read_book.proofs.name_list.Bind.{then, stops, then_got, made_in, walked}

-- the loop over the items: each is read as `reads` says
module _ (reads : Cursor → Walked → Type 0) where
  -- its invariant: what reads from here what is left of n behind k items reads all n from the start
  abbrev pub RunsOn : ℕ → Cursor → ℕ → Cursor → Type 0
  RunsOn n c₀ k c = (r : Walked) → Run reads (n - k) c r → Run reads n c₀ r

  pub run_begins : {n : ℕ} {c : Cursor} → RunsOn n c 0 c
  run_begins {n} r e = let i : n - 0 ≡ n = omega arith in rw i at e

  module _ {n k : ℕ} {c₀ c : Cursor} (i : RunsOn n c₀ k c) where
    pub run_goes : {d : Cursor} → k < n → reads c (Ok d) → RunsOn n c₀ (k + 1) d
    run_goes h e r w = let j : n - k ≡ suc (n - (k + 1)) = omega arith in i r (rw j (more e w))

    pub run_stops : {f : Fault} {r : Walked} → k < n → reads c (Err f) → IsErrAnd r (λ g. g ≡ f) → Run reads n c₀ r
    run_stops {r = r} h e w = let j : n - k ≡ suc (n - (k + 1)) = omega arith in rw (handed r w) (i _ (rw j (stop e)))

    pub run_ends : n ≤ k → Run reads n c₀ (Ok c)
    run_ends h = let j : n - k ≡ 0 = omega arith in i _ (rw j done)

module _ {A : Type 0} (row : ℕ → Reader A) where
  -- a count, and as many items, of which each leads on in the row
  module _ {s : List ℕ} (reads : Cursor → Walked → Type 0) (a : A) (e : (l : List ℕ) → row 0 l ≡ ok a l) (lead : (c : Cursor) (r : Walked) → reads c r → Leads s c.at r row) where
    run_row : (n : ℕ) (c : Cursor) (r : Walked) → Run reads n c r → Ends s c.at r (row n (drop c.at s))
    run_row zero c r done = rw (e (drop c.at s)) (record { told = (a, record { gives = refl; along = refl }) })
    run_row (suc n) c r (stop h) = (lead c _ h).told n
    run_row (suc n) c r (more {d = d} h w) = (lead c _ h).told n r (run_row n d r w)

    counts_row : (p : ℕ) (r : Walked) (x : Step) → Took s p x (u16 (drop p s)) → CountsBy reads x r → Ends s p r (counted row (drop p s))
    unfolding counted
    counts_row p r (Ok x) t w = then_got _ t (run_row x.0 x.1 r w)
    counts_row p r (Err f) t w = rw w (stops _ t.told)

    pub a_row : {p : ℕ} {r : Walked} → Counts s p reads r → Ends s p r (counted row (drop p s))
    a_row {p} {r} c = counts_row p r c.count c.took c.told

  -- an item whose last part is read by m
  pub last : {B : Type 0} {s : List ℕ} {p q : ℕ} {m : Res (List ℕ) B} {x : Walked} → Ends s q x m
      → ((n : ℕ) (r : Walked) → Ends s q r (m >>= λ y. row n y.1) → Ends s p r (row (suc n) (drop p s))) → Leads s p x row
  last {x = Ok c} e k = record { told = λ n r w. k n r (then _ e (λ a. w)) }
  last {x = Err f} e k = record { told = λ n. k n (Err f) (stops _ e.told) }

pub a_name : (t : List ℕ → Bool) {s : List ℕ} {p from : ℕ} {x : Walked} → Part s p from x (name_by t (drop p s)) → Leads s p x (names_by t)
unfolding names_by
a_name t {s = s} {p = p} e = last (names_by t) (walked e) (λ n r w. made_in (name_by t (drop p s)) (λ y. names_by t n y.1) _ w)

pub an_inner : (a : Reader Inner) {s : List ℕ} {p : ℕ} {x : Walked} → Ends s p x (a (drop p s)) → Leads s p x (inners a)
unfolding inners
an_inner a {s = s} {p = p} e = last (inners a) e (λ n r w. made_in (a (drop p s)) (λ y. inners a n y.1) _ w)
