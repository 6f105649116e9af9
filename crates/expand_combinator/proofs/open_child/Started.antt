-- What a lift that was entered says of its row, its name and its call; the number at its place.
-- Assumes nothing.
use mathlib.Core.Path.{◌≡◌, refl, sym, ◌∙◌}
use mathlib.Core.Bool.{Bool, true, false, not, cond, ◌&&◌}
use mathlib.Core.List.{List, [], ◌∷◌, ◌++◌}
use Prim.Native.Nat.{ℕ, zero, suc, ◌+◌, ◌≤◌, ◌<◌}
use native.Mathlib.Omega.{arith}
use lib.Dec.{leb, eqb}
use lib.ListN.{length, get_or, set, length-append}
use lib.Seq.{get_or-set_same, get_or-set_other}
use borrow.Author.Tests.{eqb-true, eqb-false}
use Rattle.definition.specs.Code.{leftover_macro, name_long, result_long}
use Rattle.definition.specs.Res.{Maybe, absent, just, Res, bad, ok, ◌>>=◌, require}
use Rattle.definition.specs.Tree.{Name, Combinator}
use Rattle.definition.specs.Names.{elem, sorted, decimal, numbered, first_free, fresh}
use Rattle.definition.specs.Size.{size}
use Rattle.definition.specs.Collect.{free, leftover}
use Rattle.laws.proofs.Tests.{by_test}
use Rattle.lift_tables.specs.tables.Rows.{Row, rows_of, last_from}
use Rattle.lift_tables.proofs.tables.Last.{last_snoc}
use Rattle.lift_tables.specs.enter_lift.Bound.{Bound, binders_of}
use Rattle.lift_tables.specs.enter_lift.Sheet.{Sheet, call_size, entered, fits, enter_with}
use Rattle.lift_combinator.specs.naming.Walk.{Start, starts}

-- a name that is free is its base, or longer
free_longer : (base : Name) (k i : ℕ) (taken : List Name) → length base ≤ length (first_free (numbered base) k i taken)
unfolding first_free numbered
free_longer base zero i taken = omega (arith, length-append base (95 ∷ decimal i))
free_longer base (suc k) i taken = of (elem (base ++ (95 ∷ decimal i)) taken) (free_longer base k (suc i) taken)
  where
    of : (b : Bool) → length base ≤ length (first_free (numbered base) k (suc i) taken) → length base ≤ length (cond b (first_free (numbered base) k (suc i) taken) (base ++ (95 ∷ decimal i)))
    of true h = h
    of false h = omega (arith, length-append base (95 ∷ decimal i))

fresh_longer : (base : Name) (taken : List Name) → length base ≤ length (fresh base taken)
unfolding fresh
fresh_longer base taken = of (elem base taken)
  where
    of : (b : Bool) → length base ≤ length (cond b (first_free (numbered base) (length taken) 0 taken) base)
    of true = free_longer base (length taken) 0 taken
    of false = omega arith

pub record Started (p : ℕ) (base : Name) (t : Sheet) (b : Start) (u : Sheet) : Type 0 where
  pub row : Row
  pub rows : u.rows ≡ t.rows ++ (row ∷ [])
  pub at : row.at ≡ p
  pub longer : length base ≤ length b.name
  pub least : 5 ≤ b.call
  pub most : b.call ≤ u.bytes

unfoldable StartedOf : ℕ → Name → Sheet → Res Sheet Start → Type 0
StartedOf p base t (bad k u) = Unit
StartedOf p base t (ok b u) = Started p base t b u

module _ (p e : ℕ) (base n : Name) (ns : List Name) (t : Sheet) (long : length base ≤ length n) where
  by_fits : (z : Bool) (bs : List Bound) → StartedOf p base t (require z result_long (entered p e n ns bs t) >>= (λ x. ok (call_size n ns) x.1) >>= (λ x. ok (record { name = n; call = x.0 }) x.1))
  unfolding StartedOf entered call_size
  by_fits false bs = tt
  by_fits true bs = record { row = _; rows = refl; at = refl; longer = long; least = omega arith; most = omega arith }

  by_binders : (bs : Maybe (List Bound)) → StartedOf p base t (enter_with p e n ns bs t >>= (λ x. ok (record { name = n; call = x.0 }) x.1))
  unfolding StartedOf enter_with fits entered
  by_binders absent = tt
  by_binders (just bs) = by_fits (leb (entered p e n ns bs t).bytes 16384 && leb (entered p e n ns bs t).defns 512) bs

  by_tests : (a l : Bool) (bs : Maybe (List Bound))
      → StartedOf p base t (require a name_long t >>= (λ x. require l leftover_macro x.1 >>= (λ y. enter_with p e n ns bs y.1 >>= (λ x. ok (record { name = n; call = x.0 }) x.1))))
  unfolding StartedOf
  by_tests false l bs = tt
  by_tests true false bs = tt
  by_tests true true bs = by_binders bs

started_of : (c : Combinator) (p : ℕ) (base : Name) (env : List Bound) (t : Sheet) → StartedOf p base t (starts c p base env t)
unfolding starts
started_of c p base env t =
    by_tests p (p + size c) base (fresh base t.taken) (sorted (free c)) t (fresh_longer base t.taken) (leb (length (fresh base t.taken)) 255) (not (leftover c)) (binders_of env (sorted (free c)))

pub started : (c : Combinator) (p : ℕ) (base : Name) (env : List Bound) (t : Sheet) {b : Start} {u : Sheet} → starts c p base env t ≡ ok b u → Started p base t b u
unfolding StartedOf
started c p base env t e = rw e at (started_of c p base env t)

-- ---- rows and numbers
pub rows-length : (s made rows params : List ℕ) (n : ℕ) → length (rows_of s made rows params n) ≡ n
unfolding rows_of
rows-length s made rows params zero = refl
rows-length s made rows params (suc n) = rw length-append (omega (arith, rows-length s made rows params n))

-- the number at a place takes a new row as it comes
pub numbered_on : (rs rs' : List Row) (r : Row) (number : List ℕ) (at n p : ℕ) → rs' ≡ rs ++ (r ∷ []) → r.at ≡ at → length rs ≡ n → p < length number → get_or number p 0 ≡ last_from rs 0 p
    → get_or (set number at (n + 1)) p 0 ≡ last_from rs' 0 p
numbered_on rs rs' r number at n p e ea en hp h = rw (e, last_snoc rs r 0 p, ea) (by_test (eqb at p) yes no)
  where
    yes : eqb at p ≡ true → get_or (set number at (n + 1)) p 0 ≡ cond (eqb at p) (0 + length rs + 1) (last_from rs 0 p)
    yes q = let v : at ≡ p = eqb-true at p q in let z : 0 + length rs + 1 ≡ n + 1 = omega arith in rw (q, z, v) (get_or-set_same number p (n + 1) 0 hp)

    no : eqb at p ≡ false → get_or (set number at (n + 1)) p 0 ≡ cond (eqb at p) (0 + length rs + 1) (last_from rs 0 p)
    no q = rw q (get_or-set_other number at p (n + 1) 0 (λ (v : p ≡ at). eqb-false at p q (sym v)) ∙ h)
