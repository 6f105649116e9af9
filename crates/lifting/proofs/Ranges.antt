-- The lifts out of what stands at a place lie in its range, past its first byte.
use mathlib.Core.Path.{◌≡◌}
use mathlib.Core.Logic.{◌⊎◌, inl, inr}
use mathlib.Core.Bool.{Bool, true, false}
use mathlib.Core.List.{List, [], ◌++◌}
use Prim.Native.Nat.{ℕ, ◌+◌, ◌≤◌, ◌<◌}
use native.Mathlib.Omega.{arith}
use Rattle.definition.specs.Tree.{CaseKind, Combinator, plain, chained, Inner, leaf, struct, choice, shell, bytes, invocation, macro_invocation, Fields, no_field, field, const, Cases, no_case, case}
use Rattle.definition.specs.Collect.{anonymous}
use Rattle.definition.specs.Size.{size}
pub use Rattle.laws.proofs.Sizes.{size_some, size_i_some}
use Rattle.laws.proofs.Sizes.{open-some, size_i, size_f, size_c, size-plain, size-chained, size_struct, size_choice, size-shell, size-field, size_constant, size-case}
use Rattle.lifting.specs.After.{chain_at, fields_at, cases_at, shell_at, field_at, const_end, case_at, Lift, itself, lifts, lifts_i, lifts_f, lifts_c, Stands}
use Rattle.lifting.proofs.Found.{stands_either}

-- all lifts stand from a place on and before another
pub record Between (a b : ℕ) (ls : List Lift) : Type 0 where
  pub range : (x : ℕ) → Stands x ls → (a ≤ x) × (x < b)

pub none : {a b : ℕ} → Between a b []
none = record { range = λ x h. absurd h }

pub wider : {a b c d : ℕ} {ls : List Lift} → Between c d ls → a ≤ c → d ≤ b → Between a b ls
wider w p q = record { range = λ x h. let r = w.range x h in (omega arith, omega arith) }

pub both : {a b : ℕ} {l m : List Lift} → Between a b l → Between a b m → Between a b (l ++ m)
both {a} {b} {l} {m} v w = record { range = λ x h. of x (stands_either x l m h) }
  where
    of : (x : ℕ) → Stands x l ⊎ Stands x m → (a ≤ x) × (x < b)
    of x (inl h) = v.range x h
    of x (inr h) = w.range x h

-- what stands in two ranges that do not meet
pub apart : {a b c d : ℕ} {l m : List Lift} → Between a b l → Between c d m → (b ≤ c) ⊎ (d ≤ a) → (x : ℕ) → Stands x l → Stands x m → ⊥
apart v w (inl e) x h k = let p = v.range x h in let q = w.range x k in omega arith
apart v w (inr e) x h k = let p = v.range x h in let q = w.range x k in omega arith

-- a child: the lifts out of it, and itself
kid_range : (c : Combinator) (p : ℕ) → Between (p + 1) (p + size c) (lifts c p) → Between p (p + size c) (lifts c p ++ itself (anonymous c) c p)
unfolding itself
kid_range c p w = both (wider w (omega arith) (omega arith)) (alone (anonymous c))
  where
    alone : (b : Bool) → Between p (p + size c) (itself b c p)
    alone true = record { range = λ x h. at_place x h }
      where
        at_place : (x : ℕ) → (p ≡ x) ⊎ ⊥ → (p ≤ x) × (x < p + size c)
        at_place x (inl e) = (omega arith, omega (arith, size_some c))
        at_place x (inr h) = absurd h
    alone false = none

mutual
  unfolding lifts

  pub in-range : (c : Combinator) (p : ℕ) → Between (p + 1) (p + size c) (lifts c p)
  in-range (plain i) p = wider (in-rangeI i p) (omega arith) (omega (arith, size-plain i))
  in-range (chained i c) p = both (wider (kid_range c (chain_at p i) (in-range c (chain_at p i))) (omega arith) (omega (arith, size-chained i c))) (wider (in-rangeI i p) (omega arith) (omega (arith, size-chained i c)))

  pub in-rangeI : (i : Inner) (p : ℕ) → Between (p + 1) (p + size_i i) (lifts_i i p)
  in-rangeI (leaf k x) p = none
  in-rangeI (struct f) p = wider (in-rangeF f (fields_at p)) (omega arith) (omega (arith, size_struct f))
  in-rangeI (choice s k f) p = wider (in-rangeC f k (cases_at p s)) (omega arith) (omega (arith, size_choice s k f))
  in-rangeI (shell x c) p = wider (kid_range c (shell_at p x) (in-range c (shell_at p x))) (omega (arith, open-some x)) (omega (arith, size-shell x c))
  in-rangeI (bytes l) p = none
  in-rangeI (invocation n a) p = none
  in-rangeI (macro_invocation n a) p = none

  pub in-rangeF : (f : Fields) (p : ℕ) → Between p (p + size_f f) (lifts_f f p)
  in-rangeF no_field p = none
  in-rangeF (field k l c f) p = both (wider (kid_range c (field_at p l) (in-range c (field_at p l))) (omega arith) (omega (arith, size-field k l c f))) (wider (in-rangeF f (field_at p l + size c)) (omega arith) (omega (arith, size-field k l c f)))
  in-rangeF (const l x f) p = wider (in-rangeF f (const_end p l x)) (omega arith) (omega (arith, size_constant l x f))

  pub in-rangeC : (f : Cases) (k : CaseKind) (p : ℕ) → Between p (p + size_c f k) (lifts_c f k p)
  in-rangeC no_case k p = none
  in-rangeC (case l c f) k p = both (wider (kid_range c (case_at p k l) (in-range c (case_at p k l))) (omega arith) (omega (arith, size-case l c f k))) (wider (in-rangeC f k (case_at p k l + size c)) (omega arith) (omega (arith, size-case l c f k)))

pub in-rangeK : (c : Combinator) (p : ℕ) → Between p (p + size c) (lifts c p ++ itself (anonymous c) c p)
in-rangeK c p = kid_range c p (in-range c p)
