-- Looking up a record by its place, as records are appended; where lifts stand.
use mathlib.Core.Path.{◌≡◌, refl, sym, ◌∙◌}
use mathlib.Core.Logic.{◌⊎◌, inl, inr}
use mathlib.Core.Bool.{Bool, true, false, cond}
use mathlib.Core.List.{List, [], ◌∷◌, ◌++◌}
use Prim.Native.Nat.{ℕ}
use native.Mathlib.Omega.{arith}
use lib.Dec.{eqb}
use borrow.Author.Tests.{eqb-true, eqb-false, eq-eqb, ne_eqb}
use Rattle.definition.specs.Res.{absent, just}
use Rattle.lifting.specs.Records.{Record, or_else, find}
use Rattle.lifting.specs.After.{Lift, Stands, Found, AllFound}

-- a record appended is what is found at its place
pub find_snoc : (a : List Record) (r : Record) (x : ℕ) → find (a ++ (r ∷ [])) x ≡ cond (eqb r.at x) (just r) (find a x)
unfolding find
find_snoc [] r x = refl
find_snoc (y ∷ a) r x = rw (find_snoc a r x) (of (eqb r.at x))
  where
    of : (b : Bool) → or_else (cond b (just r) (find a x)) (cond (eqb y.at x) (just y) absent) ≡ cond b (just r) (or_else (find a x) (cond (eqb y.at x) (just y) absent))
    of true = refl
    of false = refl

pub find_here : (a : List Record) (r : Record) (x : ℕ) → r.at ≡ x → find (a ++ (r ∷ [])) x ≡ just r
find_here a r x e = rw (find_snoc a r x, eq-eqb r.at x e)

pub find_other : (a : List Record) (r : Record) (x : ℕ) → (r.at ≡ x → ⊥) → find (a ++ (r ∷ [])) x ≡ find a x
find_other a r x n = rw (find_snoc a r x, ne_eqb r.at x n)

-- what was found is found later
pub record Later (a b : List Record) : Type 0 where
  pub keeps : (x : ℕ) (r : Record) → find a x ≡ just r → find b x ≡ just r

pub later_self : (a : List Record) → Later a a
later_self a = record { keeps = λ x r e. e }

pub later_on : {a b c : List Record} → Later a b → Later b c → Later a c
later_on g h = record { keeps = λ x r e. h.keeps x r (g.keeps x r e) }

pub later_one : (a : List Record) (r : Record) (x : ℕ) → r.at ≡ x → find a x ≡ absent → Later a (a ++ (r ∷ []))
later_one a r x h n = record { keeps = λ y q e. find_other a r y (λ k. let f : find a x ≡ just q = rw (sym h ∙ k) e in let z : ◌≡◌ {A = ℕ} 0 1 = cc in omega arith) ∙ e }

pub stands_left : (x : ℕ) (a b : List Lift) → Stands x a → Stands x (a ++ b)
stands_left x [] b h = absurd h
stands_left x (l ∷ a) b (inl e) = inl e
stands_left x (l ∷ a) b (inr h) = inr (stands_left x a b h)

pub stands_right : (x : ℕ) (a b : List Lift) → Stands x b → Stands x (a ++ b)
stands_right x [] b h = h
stands_right x (l ∷ a) b h = inr (stands_right x a b h)

pub stands_either : (x : ℕ) (a b : List Lift) → Stands x (a ++ b) → Stands x a ⊎ Stands x b
stands_either x [] b h = inr h
stands_either x (l ∷ a) b (inl e) = inl (inl e)
stands_either x (l ∷ a) b (inr h) = over (stands_either x a b h)
  where
    over : Stands x a ⊎ Stands x b → Stands x (l ∷ a) ⊎ Stands x b
    over (inl h) = inl (inr h)
    over (inr h) = inr h

pub all_found : (rs : List Record) (a b : List Lift) → AllFound rs a → AllFound rs b → AllFound rs (a ++ b)
all_found rs [] b f g = g
all_found rs (l ∷ a) b f g = (f.0, all_found rs a b f.1 g)

pub found_left : (rs : List Record) (a b : List Lift) → AllFound rs (a ++ b) → AllFound rs a
found_left rs [] b f = tt
found_left rs (l ∷ a) b f = (f.0, found_left rs a b f.1)

pub found_right : (rs : List Record) (a b : List Lift) → AllFound rs (a ++ b) → AllFound rs b
found_right rs [] b f = f
found_right rs (l ∷ a) b f = found_right rs a b f.1

-- a lift at the place, or none
pub at-or_none : (rs : List Record) (ls : List Lift) (x : ℕ) → AllFound rs ls → ((l : Lift) × Found rs l × (l.at ≡ x)) ⊎ (Stands x ls → ⊥)
at-or_none rs [] x f = inr (λ h. h)
at-or_none rs (l ∷ ls) x f = of (eqb l.at x) refl (at-or_none rs ls x f.1)
  where
    of : (b : Bool) → eqb l.at x ≡ b → ((l : Lift) × Found rs l × (l.at ≡ x)) ⊎ (Stands x ls → ⊥) → ((l : Lift) × Found rs l × (l.at ≡ x)) ⊎ (Stands x (l ∷ ls) → ⊥)
    of true e h = inl (l, f.0, eqb-true l.at x e)
    of false e (inl h) = inl h
    of false e (inr n) = inr (λ k. none e n k)
      where
        none : eqb l.at x ≡ false → (Stands x ls → ⊥) → (l.at ≡ x) ⊎ Stands x ls → ⊥
        none e n (inl k) = eqb-false l.at x e k
        none e n (inr k) = n k
