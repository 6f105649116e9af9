-- That a table of the names taken is right is a fact: there is one proof of it at most. A struct that holds such a table can say so.
-- Assumes nothing.
use mathlib.Core.Logic.{◌⊎◌, inl, inr}
use mathlib.Core.Path.{ap}
use mathlib.Core.HLevel.{⊥_prop}
use native.Mathlib.Bridge.{le_prop}
use native.Mathlib.Omega.{arith}
use denote.Struct.Props.{props}
use Rattle.std.specs.Prelude.{◌≡◌, List, ℕ, zero, suc, ◌-◌, ◌/◌, ◌%◌, ◌≤◌, ◌<◌, length, get_or}
use Rattle.definition.specs.Tree.{Name}
use Rattle.name_table.specs.forks.Forks.{fork_at}
use Rattle.name_table.specs.forks.Leads.{Ends, Leads}
use Rattle.name_table.specs.taken.Taken.{Store, Table}

-- what shows itself of one that is there
given : {A : Type 0} → (A → IsProp A) → IsProp A
given f x y = f x x y

apart : {A B : Type 0} → IsProp A → IsProp B → (A → B → ⊥) → IsProp (A ⊎ B)
apart p q d (inl a) (inl b) = ap inl (p a b)
apart p q d (inl a) (inr b) = absurd (d a b)
apart p q d (inr a) (inl b) = absurd (d b a)
apart p q d (inr a) (inr b) = ap inr (q a b)

module _ (t : List ℕ) (m : Name) (n : ℕ) (few : n ≤ 65535) where
  ends : (k x : ℕ) → IsProp (Ends t m n k x)
  unfolding Ends
  ends zero x = ⊥_prop
  ends (suc k) x =
      let d = ends k (fork_at m (get_or t x 0 - 65536)) in
      let e : IsProp ((get_or t x 0 ≤ n) ⊎ ((65536 ≤ get_or t x 0) × ((get_or t x 0 - 65536) / 4096 < n) × Ends t m n k (fork_at m (get_or t x 0 - 65536)))) =
      apart le_prop (hlevel (props, d)) (λ a b. let z = b.0 in omega arith) in
      hlevel (props, e)

  begins : (k : ℕ) → IsProp ((get_or t (length m % 256) 0 ≡ 0) ⊎ Ends t m n k (length m % 256))
  unfolding Ends
  begins zero = apart (hlevel props) ⊥_prop (λ a b. b)
  begins (suc k) = apart (hlevel props) (ends (suc k) (length m % 256)) (λ a b. let z = b.1 in omega arith)

leads : (f : ℕ → Name) (t : List ℕ) (n : ℕ) → IsProp (Leads f t n)
leads f t n = given (λ l. let e = λ (m : Name). begins t m n l.few n in hlevel (props, e))

pub Table-prop : (names : Store) (places ways : List ℕ) (n : ℕ) → IsProp (Table names places ways n)
Table-prop names places ways n = hlevel (props, leads)
