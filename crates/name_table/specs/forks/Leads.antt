-- What a table of ways is to say: each name's way leads to the first row of that name.
-- Assumes nothing.
use Rattle.std.specs.Prelude.{◌≡◌, ◌⊎◌, List, ℕ, zero, suc, ◌+◌, ◌*◌, ◌-◌, ◌/◌, ◌%◌, ◌≤◌, ◌<◌, length, get_or}
use Rattle.definition.specs.Tree.{Name}
use Rattle.name_table.specs.forks.Forks.{fork_at, slot_of, row_at}

unfoldable pub row_of : List ℕ → Name → ℕ → ℕ
row_of t m n = row_at t (slot_of t m n) n

-- the way of a name from x on ends within k steps, at one of the first n rows, and meets none of the others
unfoldable pub Ends : List ℕ → Name → ℕ → ℕ → ℕ → Type 0
Ends t m n zero x = ⊥
Ends t m n (suc k) x = (x < 256 + 2 * n) × (0 < get_or t x 0)
    × ((get_or t x 0 ≤ n) ⊎ ((65536 ≤ get_or t x 0) × ((get_or t x 0 - 65536) / 4096 < n) × Ends t m n k (fork_at m (get_or t x 0 - 65536))))

-- the first n rows, row i with the name f i: the way of any name ends, and what it leads to is as long; the way of a row's name leads to the first row of that name
pub record Leads (f : ℕ → Name) (t : List ℕ) (n : ℕ) : Type 0 where
  pub few : n ≤ 65535
  pub long : 256 + 2 * n ≤ length t
  pub ends : (m : Name) → (get_or t (length m % 256) 0 ≡ 0) ⊎ Ends t m n n (length m % 256)
  pub alike : (m : Name) → row_of t m n < n → length (f (row_of t m n)) % 256 ≡ length m % 256
  pub first : (i : ℕ) → i < n → row_of t (f i) n ≤ i
  pub is : (i : ℕ) → i < n → f (row_of t (f i) n) ≡ f i

-- a table in which no way has begun
pub record Clear (t : List ℕ) : Type 0 where
  pub heads : (x : ℕ) → x < 256 → get_or t x 0 ≡ 0
