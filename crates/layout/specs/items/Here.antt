-- Where bytes stand.
use Rattle.std.specs.Prelude.{List, ◌≡◌, ℕ, ◌≤◌, length, drop}

-- at place p of s the bytes l stand, and they are all that follow
pub record Here (s : List ℕ) (p : ℕ) (l : List ℕ) : Type 0 where
  pub is : drop p s ≡ l
  pub reach : p ≤ length s
