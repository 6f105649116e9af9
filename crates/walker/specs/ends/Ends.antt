-- Where inners end, and a table that remembers it.
use Rattle.std.specs.Prelude.{List, [], ◌∷◌, true, ◌≡◌, ℕ, ◌+◌, ◌≤◌, ◌<◌, length, get_or}
use Rattle.definition.specs.Tree.{Inner}
use Rattle.definition.specs.Write.{w_inner}
use Rattle.laws.proofs.Sizes.{size_i}
use Rattle.layout.specs.items.Here.{Here}
use Rattle.walker.specs.walk.Steps.{walk}
use Rattle.walker.specs.calls.Walk.{skip_at}

-- where the inner at a place ends, by the walker over calls. It has fewer levels than bytes
unfoldable pub inner_end_of : List ℕ → ℕ → ℕ
inner_end_of s at = (skip_at (length s) s (walk at 0 0 true) (0 ∷ [])).0.at

-- every entry of the table is right, and 0 is none; which places have one is nobody's business
pub record Right (s ends : List ℕ) : Type 0 where
  pub right : (p : ℕ) (i : Inner) (z : List ℕ) → Here s p (w_inner i z) → 0 < get_or ends p 0 → get_or ends p 0 ≡ p + size_i i

-- an inner stands at a place
pub record Stood (s : List ℕ) (at : ℕ) : Type 0 where
  pub what : Inner
  pub after : List ℕ
  pub here : Here s at (w_inner what after)
  pub short : length s ≤ 65535
