-- The two marks of a call.
-- Assumes nothing.
use mathlib.Core.Path.{◌≡◌, ap}
use mathlib.Core.List.{List, [], ◌∷◌}
use Prim.Native.Nat.{ℕ, ◌%◌}
use Rattle.buffer.specs.writes.Buf.{Wrote}
use Rattle.buffer.proofs.writes.Wrote.{glue}
use Rattle.walker.specs.declared.walk.Walk.{Walk}
use Rattle.walker.specs.walk.Steps.{walk}
use Rattle.walker.specs.marks.Steps.{mark_at}

-- two numbers, one after the other
pub marked : (w : Walk) (at end : ℕ) {m m₁ m₂ : List ℕ} {n₁ n₂ : ℕ} → Wrote m w.n (at % 65536 ∷ []) m₁ n₁ → Wrote m₁ n₁ (end % 65536 ∷ []) m₂ n₂
    → (walk end n₂ w.left w.plain ≡ (mark_at w at end m).0) × (m₂ ≡ (mark_at w at end m).1)
unfolding mark_at
marked w at end a b = let g = glue a b in (ap (λ (n : ℕ). walk end n w.left w.plain) g.place, g.holds)
