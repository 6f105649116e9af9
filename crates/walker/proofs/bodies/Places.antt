-- A test of every marked place, one pair of marks after the other: two marks for each call.
-- Assumes nothing.
use mathlib.Core.Path.{◌≡◌, refl, ap, ◌∙◌}
use mathlib.Core.List.{List, [], ◌∷◌, ◌++◌}
use mathlib.Core.Bool.{Bool, true, false, ◌&&◌}
use Prim.Native.Nat.{ℕ, ◌<◌}
use native.Mathlib.Omega.{arith}
use lib.ListN.{length, get_or}
use Rattle.walker.specs.pieces.Marked.{every_place}

two : (p marks : List ℕ) → length p ≡ 2 → p ++ marks ≡ get_or p 0 0 ∷ get_or p 1 0 ∷ marks
two [] marks e = absurd (omega arith)
two (a ∷ []) marks e = absurd (omega arith)
two (a ∷ b ∷ []) marks e = refl
two (a ∷ b ∷ c ∷ p) marks e = absurd (omega arith)

-- a pair of marks that comes off the front
pub pair : (p : List ℕ) {s marks : List ℕ} → s ≡ p ++ marks → length p ≡ 2 → {a b : ℕ} → a ≡ get_or p 0 0 → b ≡ get_or p 1 0 → s ≡ a ∷ b ∷ marks
pair p {s} {marks} e l ha hb = rw (ha, hb) (e ∙ two p marks l)

module _ (test : ℕ → Bool) {s marks : List ℕ} {a b : ℕ} (e : s ≡ a ∷ b ∷ marks) {r : Bool} (q : r ≡ test a) where
  every_on : every_place test s ≡ r && every_place test marks
  unfolding every_place
  every_on = ap (every_place test) e ∙ rw q

  pub every_next : r ≡ true → every_place test s ≡ every_place test marks
  every_next t = every_on ∙ rw t

  pub every_stop : r ≡ false → every_place test s ≡ false
  every_stop t = every_on ∙ rw t

pub every_end : (test : ℕ → Bool) (s : List ℕ) → length s < 2 → every_place test s ≡ true
unfolding every_place
every_end test [] k = refl
every_end test (a ∷ []) k = refl
every_end test (a ∷ b ∷ l) k = absurd (omega arith)
