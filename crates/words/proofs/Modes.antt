-- Which words ask for which mode, case by case.
use Rattle.std.proofs.Common.{◌≡◌, ℕ, ◌<◌, ◌≤◌, Bool, true, false, List, [], ◌∷◌, refl, sym, ◌∙◌, arith}
use Rattle.std.specs.Prelude.{Some, None}
use borrow.Author.Tests.{lt-ltb, le-ltb}
use mathlib.Core.Bool.{cond, ◌&&◌}
use lib.Dec.{eqb}
use Rattle.std.specs.Str.{bytes_eq}
use Rattle.definition.specs.Names.{eq_name}
use Rattle.words.specs.declared.Mode.TheVariants.{Plain, Nested}
use Rattle.words.specs.Mode.{mode_of, w_nested}

both : (t r : Bool) → (t && r) ≡ cond t r false
both true r = refl
both false r = refl

-- "Identifiers are equal when their names are."
bytes_same : (a b : List ℕ) → bytes_eq a b ≡ eq_name a b
unfolding eq_name
bytes_same [] [] = refl
bytes_same [] (y ∷ ys) = refl
bytes_same (x ∷ xs) [] = refl
bytes_same (x ∷ xs) (y ∷ ys) = rw (bytes_same xs ys) (both (eqb x y) (eq_name xs ys))

pub few : (n : ℕ) (w : List ℕ) → n < 2 → Some Plain ≡ mode_of n w
few n w h = rw (lt-ltb n 2 h)

pub many : (n : ℕ) (w : List ℕ) → 2 < n → None ≡ mode_of n w
many n w h = rw (le-ltb n 2 (omega arith), lt-ltb 2 n h)

pub asked : (n : ℕ) (w : List ℕ) (same : Bool) → 2 ≤ n → n ≤ 2 → same ≡ bytes_eq w w_nested → same ≡ true → Some Nested ≡ mode_of n w
asked n w same h k e t = rw (le-ltb n 2 h, le-ltb 2 n k, ← (bytes_same w w_nested), sym e ∙ t)

pub other : (n : ℕ) (w : List ℕ) (same : Bool) → 2 ≤ n → n ≤ 2 → same ≡ bytes_eq w w_nested → same ≡ false → None ≡ mode_of n w
other n w same h k e t = rw (le-ltb n 2 h, le-ltb 2 n k, ← (bytes_same w w_nested), sym e ∙ t)
