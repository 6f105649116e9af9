-- Laws of uses, in the code's own terms.
-- Assumes nothing.
use mathlib.Core.Path.{◌≡◌, refl, ap, ◌∙◌}
use mathlib.Core.Logic.{⊎_elim}
use mathlib.Core.Bool.{true, false}
use lib.Dec.{eqb, ltb}
use mathlib.Core.List.{[], ◌∷◌}
use Prim.Native.Nat.{ℕ, suc, ◌+◌, ◌≤◌}
use native.Mathlib.Omega.{arith}
use lib.ListN.{length}
use borrow.Author.Tests.{ltb-false}
use Rattle.std.specs.Prelude.{cond, Option, None, Some, unwrap_or}
use Rattle.std.specs.List.{position_or_len}
use Rattle.laws.proofs.Tests.{yes_no}
use Rattle.definition.specs.Tree.{Name}
use Rattle.definition.specs.Names.{root}

-- the part before the first '.' is no longer than the name
pub root_short : (m : Name) → length (root m) ≤ length m
unfolding root
root_short [] = omega arith
root_short (b ∷ m) = ⊎_elim
    (λ (e : eqb b 46 ≡ true). rw e (omega arith))
    (λ (e : eqb b 46 ≡ false). rw e (let h = root_short m in omega arith))
    (yes_no (eqb b 46))

-- the part before the first '.' is as long as the place of that says
pub root_is : (n : Name) → length (root n) ≡ position_or_len (λ b. eqb b 46) n
unfolding root
root_is [] = refl
root_is (b ∷ n) = ⊎_elim
    (λ (e : eqb b 46 ≡ true). rw e)
    (λ (e : eqb b 46 ≡ false). rw e (ap suc (root_is n) ∙ (let z : suc (position_or_len (λ b. eqb b 46) n) ≡ 1 + position_or_len (λ b. eqb b 46) n = omega arith in z)))
    (yes_no (eqb b 46))

pub root_found : (n : Name) (p : Option ℕ) → p ≡ cond (ltb (position_or_len (λ b. eqb b 46) n) (length n)) (Some (position_or_len (λ b. eqb b 46) n)) None → unwrap_or p (length n) ≡ length (root n)
root_found n p e = ⊎_elim
    (λ (q : ltb (position_or_len (λ b. eqb b 46) n) (length n) ≡ true). rw (e, q, root_is n))
    (λ (q : ltb (position_or_len (λ b. eqb b 46) n) (length n) ≡ false).
    let l = ltb-false _ _ q in
    let m = root_is n in
    let k = root_short n in
    rw (e, q) (let z : length n ≡ length (root n) = omega arith in z))
    (yes_no (ltb (position_or_len (λ b. eqb b 46) n) (length n)))
