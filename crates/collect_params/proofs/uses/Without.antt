-- Lists of names without those that are bound, and the name that a use means.
-- Assumes nothing.
use mathlib.Core.Path.{◌≡◌, refl, ap, ◌∙◌}
use mathlib.Core.Logic.{⊎_elim}
use mathlib.Core.List.{List, [], ◌∷◌, ◌++◌}
use mathlib.Core.Bool.{Bool, true, false, cond}
use Prim.Native.Nat.{ℕ, ◌+◌, ◌*◌, ◌/◌, ◌%◌, ◌≤◌, ◌<◌, min}
use native.Mathlib.Omega.{arith}
use lib.Dec.{eqb}
use lib.ListN.{length, take}
use lib.Seq.{take-append_seam}
use Rattle.definition.specs.Tree.{Name}
use Rattle.definition.specs.Names.{eq_name, elem, remove, root}
use Rattle.definition.specs.Write.{w_name}
use Rattle.laws.proofs.Tests.{yes_no}
use Rattle.laws.proofs.Members.{eq_name-true, eq_name_swap}
use Rattle.layout.specs.lookup.Name.{name_at}
use Rattle.layout.proofs.lookup.Names.{stands}
use Rattle.layout.specs.items.At.{byte_at, past_at, pick}
use Rattle.layout.specs.items.Here.{Here}
use Rattle.layout.proofs.items.Here.{byte_here, next_here}
use Rattle.collect_params.proofs.uses.Uses.{root_short}
use Rattle.collect_params.specs.uses.Uses.{use_of_of, name_in, names_in_of, use_at_of}

-- the names that are not among the bound ones
unfoldable pub without : List Name → List Name → List Name
without bound [] = []
without bound (n ∷ ns) = let r = without bound ns in cond (elem n bound) r (n ∷ r)

pub without-append : (bound a b : List Name) → without bound (a ++ b) ≡ without bound a ++ without bound b
unfolding without
without-append bound [] b = refl
without-append bound (n ∷ a) b = ⊎_elim
    (λ (e : elem n bound ≡ true). rw e (without-append bound a b))
    (λ (e : elem n bound ≡ false). rw e (ap (λ (l : List Name). n ∷ l) (without-append bound a b)))
    (yes_no (elem n bound))

pub without_none : (ns : List Name) → without [] ns ≡ ns
unfolding without elem
without_none [] = refl
without_none (n ∷ ns) = ap (λ (l : List Name). n ∷ l) (without_none ns)

pub without_here : (bound : List Name) (n : Name) → elem n bound ≡ true → without bound (n ∷ []) ≡ []
unfolding without
without_here bound n e = rw e

pub without_new : (bound : List Name) (n : Name) → elem n bound ≡ false → without bound (n ∷ []) ≡ n ∷ []
unfolding without
without_new bound n e = rw e

eq_name_sym : (a b : Name) → eq_name a b ≡ eq_name b a
eq_name_sym a b = ⊎_elim
    (λ (p : eq_name a b ≡ true). let q = eq_name-true a b p in rw q)
    (λ (p : eq_name a b ≡ false). rw (p, eq_name_swap a b p))
    (yes_no (eq_name a b))

-- one more name that is bound is a name removed
pub without_bind : (l : Name) (bound ns : List Name) → without (l ∷ bound) ns ≡ without bound (remove l ns)
unfolding without remove elem
without_bind l bound [] = refl
without_bind l bound (n ∷ ns) = rw (eq_name_sym n l) (⊎_elim
    (λ (e : eq_name l n ≡ true). rw e (without_bind l bound ns))
    (λ (e : eq_name l n ≡ false). rw (e, without_bind l bound ns))
    (yes_no (eq_name l n)))

pub names_append : (s a b : List ℕ) → names_in_of s (a ++ b) ≡ names_in_of s a ++ names_in_of s b
unfolding names_in_of
names_append s [] b = refl
names_append s (x ∷ a) b = ap (λ (l : List Name). name_in s x ∷ l) (names_append s a b)

-- the part before the first '.'
root-take : (m z : List ℕ) → take (length (root m)) (m ++ z) ≡ root m
unfolding root
root-take [] z = refl
root-take (b ∷ m) z = ⊎_elim
    (λ (e : eqb b 46 ≡ true). rw e)
    (λ (e : eqb b 46 ≡ false). rw e (ap (λ (l : List ℕ). b ∷ l) (root-take m z)))
    (yes_no (eqb b 46))

abbrev pub cut_by : Bool → Name → Name
cut_by cut m = pick cut (root m) m

cut_short : (cut : Bool) (m : Name) → length (cut_by cut m) ≤ length m
cut_short true m = root_short m
cut_short false m = omega arith

cut-take : (cut : Bool) (m z : List ℕ) → take (length (cut_by cut m)) (m ++ z) ≡ cut_by cut m
cut-take true m z = root-take m z
cut-take false m z = take-append_seam m z

-- where a name stands, its use means it
pub use-here : {s : List ℕ} {p : ℕ} → ((i : ℕ) → byte_at s i < 256) → length s < 16777216 → (cut : Bool) (m z : List ℕ) → Here s p (w_name m z) → name_in s (use_at_of s p cut) ≡ cut_by cut m
unfolding w_name name_in use_at_of use_of_of past_at
use-here {s} {p} small short cut m z h =
    let n : ℕ = length (cut_by cut m) in
    let a : ℕ = min (p + 1) (length s) in
    let named : name_at s p ≡ m = stands s p m z h.is in
    let long : length m < 256 = rw (byte_here h) at (small p) in
    let less : n ≤ length m = cut_short cut m in
    let x : ℕ = a % 16777216 * 256 + n % 256 in
    let place : x / 256 ≡ a = omega arith in
    let len : x % 256 ≡ n = omega arith in
    rw (named, place, len) (ap (take n) (next_here h).is ∙ cut-take cut m z)
