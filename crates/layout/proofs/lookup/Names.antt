-- Laws of names: equality, and the name that stands at a place.
-- Assumes nothing.
use mathlib.Core.Path.{◌≡◌, refl, sym, ap, ◌∙◌}
use mathlib.Core.Logic.{⊎_elim}
use mathlib.Core.List.{List, [], ◌∷◌, ◌++◌}
use mathlib.Core.Bool.{Bool, true, false, cond, ◌&&◌}
use Prim.Native.Nat.{ℕ, ◌+◌, ◌-◌, ◌≤◌, ◌<◌}
use native.Mathlib.Omega.{arith}
use native.Mathlib.Numerals.{add-one}
use lib.Dec.{eqb}
use lib.Pointwise.{pointwise}
use lib.ListN.{length, get_or, drop, drop_of_length-le, length-take, length-drop}
use lib.Seq.{drop-cons, take-append_seam, take-nil, take_all, drop-drop, get_or-drop}
use borrow.Author.Tests.{eq-eqb}
use Rattle.definition.specs.Tree.{Name}
use Rattle.definition.specs.Names.{eq_name}
use Rattle.definition.specs.Write.{w_name}
pub use Rattle.laws.proofs.Tests.{yes_no, not_both}
pub use Rattle.laws.proofs.Members.{eq_name_refl, eq_name-true}
use Rattle.layout.specs.lookup.Name.{name_at}

-- two names from their first bytes on
pub eq_head : (x y : ℕ) (xs ys : Name) → x ≡ y → eq_name (x ∷ xs) (y ∷ ys) ≡ eq_name xs ys
unfolding eq_name
eq_head x y xs ys e = rw (eq-eqb x y e)

pub ne_name : (a b : Name) → (a ≡ b → ⊥) → eq_name a b ≡ false
ne_name a b f = ⊎_elim (λ e. absurd (f (eq_name-true a b e))) (λ e. e) (yes_no (eq_name a b))

-- names of different length are different
pub ne_length : (a b : Name) → (length a ≡ length b → ⊥) → eq_name a b ≡ false
ne_length a b f = ne_name a b (λ e. f (ap length e))

-- the library's equality of lists, item by item, is that of names
pub by_item : (a b : Name) → pointwise eqb a b ≡ eq_name a b
unfolding eq_name
by_item [] [] = refl
by_item [] (y ∷ b) = refl
by_item (x ∷ a) [] = refl
by_item (x ∷ a) (y ∷ b) = rw (by_item a b) (both (eqb x y) (eq_name a b))
  where
    both : (p q : Bool) → (p && q) ≡ cond p q false
    both true q = refl
    both false q = refl

-- byte by byte
module _ (a b : Name) (i : ℕ) (h : i < length a) (k : length a ≡ length b) where
  heads : eq_name (drop i a) (drop i b) ≡ eq_name (get_or a i 0 ∷ drop (i + 1) a) (get_or b i 0 ∷ drop (i + 1) b)
  heads = rw (add-one i, drop-cons a i 0 h, drop-cons b i 0 (omega arith))

  pub same_on : get_or a i 0 ≡ get_or b i 0 → eq_name (drop i a) (drop i b) ≡ eq_name (drop (i + 1) a) (drop (i + 1) b)
  same_on e = heads ∙ eq_head _ _ _ _ e

pub same_end : (a b : Name) (i : ℕ) → length a ≤ i → length a ≡ length b → eq_name (drop i a) (drop i b) ≡ true
same_end a b i h k = rw (drop_of_length-le a {i = i} h, drop_of_length-le b {i = i} (omega arith)) (eq_name_refl [])

-- a name that the writer put there
pub stands : (s : List ℕ) (at : ℕ) (n r : List ℕ) → drop at s ≡ w_name n r → name_at s at ≡ n
unfolding name_at w_name
stands s at n r e =
    let l : get_or s at 0 ≡ length n = sym (get_or_first s at) ∙ ap (λ (t : List ℕ). get_or t 0 0) e in
    let t : drop (at + 1) s ≡ n ++ r = sym (drop-drop 1 at s) ∙ ap (drop 1) e in
    rw (l, t) (take-append_seam n r)
  where
    get_or_first : (s : List ℕ) (at : ℕ) → get_or (drop at s) 0 0 ≡ get_or s at 0
    get_or_first s at = get_or-drop at s 0 0 ∙ (let z : at + 0 ≡ at = omega arith in rw z)

-- the three ways in which a place can lie
pub name_none : (s : List ℕ) (at : ℕ) → length s ≤ at → name_at s at ≡ []
unfolding name_at
name_none s at h = rw (drop_of_length-le s {i = at + 1} (omega arith)) (take-nil (get_or s at 0))

pub name_cut : (s : List ℕ) (at : ℕ) → length s - (at + 1) ≤ get_or s at 0 → name_at s at ≡ drop (at + 1) s
unfolding name_at
name_cut s at h = take_all (get_or s at 0) (drop (at + 1) s) (rw length-drop h)

pub length_name : (s : List ℕ) (at : ℕ) → length (name_at s at) ≤ get_or s at 0
unfolding name_at
length_name s at = rw length-take (omega arith)
