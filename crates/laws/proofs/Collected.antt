-- What is collected, and a leftover macro call, are what the walk of specs/Collected finds.
use mathlib.Core.Path.{◌≡◌, refl, sym, ◌∙◌}
use mathlib.Core.Logic.{◌⊎◌, inl, inr, ⊎_elim}
use mathlib.Core.List.Memᴰ
use mathlib.Core.List.{List, [], ◌∷◌, ◌++◌, Memᴰ}
use mathlib.Core.Bool.{Bool, true, false, ◌||◌}
use Rattle.definition.specs.Tree.{Name, FieldKind, ordinary, dependent, Combinator, plain, chained, Inner, leaf, struct, choice, shell, bytes, invocation, macro_invocation, Fields, no_field, field, const, Cases, no_case, case}
use Rattle.definition.specs.Names.{eq_name, remove}
use Rattle.definition.specs.Collect.{bytes_or_tail, only, only_if, selector_uses, shell_uses, unbound, free, free_i, free_f, free_c, leftover, leftover_i, leftover_f, leftover_c}
use Rattle.laws.specs.Collected.{Found, FoundI, FoundF, FoundC, Use, Unbound, MacroCall, Anyhow}
use Rattle.laws.specs.Laws.{FreeIsFound, LeftoverIsFound}
use Rattle.laws.proofs.Tests.{by_test, not_both, either}
use Rattle.laws.proofs.Members.{eq_name-true, eq_name_refl}

-- names without one of them
pub stays : (l n : Name) (ns : List Name) → (n ≡ l → ⊥) → Memᴰ n ns → Memᴰ n (remove l ns)
unfolding remove
stays l n [] h w = absurd (Memᴰ.not-nil w)
stays l n (m ∷ ns) h w = by_test (eq_name l m)
    (λ q. rw q (⊎_elim (λ e. absurd (h (e ∙ sym (eq_name-true l m q)))) (λ t. stays l n ns h t) (Memᴰ.cases_cons w)))
    (λ q. rw q (⊎_elim (λ e. Memᴰ.head e) (λ t. Memᴰ.tail (stays l n ns h t)) (Memᴰ.cases_cons w)))

pub stayed : (l n : Name) (ns : List Name) → Memᴰ n (remove l ns) → (n ≡ l → ⊥) × Memᴰ n ns
unfolding remove
stayed l n [] w = absurd (Memᴰ.not-nil w)
stayed l n (m ∷ ns) w = by_test (eq_name l m)
    (λ q. let v = stayed l n ns (rw q at w) in (v.0, Memᴰ.tail v.1))
    (λ q. ⊎_elim
    (λ e. ((λ e₂. not_both (eq_name l m) (rw (← e, e₂) (eq_name_refl l)) q), Memᴰ.head e))
    (λ t. let v = stayed l n ns t in (v.0, Memᴰ.tail v.1))
    (Memᴰ.cases_cons (rw q at w)))

-- past a field, and into a chain
past : (k : FieldKind) (l n : Name) (ns : List Name) → Unbound n k l → Memᴰ n ns → Memᴰ n (unbound k l ns)
unfolding unbound
past ordinary l n ns h w = w
past dependent l n ns h w = stays l n ns h w

passed : (k : FieldKind) (l n : Name) (ns : List Name) → Memᴰ n (unbound k l ns) → Unbound n k l × Memᴰ n ns
unfolding unbound
passed ordinary l n ns w = (tt, w)
passed dependent l n ns w = stayed l n ns w

in-only : (b : Bool) (n : Name) (ns : List Name) → b ≡ true → Memᴰ n ns → Memᴰ n (only b ns)
in-only true n ns e w = w
in-only false n ns e w = not_both false e refl

of_only : (b : Bool) (n : Name) (ns : List Name) → Memᴰ n (only b ns) → (b ≡ true) × Memᴰ n ns
of_only true n ns w = (refl, w)
of_only false n ns w = absurd (Memᴰ.not-nil w)

module _ {X Y A B : Type 0} where
  both_ways : (X → A) → (Y → B) → X ⊎ Y → A ⊎ B
  both_ways f g w = ⊎_elim (λ x. inl (f x)) (λ y. inr (g y)) w

module _ {X Y : Type 0} where
  to_append : (n : Name) (a b : List Name) → (X → Memᴰ n a) → (Y → Memᴰ n b) → X ⊎ Y → Memᴰ n (a ++ b)
  to_append n a b f g w = ⊎_elim (λ x. Memᴰ.append_left b (f x)) (λ y. Memᴰ.append_right a (g y)) w

-- a free name has a use that the walk finds
module _ (n : Name) where
  mutual
    unfolding free

    free_found : (c : Combinator) → Memᴰ n (free c) → Found (Use n) (Unbound n) c
    free_found (plain i) w = free_found_i i w
    free_found (chained i c) w = both_ways (λ a. free_found_i i a) (λ b. let v = of_only (bytes_or_tail i) n (free c) b in (v.0, free_found c v.1)) (Memᴰ.append_cases (free_i i) w)

    free_found_i : (i : Inner) → Memᴰ n (free_i i) → FoundI (Use n) (Unbound n) i
    free_found_i (leaf k x) w = Memᴰ.not-nil w
    free_found_i (struct f) w = inr (free_found_f f w)
    free_found_i (choice s k f) w = both_ways (λ a. a) (λ b. free_found_c f b) (Memᴰ.append_cases (selector_uses s) w)
    free_found_i (shell x c) w = both_ways (λ a. a) (λ b. free_found c b) (Memᴰ.append_cases (shell_uses x) w)
    free_found_i (bytes l) w = w
    free_found_i (invocation m a) w = w
    free_found_i (macro_invocation m a) w = Memᴰ.not-nil w

    free_found_f : (f : Fields) → Memᴰ n (free_f f) → FoundF (Use n) (Unbound n) f
    free_found_f no_field w = Memᴰ.not-nil w
    free_found_f (field k l c f) w = both_ways (λ a. free_found c a) (λ b. let v = passed k l n (free_f f) b in (v.0, free_found_f f v.1)) (Memᴰ.append_cases (free c) w)
    free_found_f (const l x f) w = free_found_f f w

    free_found_c : (f : Cases) → Memᴰ n (free_c f) → FoundC (Use n) (Unbound n) f
    free_found_c no_case w = Memᴰ.not-nil w
    free_found_c (case l c f) w = both_ways (λ a. free_found c a) (λ b. free_found_c f b) (Memᴰ.append_cases (free c) w)

  -- and such a use makes its name free
  mutual
    unfolding free

    found_free : (c : Combinator) → Found (Use n) (Unbound n) c → Memᴰ n (free c)
    found_free (plain i) w = found_free_i i w
    found_free (chained i c) w = to_append n (free_i i) (only (bytes_or_tail i) (free c)) (λ a. found_free_i i a) (λ b. in-only (bytes_or_tail i) n (free c) b.0 (found_free c b.1)) w

    found_free_i : (i : Inner) → FoundI (Use n) (Unbound n) i → Memᴰ n (free_i i)
    found_free_i (leaf k x) w = absurd w
    found_free_i (struct f) w = ⊎_elim (λ a. absurd a) (λ b. found_free_f f b) w
    found_free_i (choice s k f) w = to_append n (selector_uses s) (free_c f) (λ a. a) (λ b. found_free_c f b) w
    found_free_i (shell x c) w = to_append n (shell_uses x) (free c) (λ a. a) (λ b. found_free c b) w
    found_free_i (bytes l) w = w
    found_free_i (invocation m a) w = w
    found_free_i (macro_invocation m a) w = absurd w

    found_free_f : (f : Fields) → FoundF (Use n) (Unbound n) f → Memᴰ n (free_f f)
    found_free_f no_field w = absurd w
    found_free_f (field k l c f) w = to_append n (free c) (unbound k l (free_f f)) (λ a. found_free c a) (λ b. past k l n (free_f f) b.0 (found_free_f f b.1)) w
    found_free_f (const l x f) w = found_free_f f w

    found_free_c : (f : Cases) → FoundC (Use n) (Unbound n) f → Memᴰ n (free_c f)
    found_free_c no_case w = absurd w
    found_free_c (case l c f) w = to_append n (free c) (free_c f) (λ a. found_free c a) (λ b. found_free_c f b) w

pub free_is_found : FreeIsFound
free_is_found c n = ((λ w. free_found n c w), (λ w. found_free n c w))

-- a macro call that is left over is one that the walk finds
only_true : (a b : Bool) → only_if a b ≡ true → (a ≡ true) × (b ≡ true)
only_true true b e = (refl, e)
only_true false b e = not_both false e refl

or_left : (a b : Bool) → a ≡ true → a || b ≡ true
or_left true b e = refl
or_left false b e = not_both false e refl

or_right : (a b : Bool) → b ≡ true → a || b ≡ true
or_right true b e = refl
or_right false b e = e

if_true : (a b : Bool) → a ≡ true → b ≡ true → only_if a b ≡ true
if_true true b e h = h
if_true false b e h = e

module _ {X Y : Type 0} where
  to_or : (a b : Bool) → (X → a ≡ true) → (Y → b ≡ true) → X ⊎ Y → a || b ≡ true
  to_or a b f g w = ⊎_elim (λ x. or_left a b (f x)) (λ y. or_right a b (g y)) w

mutual
  unfolding leftover

  left_found : (c : Combinator) → leftover c ≡ true → Found MacroCall Anyhow c
  left_found (plain i) e = left_found_i i e
  left_found (chained i c) e = both_ways (λ a. left_found_i i a) (λ b. let v = only_true (bytes_or_tail i) (leftover c) b in (v.0, left_found c v.1)) (either (leftover_i i) (only_if (bytes_or_tail i) (leftover c)) e)

  left_found_i : (i : Inner) → leftover_i i ≡ true → FoundI MacroCall Anyhow i
  left_found_i (leaf k x) e = not_both false e refl
  left_found_i (struct f) e = inr (left_found_f f e)
  left_found_i (choice s k f) e = inr (left_found_c f e)
  left_found_i (shell x c) e = inr (left_found c e)
  left_found_i (bytes l) e = not_both false e refl
  left_found_i (invocation n a) e = not_both false e refl
  left_found_i (macro_invocation n a) e = tt

  left_found_f : (f : Fields) → leftover_f f ≡ true → FoundF MacroCall Anyhow f
  left_found_f no_field e = not_both false e refl
  left_found_f (field k l c f) e = both_ways (λ a. left_found c a) (λ b. (tt, left_found_f f b)) (either (leftover c) (leftover_f f) e)
  left_found_f (const l x f) e = left_found_f f e

  left_found_c : (f : Cases) → leftover_c f ≡ true → FoundC MacroCall Anyhow f
  left_found_c no_case e = not_both false e refl
  left_found_c (case l c f) e = both_ways (λ a. left_found c a) (λ b. left_found_c f b) (either (leftover c) (leftover_c f) e)

mutual
  unfolding leftover

  found_left : (c : Combinator) → Found MacroCall Anyhow c → leftover c ≡ true
  found_left (plain i) w = found_left_i i w
  found_left (chained i c) w = to_or (leftover_i i) (only_if (bytes_or_tail i) (leftover c)) (λ a. found_left_i i a) (λ b. if_true (bytes_or_tail i) (leftover c) b.0 (found_left c b.1)) w

  found_left_i : (i : Inner) → FoundI MacroCall Anyhow i → leftover_i i ≡ true
  found_left_i (leaf k x) w = absurd w
  found_left_i (struct f) w = ⊎_elim (λ a. absurd a) (λ b. found_left_f f b) w
  found_left_i (choice s k f) w = ⊎_elim (λ a. absurd a) (λ b. found_left_c f b) w
  found_left_i (shell x c) w = ⊎_elim (λ a. absurd a) (λ b. found_left c b) w
  found_left_i (bytes l) w = absurd w
  found_left_i (invocation n a) w = absurd w
  found_left_i (macro_invocation n a) w = refl

  found_left_f : (f : Fields) → FoundF MacroCall Anyhow f → leftover_f f ≡ true
  found_left_f no_field w = absurd w
  found_left_f (field k l c f) w = to_or (leftover c) (leftover_f f) (λ a. found_left c a) (λ b. found_left_f f b.1) w
  found_left_f (const l x f) w = found_left_f f w

  found_left_c : (f : Cases) → FoundC MacroCall Anyhow f → leftover_c f ≡ true
  found_left_c no_case w = absurd w
  found_left_c (case l c f) w = to_or (leftover c) (leftover_c f) (λ a. found_left c a) (λ b. found_left_c f b) w

pub leftover_is_found : LeftoverIsFound
leftover_is_found c = ((λ e. left_found c e), (λ w. found_left c w))
