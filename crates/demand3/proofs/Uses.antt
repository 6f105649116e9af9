-- Where chains stand only on Bytes and Tail, the names that are collected are those of the uses that have no binder; so the sorted list of these is the shortest.
use mathlib.Core.Path.{◌≡◌, refl, sym, ap, ◌∙◌}
use mathlib.Core.Logic.{◌⊎◌, inl, inr, ⊎_elim}
use mathlib.Core.List.Memᴰ
use mathlib.Core.List.{List, [], ◌∷◌, ◌++◌, map, Memᴰ}
use mathlib.Core.Bool.{Bool, true, false}
use Prim.Native.Nat.{ℕ}
use lib.Dec.{eqb}
use borrow.Author.Tests.{eqb-true, eqb-false, ne_eqb}
use Rattle.definition.specs.Tree.{Name, Shell, wrap, vec, option, array, Selector, none, by, FieldKind, ordinary, dependent, Combinator, plain, chained, Inner, leaf, struct, choice, shell, bytes, invocation, macro_invocation, Fields, no_field, field, const, Cases, no_case, case}
use Rattle.definition.specs.Names.{elem, root, sorted}
use Rattle.definition.specs.Collect.{bytes_or_tail, only, selector_uses, shell_uses, unbound, free, free_i, free_f, free_c}
use Rattle.laws.specs.Lists.{Distinct}
use Rattle.laws.proofs.Collected.{stays, stayed}
use Rattle.laws.proofs.Tests.{by_test, not_both}
use Rattle.laws.proofs.Members.{elem_in, in-elem}
use Rattle.laws.proofs.Order.{elem-sorted, sorted_distinct}
use Rattle.demand3.specs.Words.{PlainChains, PlainChainsI, PlainChainsF, PlainChainsC, Root, SomeRoot, SelectorUse, ShellUse, Past, Unbound, UnboundI, UnboundF, UnboundC}
use Rattle.demand3.specs.Shortest.{NoneTwice, Shortest}
use Rattle.demand3.proofs.Agree.{may_chain}

-- roots
root_dotless : (n : Name) → Memᴰ 46 (root n) → ⊥
unfolding root
root_dotless [] h = Memᴰ.not-nil h
root_dotless (b ∷ s) h = by_test (eqb b 46)
    (λ q. Memᴰ.not-nil (rw q at h))
    (λ q. ⊎_elim (λ e. eqb-false b 46 q (sym e)) (λ t. root_dotless s t) (Memᴰ.cases_cons (rw q at h)))

root_parts : (n : Name) → (n ≡ root n) ⊎ ((rest : List ℕ) × (n ≡ root n ++ (46 ∷ rest)))
unfolding root
root_parts [] = inl refl
root_parts (b ∷ s) = by_test (eqb b 46)
    (λ q. rw q (inr (s, rw (eqb-true b 46 q))))
    (λ q. rw q (⊎_elim (λ e. inl (ap (◌∷◌ b) e)) (λ w. inr (w.0, ap (◌∷◌ b) w.1)) (root_parts s)))

root_whole : (r : Name) → (Memᴰ 46 r → ⊥) → root r ≡ r
unfolding root
root_whole [] h = refl
root_whole (b ∷ s) h = rw (ne_eqb b 46 (λ e. h (Memᴰ.head (sym e)))) (ap (◌∷◌ b) (root_whole s (λ t. h (Memᴰ.tail t))))

root_cut : (r rest : List ℕ) → (Memᴰ 46 r → ⊥) → root (r ++ (46 ∷ rest)) ≡ r
unfolding root
root_cut [] rest h = refl
root_cut (b ∷ s) rest h = rw (ne_eqb b 46 (λ e. h (Memᴰ.head (sym e)))) (ap (◌∷◌ b) (root_cut s rest (λ t. h (Memᴰ.tail t))))

pub root_of : (n u : Name) → Root n u → root n ≡ u
root_of n u w = ⊎_elim (λ e. rw e (root_whole u w.dotless)) (λ v. rw v.1 (root_cut u v.0 w.dotless)) w.parts

pub of_root : (n : Name) → Root n (root n)
of_root n = record { dotless = λ h. root_dotless n h; parts = root_parts n }

roots_of : (ns : List Name) (u : Name) → SomeRoot ns u → Memᴰ u (map root ns)
roots_of [] u w = absurd w
roots_of (n ∷ ns) u w = ⊎_elim (λ r. Memᴰ.head (sym (root_of n u r))) (λ t. Memᴰ.tail (roots_of ns u t)) w

of_roots : (ns : List Name) (u : Name) → Memᴰ u (map root ns) → SomeRoot ns u
of_roots [] u w = absurd (Memᴰ.not-nil w)
of_roots (n ∷ ns) u w = ⊎_elim (λ e. inl (rw e (of_root n))) (λ t. inr (of_roots ns u t)) (Memᴰ.cases_cons w)

-- selectors and lengths
selector_use : (s : Selector) (u : Name) → SelectorUse s u → Memᴰ u (selector_uses s)
unfolding selector_uses
selector_use none u w = absurd w
selector_use (by n) u w = Memᴰ.head (sym (root_of n u w))

use-selector : (s : Selector) (u : Name) → Memᴰ u (selector_uses s) → SelectorUse s u
unfolding selector_uses
use-selector none u w = absurd (Memᴰ.not-nil w)
use-selector (by n) u w = ⊎_elim (λ e. rw e (of_root n)) (λ t. absurd (Memᴰ.not-nil t)) (Memᴰ.cases_cons w)

shell_use : (x : Shell) (u : Name) → ShellUse x u → Memᴰ u (shell_uses x)
unfolding shell_uses
shell_use (wrap a b) u w = absurd w
shell_use vec u w = absurd w
shell_use option u w = absurd w
shell_use (array l) u w = w

use-shell : (x : Shell) (u : Name) → Memᴰ u (shell_uses x) → ShellUse x u
unfolding shell_uses
use-shell (wrap a b) u w = absurd (Memᴰ.not-nil w)
use-shell vec u w = absurd (Memᴰ.not-nil w)
use-shell option u w = absurd (Memᴰ.not-nil w)
use-shell (array l) u w = w

past : (k : FieldKind) (l u : Name) (X : Type 0) (ns : List Name) → (X → Memᴰ u ns) → Past k l u X → Memᴰ u (unbound k l ns)
unfolding unbound
past ordinary l u X ns f w = f w
past dependent l u X ns f w = stays l u ns w.0 (f w.1)

passed : (k : FieldKind) (l u : Name) (X : Type 0) (ns : List Name) → (Memᴰ u ns → X) → Memᴰ u (unbound k l ns) → Past k l u X
unfolding unbound
passed ordinary l u X ns f w = f w
passed dependent l u X ns f w = let v = stayed l u ns w in (v.0, f v.1)

-- what is collected is a use
of_only : (b : Bool) (u : Name) (ns : List Name) → Memᴰ u (only b ns) → Memᴰ u ns
of_only true u ns w = w
of_only false u ns w = absurd (Memᴰ.not-nil w)

module _ {X Y A B : Type 0} where
  both_ways : (X → A) → (Y → B) → X ⊎ Y → A ⊎ B
  both_ways f g w = ⊎_elim (λ x. inl (f x)) (λ y. inr (g y)) w

mutual
  unfolding free

  pub collected_used : (c : Combinator) (u : Name) → Memᴰ u (free c) → Unbound c u
  collected_used (plain i) u w = collected_used_i i u w
  collected_used (chained i c) u w = both_ways (λ a. collected_used_i i u a) (λ b. collected_used c u (of_only (bytes_or_tail i) u (free c) b)) (Memᴰ.append_cases (free_i i) w)

  collected_used_i : (i : Inner) (u : Name) → Memᴰ u (free_i i) → UnboundI i u
  collected_used_i (leaf k x) u w = Memᴰ.not-nil w
  collected_used_i (struct f) u w = collected_used_f f u w
  collected_used_i (choice s k f) u w = both_ways (λ a. use-selector s u a) (λ b. collected_used_c f u b) (Memᴰ.append_cases (selector_uses s) w)
  collected_used_i (shell x c) u w = both_ways (λ a. use-shell x u a) (λ b. collected_used c u b) (Memᴰ.append_cases (shell_uses x) w)
  collected_used_i (bytes l) u w = w
  collected_used_i (invocation n a) u w = of_roots a u w
  collected_used_i (macro_invocation n a) u w = Memᴰ.not-nil w

  collected_used_f : (f : Fields) (u : Name) → Memᴰ u (free_f f) → UnboundF f u
  collected_used_f no_field u w = Memᴰ.not-nil w
  collected_used_f (field k l c f) u w = both_ways (λ a. collected_used c u a) (λ b. passed k l u (UnboundF f u) (free_f f) (λ t. collected_used_f f u t) b) (Memᴰ.append_cases (free c) w)
  collected_used_f (const l x f) u w = collected_used_f f u w

  collected_used_c : (f : Cases) (u : Name) → Memᴰ u (free_c f) → UnboundC f u
  collected_used_c no_case u w = Memᴰ.not-nil w
  collected_used_c (case l c f) u w = both_ways (λ a. collected_used c u a) (λ b. collected_used_c f u b) (Memᴰ.append_cases (free c) w)

-- and a use is collected, where chains stand only on Bytes and Tail
module _ {X Y : Type 0} where
  to_append : (u : Name) (a b : List Name) → (X → Memᴰ u a) → (Y → Memᴰ u b) → X ⊎ Y → Memᴰ u (a ++ b)
  to_append u a b f g w = ⊎_elim (λ x. Memᴰ.append_left b (f x)) (λ y. Memᴰ.append_right a (g y)) w

mutual
  unfolding free

  pub used_collected : (c : Combinator) → PlainChains c → (u : Name) → Unbound c u → Memᴰ u (free c)
  used_collected (plain i) h u w = used_collected_i i h u w
  used_collected (chained i c) h u w =
      rw (may_chain i h.0) (to_append u (free_i i) (free c) (λ a. used_collected_i i h.1.0 u a) (λ b. used_collected c h.1.1 u b) w)

  used_collected_i : (i : Inner) → PlainChainsI i → (u : Name) → UnboundI i u → Memᴰ u (free_i i)
  used_collected_i (leaf k x) h u w = absurd w
  used_collected_i (struct f) h u w = used_collected_f f h u w
  used_collected_i (choice s k f) h u w = to_append u (selector_uses s) (free_c f) (λ a. selector_use s u a) (λ b. used_collected_c f h u b) w
  used_collected_i (shell x c) h u w = to_append u (shell_uses x) (free c) (λ a. shell_use x u a) (λ b. used_collected c h u b) w
  used_collected_i (bytes l) h u w = w
  used_collected_i (invocation n a) h u w = roots_of a u w
  used_collected_i (macro_invocation n a) h u w = absurd w

  used_collected_f : (f : Fields) → PlainChainsF f → (u : Name) → UnboundF f u → Memᴰ u (free_f f)
  used_collected_f no_field h u w = absurd w
  used_collected_f (field k l c f) h u w =
      to_append u (free c) (unbound k l (free_f f)) (λ a. used_collected c h.0 u a) (λ b. past k l u (UnboundF f u) (free_f f) (λ t. used_collected_f f h.1 u t) b) w
  used_collected_f (const l x f) h u w = used_collected_f f h u w

  used_collected_c : (f : Cases) → PlainChainsC f → (u : Name) → UnboundC f u → Memᴰ u (free_c f)
  used_collected_c no_case h u w = absurd w
  used_collected_c (case l c f) h u w =
      to_append u (free c) (free_c f) (λ a. used_collected c h.0 u a) (λ b. used_collected_c f h.1 u b) w

-- the sorted list
none_twice : (ns : List Name) → Distinct ns → NoneTwice ns
none_twice [] d = tt
none_twice (n ∷ ns) d = ((λ w. not_both (elem n ns) (in-elem n ns w) d.0), none_twice ns d.1)

-- one that is named once is not among the others
only_there : (before : List Name) (p : Name) (after : List Name) → NoneTwice (before ++ (p ∷ after)) → Memᴰ p (before ++ after) → ⊥
only_there [] p after h w = h.0 w
only_there (n ∷ before) p after h w = ⊎_elim
    (λ e. h.0 (rw (← e) (Memᴰ.append_right before (Memᴰ.head refl))))
    (λ t. only_there before p after h.1 t)
    (Memᴰ.cases_cons w)

-- names that are named once, and are those of the uses without a binder
pub shortest_by : (ns : List Name) (c : Combinator) → NoneTwice ns → ((u : Name) → Unbound c u → Memᴰ u ns) → ((u : Name) → Memᴰ u ns → Unbound c u) → Shortest ns c
shortest_by ns c twice enough used = record {
  once = twice;
  enough = enough;
  needed = λ before p after e. record {
    name = p;
    stands = used p (rw e (Memᴰ.append_right before (Memᴰ.head refl)));
    none = λ w. only_there before p after (rw e at twice) w;
  };
}

pub shortest : (c : Combinator) → PlainChains c → Shortest (sorted (free c)) c
shortest c h = shortest_by (sorted (free c)) c (none_twice (sorted (free c)) (sorted_distinct (free c)))
    (λ u w. elem_in u (sorted (free c)) (elem-sorted u (free c) ∙ in-elem u (free c) (used_collected c h u w)))
    (λ u w. collected_used c u (elem_in u (free c) (sym (elem-sorted u (free c)) ∙ in-elem u (sorted (free c)) w)))
