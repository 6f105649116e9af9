-- Putting back undoes lifting, where every name that is called is one of a list with which the lifted names have nothing in common.
use mathlib.Core.Path.{◌≡◌, refl, ap}
use mathlib.Core.List.{List, [], ◌∷◌}
use Prim.Native.Nat.{ℕ, zero, suc, ◌+◌, ◌≤◌}
use native.Mathlib.Omega.{arith}
use lib.ListN.{length}
use Rattle.definition.specs.Tree.{Name, Combinator, plain, chained, Inner, leaf, struct, choice, shell, bytes, invocation, macro_invocation, Fields, no_field, field, const, Cases, no_case, case, Definition, format, constant, byte_order, macro}
use Rattle.definition.specs.Lift.{State}
use Rattle.demand3.specs.Words.{Named, EachBody, EachCall, EachCallI, EachCallF, EachCallC}
use Rattle.demand3.specs.PutBack.{put_at, put, put_i, put_f, put_c, put_all, times, rounds, rounds_all}
use Rattle.demand3.proofs.Elem.{whole_of_new}
use Rattle.demand3.proofs.Rounds.{no_whole, times_still, times_under, times_both}
use Rattle.demand3.proofs.Trace.{Kid, walked, moved, Walks, WalksI, WalksF, WalksC, WalksAll}
use Rattle.demand3.proofs.Grew.{Grew, name_new, Span, front, rest, within, counted, grew, grew_k, grew_i, grew_f, grew_c, grew_all}

-- M: the definitions lifted in the end. P: names that are none of theirs
module _ (M : List Definition) (P : Name → Type 0) (away : (n : Name) → P n → Named n M → ⊥) where
  -- enough rounds for what was made between
  abbrev Enough : State → State → ℕ → Type 0
  Enough s t k = length t.made ≤ length s.made + k

  -- a child, from what is put back inside it
  module _ (c : Combinator) (W : State → Combinator → State → Type 0) (grows : (s : State) (d : Combinator) (t : State) → W s d t → Grew s t)
      (ih : (s : State) (d : Combinator) (t : State) → W s d t → Span M s t → (k : ℕ) → Enough s t k → rounds k d M ≡ c) where
    kid_back : (s : State) (d : Combinator) (t : State) → Kid c W s d t → Span M s t → (k : ℕ) → Enough s t k → rounds k d M ≡ c
    unfolding times put put_at
    kid_back s d t (walked a w) h k q = ih s d t w h k q
    kid_back s d t (moved inside n b l w) h zero q = absurd (omega (arith, counted l, (grows l.first l.body l.last w).longer, ap length l.first_made))
    kid_back s d t (moved inside n b l w) h (suc k) q =
        let g = grows l.first l.body l.last w in
        let e = h.holds l.name l.body (rw l.last_made (whole_of_new l.last.made l.name l.params l.body (name_new l g h.known))) in
        rw (l.there, e) (ih l.first l.body l.last w (within M l h) k (omega (arith, counted l, ap length l.first_made)))

  -- an inner, alone and as a combinator without a chain
  record Inside (k : ℕ) (j i : Inner) : Type 0 where
    alone : times k (λ x. put_i x M) j ≡ i
    whole : rounds k (plain j) M ≡ plain i

  still_inside : (k : ℕ) (j i : Inner) → j ≡ i → put_i i M ≡ i → put (plain i) M ≡ plain i → Inside k j i
  still_inside k j i e p q = rw e (record { alone = times_still (λ x. put_i x M) k i p; whole = times_still (λ x. put x M) k (plain i) q })

  under_inside : {A : Type 0} (f : A → Inner) (step : A → A) → ((a : A) → put_i (f a) M ≡ f (step a)) → ((a : A) → put (plain (f a)) M ≡ plain (f (step a))) → (k : ℕ) (j : Inner) (a b : A) → j ≡ f a → times k step a ≡ b → Inside k j (f b)
  under_inside f step p q k j a b e h = rw e (record { alone = times_under f step (λ x. put_i x M) p k a b h; whole = times_under (λ a. plain (f a)) step (λ x. put x M) q k a b h })

  mutual
    unfolding put put_at

    pub back : (c : Combinator) → EachCall c P → (s : State) (d : Combinator) (t : State) → Walks c s d t → Span M s t → (k : ℕ) → Enough s t k → rounds k d M ≡ c
    back (plain i) p s d t w h k q = rw w.is (back_i i p s w.part t w.went h k q).whole
    back (chained i c) p s d t w h k q =
        let g₁ = grew_k c s w.one w.mid w.first in
        let g₂ = grew_i i w.mid w.two t w.second in
        let a = kid_back c (λ s d t. Walks c s d t) (λ s d t v. grew c s d t v) (λ s d t v h k q. back c p.1 s d t v h k q) s w.one w.mid w.first (front M g₂ h) k (omega (arith, g₂.longer)) in
        let b = back_i i p.0 w.mid w.two t w.second (rest M g₁ h) k (omega (arith, g₁.longer)) in
        rw w.is (times_both (λ x j. chained j x) (λ x. put x M) (λ x. put_i x M) (λ x. put x M) (λ x j. refl) k w.one w.two c i a b.alone)

    back_i : (i : Inner) → EachCallI i P → (s : State) (j : Inner) (t : State) → WalksI i s j t → Span M s t → (k : ℕ) → Enough s t k → Inside k j i
    back_i (leaf a x) p s j t w h k q = still_inside k j (leaf a x) w.is refl refl
    back_i (struct f) p s j t w h k q = under_inside struct (λ x. put_f x M) (λ x. refl) (λ x. refl) k j w.part f w.is (back_f f p s w.part t w.went h k q)
    back_i (choice x a f) p s j t w h k q = under_inside (choice x a) (λ x. put_c x M) (λ x. refl) (λ x. refl) k j w.part f w.is (back_c f p s w.part t w.went h k q)
    back_i (shell x c) p s j t w h k q = under_inside (shell x) (λ x. put x M) (λ x. refl) (λ x. refl) k j w.part c w.is
        (kid_back c (λ s d t. Walks c s d t) (λ s d t v. grew c s d t v) (λ s d t v h k q. back c p s d t v h k q) s w.part t w.went h k q)
    back_i (bytes l) p s j t w h k q = still_inside k j (bytes l) w.is refl refl
    back_i (invocation n a) p s j t w h k q = still_inside k j (invocation n a) w.is refl (rw (no_whole M n (away n p)))
    back_i (macro_invocation n a) p s j t w h k q = still_inside k j (macro_invocation n a) w.is refl refl

    back_f : (f : Fields) → EachCallF f P → (s : State) (g : Fields) (t : State) → WalksF f s g t → Span M s t → (k : ℕ) → Enough s t k → times k (λ x. put_f x M) g ≡ f
    back_f no_field p s g t w h k q = rw w.is (times_still (λ x. put_f x M) k no_field refl)
    back_f (field m l c f) p s g t w h k q =
        let g₁ = grew_k c s w.one w.mid w.first in
        let g₂ = grew_f f w.mid w.two t w.second in
        let a = kid_back c (λ s d t. Walks c s d t) (λ s d t v. grew c s d t v) (λ s d t v h k q. back c p.0 s d t v h k q) s w.one w.mid w.first (front M g₂ h) k (omega (arith, g₂.longer)) in
        let b = back_f f p.1 w.mid w.two t w.second (rest M g₁ h) k (omega (arith, g₁.longer)) in
        rw w.is (times_both (field m l) (λ x. put x M) (λ x. put_f x M) (λ x. put_f x M) (λ x y. refl) k w.one w.two c f a b)
    back_f (const l x f) p s g t w h k q = rw w.is (times_under (const l x) (λ x. put_f x M) (λ x. put_f x M) (λ y. refl) k w.part f (back_f f p s w.part t w.went h k q))

    back_c : (f : Cases) → EachCallC f P → (s : State) (g : Cases) (t : State) → WalksC f s g t → Span M s t → (k : ℕ) → Enough s t k → times k (λ x. put_c x M) g ≡ f
    back_c no_case p s g t w h k q = rw w.is (times_still (λ x. put_c x M) k no_case refl)
    back_c (case l c f) p s g t w h k q =
        let g₁ = grew_k c s w.one w.mid w.first in
        let g₂ = grew_c f w.mid w.two t w.second in
        let a = kid_back c (λ s d t. Walks c s d t) (λ s d t v. grew c s d t v) (λ s d t v h k q. back c p.0 s d t v h k q) s w.one w.mid w.first (front M g₂ h) k (omega (arith, g₂.longer)) in
        let b = back_c f p.1 w.mid w.two t w.second (rest M g₁ h) k (omega (arith, g₁.longer)) in
        rw w.is (times_both (case l) (λ x. put x M) (λ x. put_c x M) (λ x. put_c x M) (λ x y. refl) k w.one w.two c f a b)

  -- the whole list
  pub back_all : (ds : List Definition) → EachBody (λ c. EachCall c P) ds → (s : State) (es : List Definition) (t : State) → WalksAll ds s es t → Span M s t → (k : ℕ) → Enough s t k → rounds_all k es M ≡ ds
  unfolding put_all
  back_all [] p s es t w h k q = rw w.is (times_still (λ x. put_all x M) k [] refl)
  back_all (format n ps c ∷ ds) p s es t w h k q =
      let g₁ = grew c s w.one w.mid w.first in
      let g₂ = grew_all ds w.mid w.two t w.second in
      let a = back c p.0 s w.one w.mid w.first (front M g₂ h) k (omega (arith, g₂.longer)) in
      let b = back_all ds p.1 w.mid w.two t w.second (rest M g₁ h) k (omega (arith, g₁.longer)) in
      rw w.is (times_both (λ d es. format n ps d ∷ es) (λ x. put x M) (λ x. put_all x M) (λ x. put_all x M) (λ x y. refl) k w.one w.two c ds a b)
  back_all (constant n x ∷ ds) p s es t w h k q = rw w.is (times_under (◌∷◌ (constant n x)) (λ x. put_all x M) (λ x. put_all x M) (λ y. refl) k w.part ds (back_all ds p s w.part t w.went h k q))
  back_all (byte_order x ∷ ds) p s es t w h k q = rw w.is (times_under (◌∷◌ (byte_order x)) (λ x. put_all x M) (λ x. put_all x M) (λ y. refl) k w.part ds (back_all ds p s w.part t w.went h k q))
  back_all (macro n ps c ∷ ds) p s es t w h k q = rw w.is (times_under (◌∷◌ (macro n ps c)) (λ x. put_all x M) (λ x. put_all x M) (λ y. refl) k w.part ds (back_all ds p s w.part t w.went h k q))
