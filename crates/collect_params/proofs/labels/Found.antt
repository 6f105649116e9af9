-- A name is found exactly where it is one of the labels in force; and with fewer of them counted the table is as it was before the others.
-- Assumes nothing.
use mathlib.Core.Path.{◌≡◌, refl, sym, ap, ◌∙◌}
use mathlib.Core.Logic.{◌⊎◌, inl, inr, ⊎_elim}
use mathlib.Core.List.{List, ◌∷◌}
use mathlib.Core.Bool.{true, false}
use Prim.Native.Nat.{ℕ, zero, suc, ◌+◌, ◌*◌, ◌-◌, ◌%◌, ◌≤◌, ◌<◌, min}
use native.Mathlib.Omega.{arith}
use native.Mathlib.Numerals.{add-one, sub-one}
use lib.Dec.{eqb, leb}
use lib.ListN.{length, get_or, set, length-set}
use lib.Seq.{get_or-set_same, get_or-set_other}
use borrow.Author.Tests.{eqb-true, eqb-false, eq-eqb, ne_eqb, le-leb, lt-leb}
use Rattle.definition.specs.Tree.{Name}
use Rattle.definition.specs.Names.{eq_name, elem}
use Rattle.laws.proofs.Members.{eq_name-true, eq_name_refl}
use Rattle.layout.specs.lookup.Name.{name_at}
use Rattle.layout.proofs.lookup.Names.{yes_no}
use Rattle.buffer.proofs.writes.Put.{within}
use Rattle.layout.specs.items.At.{pick}
use Rattle.layout.specs.hash.Hash.{bit_at}
use Rattle.layout.proofs.hash.Hash.{bit_small, hash_small}
use Rattle.collect_params.specs.labels.Labels.{head_of, label_at, labels_in, link_at, fork_at, way_of, end_of, leads_to, is_label_of, slot_of, bind_at}
use Rattle.collect_params.proofs.labels.Steps.{link_none, link_far, link_other, link_here, way_done, way_end, way_same, way_on}

-- two tables with the same first b labels, and the same that leads to them
pub record Same (t u : List ℕ) (b : ℕ) : Type 0 where
  pub labels : (i : ℕ) → i < b → get_or t (64 + 4 * i) 0 ≡ get_or u (64 + 4 * i) 0
  pub links : (x : ℕ) → x < 64 + 4 * b → link_at t b x ≡ link_at u b x

-- a name is found exactly where it is one of the first b labels; and what leads on from a label leads to a later one
pub record Finds (s t : List ℕ) (b : ℕ) : Type 0 where
  pub is : (n : Name) → is_label_of s n t b ≡ elem n (labels_in s t b)
  pub later : (i e : ℕ) → i < b → e ≤ 1 → 0 < link_at t b (65 + 4 * i + e) → suc i < link_at t b (65 + 4 * i + e)

head_small : (n : Name) → head_of n < 64
unfolding head_of
head_small n = let h = hash_small n in omega arith

-- where a number may stand that leads on
pub record Fork (b x : ℕ) : Type 0 where
  pub of : ℕ
  pub bit : ℕ
  pub is : x ≡ 65 + 4 * of + bit
  pub low : of < b
  pub small : bit ≤ 1

abbrev Slot : ℕ → ℕ → Type 0
Slot b x = (x < 64) ⊎ Fork b x

slot_low : (b x : ℕ) → Slot b x → x < 64 + 4 * b
slot_low b x (inl h) = omega arith
slot_low b x (inr f) = omega (arith, f.is, f.low, f.small)

slot_other : (b x j : ℕ) → Slot b x → x ≡ 67 + 4 * j → ⊥
slot_other b x j (inl h) e = omega arith
slot_other b x j (inr f) e = omega (arith, f.is, f.small)

slot_label : (b x j : ℕ) → Slot b x → x ≡ 64 + 4 * j → ⊥
slot_label b x j (inl h) e = omega arith
slot_label b x j (inr f) e = omega (arith, f.is, f.small)

-- ---- what leads on
module _ (t : List ℕ) (x : ℕ) where
  abbrev v : ℕ
  v = get_or t x 0

  abbrev back : ℕ
  back = get_or t (67 + 4 * (v - 1)) 0

  link_known : (b : ℕ) → v ≤ b → back ≡ x → link_at t b x ≡ v
  link_known b h e = link_here t b x refl h refl e

  link_over : (b : ℕ) → b < v → link_at t b x ≡ 0
  link_over b h = link_far t b x refl h

  link_aside : (b : ℕ) → (back ≡ x → ⊥) → link_at t b x ≡ 0
  link_aside b e = ⊎_elim (λ (q : v ≤ b). link_other t b x refl q refl e) (λ (q : b < v). link_over b q) (within v b)

  link_zero : (b : ℕ) → v ≡ 0 → link_at t b x ≡ 0
  link_zero b h = link_none t b x refl h

  link_most : (b : ℕ) → link_at t b x ≤ b
  link_most b = ⊎_elim
      (λ (h : v ≤ b). ⊎_elim
      (λ (q : eqb back x ≡ true). let e = link_known b h (eqb-true back x q) in omega arith)
      (λ (q : eqb back x ≡ false). let e = link_aside b (eqb-false back x q) in omega arith)
      (yes_no (eqb back x)))
      (λ (h : b < v). let e = link_over b h in omega arith)
      (within v b)

  -- with one label fewer
  link_fewer : (b : ℕ) → link_at t b x ≡ pick (leb (link_at t (suc b) x) b) (link_at t (suc b) x) 0
  link_fewer b = ⊎_elim
      (λ (q : eqb back x ≡ true).
      let e = eqb-true back x q in
      ⊎_elim
      (λ (h : v ≤ b). rw (link_known b h e, link_known (suc b) (omega arith) e, le-leb v b h))
      (λ (h : b < v). ⊎_elim
      (λ (k : v ≤ suc b). rw (link_over b h, link_known (suc b) k e, lt-leb v b h))
      (λ (k : suc b < v). rw (link_over b h, link_over (suc b) k, le-leb 0 b (omega arith)))
      (within v (suc b)))
      (within v b))
      (λ (q : eqb back x ≡ false).
      let e = eqb-false back x q in
      rw (link_aside b e, link_aside (suc b) e, le-leb 0 b (omega arith)))
      (yes_no (eqb back x))

-- ---- the way
module _ (s : List ℕ) (n : Name) (t : List ℕ) (b : ℕ) where
  -- it goes from one such place to the next
  fork_slot : (d x : ℕ) → 0 < link_at t b x → Slot b (fork_at n d (link_at t b x - 1))
  unfolding fork_at
  fork_slot d x h = inr (record { of = link_at t b x - 1; bit = bit_at n (min d 4096 + 6); is = refl; low = omega (arith, link_most t x b); small = bit_small n (min d 4096 + 6) })

  -- which of three steps it takes
  way_cases : {P : Type 0} (x : ℕ) → (link_at t b x ≡ 0 → P) → (0 < link_at t b x → eq_name n (label_at s t (link_at t b x - 1)) ≡ true → P) → (0 < link_at t b x → eq_name n (label_at s t (link_at t b x - 1)) ≡ false → P) → P
  way_cases x none here on = ⊎_elim
      (λ (q : link_at t b x ≤ 0). none (omega arith))
      (λ (q : 0 < link_at t b x). ⊎_elim (here q) (on q) (yes_no (eq_name n (label_at s t (link_at t b x - 1)))))
      (within (link_at t b x) 0)

  on_is : (k d x : ℕ) → 0 < link_at t b x → eq_name n (label_at s t (link_at t b x - 1)) ≡ false → way_of s n t b (suc k) d x ≡ way_of s n t b k (d + 1) (fork_at n d (link_at t b x - 1))
  on_is k d x h e = way_on s n t b x (link_at t b x - 1) (omega arith) {label = label_at s t (link_at t b x - 1)} refl {same = eq_name n (label_at s t (link_at t b x - 1))} refl (suc k) d (omega arith) e refl ∙ rw sub-one

  here_is : (k d x : ℕ) → 0 < link_at t b x → eq_name n (label_at s t (link_at t b x - 1)) ≡ true → way_of s n t b k d x ≡ x
  here_is k d x h e = way_same s n t b x (link_at t b x - 1) (omega arith) {label = label_at s t (link_at t b x - 1)} refl {same = eq_name n (label_at s t (link_at t b x - 1))} refl k d e

  none_is : (k d x : ℕ) → link_at t b x ≡ 0 → way_of s n t b k d x ≡ x
  none_is k d x e = way_end s n t b k d x e

  way_slot : (k d x : ℕ) → Slot b x → Slot b (way_of s n t b k d x)
  way_slot zero d x h = rw (way_done s n t b 0 d x (omega arith)) h
  way_slot (suc k) d x h = way_cases x
      (λ e. rw (none_is (suc k) d x e) h)
      (λ p e. rw (here_is (suc k) d x p e) h)
      (λ p e. rw (on_is k d x p e) (way_slot k (d + 1) (fork_at n d (link_at t b x - 1)) (fork_slot d x p)))

  leads_none : (x : ℕ) → link_at t b x ≡ 0 → leads_to s n t b x ≡ false
  unfolding leads_to
  leads_none x e = rw (eq-eqb (link_at t b x) 0 e)

  leads_by : (x : ℕ) → 0 < link_at t b x → leads_to s n t b x ≡ eq_name n (label_at s t (link_at t b x - 1))
  unfolding leads_to
  leads_by x h = rw (ne_eqb (link_at t b x) 0 (λ q. omega arith))

  -- the number that leads on is larger with each step, so that b steps are enough
  module _ (later : (i e : ℕ) → i < b → e ≤ 1 → 0 < link_at t b (65 + 4 * i + e) → suc i < link_at t b (65 + 4 * i + e)) where
    next_later : (d x : ℕ) → 0 < link_at t b x → 0 < link_at t b (fork_at n d (link_at t b x - 1)) → link_at t b x < link_at t b (fork_at n d (link_at t b x - 1))
    unfolding fork_at
    next_later d x h p = let q = later (link_at t b x - 1) (bit_at n (min d 4096 + 6)) (omega (arith, link_most t x b)) (bit_small n (min d 4096 + 6)) p in omega arith

    enough : (k d x j : ℕ) → (0 < link_at t b x → j < link_at t b x) → b ≤ k + j → way_of s n t b (suc k) d x ≡ way_of s n t b k d x
    enough zero d x j h m =
        let e : link_at t b x ≡ 0 = ⊎_elim (λ (q : link_at t b x ≤ 0). omega arith) (λ (q : 0 < link_at t b x). absurd (let g = h q in omega (arith, link_most t x b))) (within (link_at t b x) 0) in
        none_is 1 d x e ∙ sym (none_is 0 d x e)
    enough (suc k) d x j h m = way_cases x
        (λ e. none_is (suc (suc k)) d x e ∙ sym (none_is (suc k) d x e))
        (λ p e. here_is (suc (suc k)) d x p e ∙ sym (here_is (suc k) d x p e))
        (λ p e. on_is (suc k) d x p e ∙ enough k (d + 1) (fork_at n d (link_at t b x - 1)) (link_at t b x) (next_later d x p) (let g = h p in omega arith) ∙ sym (on_is k d x p e))

    ends : (k d x j : ℕ) → (0 < link_at t b x → j < link_at t b x) → b ≤ k + j → 0 < link_at t b (way_of s n t b k d x) → leads_to s n t b (way_of s n t b k d x) ≡ true
    ends zero d x j h m p =
        let w = way_done s n t b 0 d x (omega arith) in
        let p' : 0 < link_at t b x = rw w at p in
        absurd (let g = h p' in omega (arith, link_most t x b))
    ends (suc k) d x j h m p = way_cases x
        (λ e. absurd (let q : 0 < link_at t b x = rw (none_is (suc k) d x e) at p in omega arith))
        (λ q e. rw (here_is (suc k) d x q e) (leads_by x q ∙ e))
        (λ q e. rw (on_is k d x q e) (ends k (d + 1) (fork_at n d (link_at t b x - 1)) (link_at t b x) (next_later d x q) (let g = h q in omega arith) (rw (on_is k d x q e) at p)))

-- ---- two tables
labels_by : (s t u : List ℕ) (b : ℕ) → ((i : ℕ) → i < b → get_or t (64 + 4 * i) 0 ≡ get_or u (64 + 4 * i) 0) → labels_in s t b ≡ labels_in s u b
unfolding labels_in label_at
labels_by s t u zero q = refl
labels_by s t u (suc b) q = rw (q b (omega arith), labels_by s t u b (λ i h. q i (omega arith)))

module _ (s : List ℕ) {t u : List ℕ} {b : ℕ} (q : Same t u b) where
  pub labels_same : labels_in s t b ≡ labels_in s u b
  labels_same = labels_by s t u b q.labels

  same_label : (x : ℕ) → 0 < link_at u b x → label_at s t (link_at u b x - 1) ≡ label_at s u (link_at u b x - 1)
  unfolding label_at
  same_label x h = ap (name_at s) (q.labels (link_at u b x - 1) (omega (arith, link_most u x b)))

  module _ (n : Name) where
    same_leads : (x : ℕ) → Slot b x → leads_to s n t b x ≡ leads_to s n u b x
    same_leads x h =
        let l = q.links x (slot_low b x h) in
        way_cases s n u b x
        (λ e. leads_none s n t b x (l ∙ e) ∙ sym (leads_none s n u b x e))
        (λ p e. both x p l)
        (λ p e. both x p l)
      where
        both : (x : ℕ) → 0 < link_at u b x → link_at t b x ≡ link_at u b x → leads_to s n t b x ≡ leads_to s n u b x
        both x p l = leads_by s n t b x (rw l p) ∙ rw (l, same_label x p) (sym (leads_by s n u b x p))

    same_way : (k d x : ℕ) → Slot b x → way_of s n t b k d x ≡ way_of s n u b k d x
    same_way zero d x h = way_done s n t b 0 d x (omega arith) ∙ sym (way_done s n u b 0 d x (omega arith))
    same_way (suc k) d x h =
        let l = q.links x (slot_low b x h) in
        way_cases s n u b x
        (λ e. none_is s n t b (suc k) d x (l ∙ e) ∙ sym (none_is s n u b (suc k) d x e))
        (λ p e. here_is s n t b (suc k) d x (rw l p) (rw (l, same_label x p) e) ∙ sym (here_is s n u b (suc k) d x p e))
        (λ p e. on_is s n t b k d x (rw l p) (rw (l, same_label x p) e) ∙ rw l (same_way k (d + 1) (fork_at n d (link_at u b x - 1)) (fork_slot s n u b d x p)) ∙ sym (on_is s n u b k d x p e))

  pub finds_same : Finds s u b → Finds s t b
  unfolding is_label_of end_of
  finds_same f = record {
    is = λ n.
        let h : Slot b (head_of n) = inl (head_small n) in
        rw (same_way n b 0 (head_of n) h) (same_leads n (way_of s n u b b 0 (head_of n)) (way_slot s n u b b 0 (head_of n) h))
        ∙ f.is n
        ∙ ap (elem n) (sym labels_same);
    later = λ i e h k p.
        let l = q.links (65 + 4 * i + e) (omega arith) in
        rw l (f.later i e h k (rw l at p));
  }

pub same_self : {t : List ℕ} {b : ℕ} → Same t t b
same_self = record { labels = λ i h. refl; links = λ x h. refl }

pub same_then : {t u v : List ℕ} {b : ℕ} → Same t u b → Same u v b → Same t v b
same_then p q = record { labels = λ i h. p.labels i h ∙ q.labels i h; links = λ x h. p.links x h ∙ q.links x h }

-- and with one label fewer
pub same_fewer : {t u : List ℕ} {b : ℕ} → Same t u (suc b) → Same t u b
same_fewer {t} {u} {b} q = record {
  labels = λ i h. q.labels i (omega arith);
  links = λ x h. link_fewer t x b ∙ rw (q.links x (omega arith)) (sym (link_fewer u x b));
}

-- with no label in force no name is found
pub finds_none : (s t : List ℕ) → Finds s t 0
unfolding is_label_of labels_in elem
finds_none s t = record {
  is = λ n. leads_none s n t 0 (end_of s n t 0) (let h = link_most t (end_of s n t 0) 0 in omega arith);
  later = λ i e h k p. absurd (omega arith);
}

-- ---- a label that is bound, with room for it
abbrev pub labelled : List ℕ → ℕ → List ℕ → ℕ → List ℕ
labelled s at t b =
    let y = slot_of s (name_at s at) t b (67 + 4 * b) in
    set (set (set (set (set t (64 + 4 * b) at) (65 + 4 * b) 0) (66 + 4 * b) 0) y (suc b)) (67 + 4 * b) y

module _ (s : List ℕ) (at : ℕ) (t : List ℕ) (b : ℕ) (near : at < 4294967296) (few : 68 + 4 * b < 4294967296) (room : 68 + 4 * b ≤ length t) where
  abbrev T : List ℕ
  T = labelled s at t b

  abbrev m : Name
  m = name_at s at

  abbrev x₀ : ℕ
  x₀ = end_of s m t b

  abbrev y : ℕ
  y = slot_of s m t b (67 + 4 * b)

  end_slot : Slot b x₀
  unfolding end_of
  end_slot = way_slot s m t b b 0 (head_of m) (inl (head_small m))

  -- where its way ends, or aside
  y_cases : {P : Type 0} → (link_at t b x₀ ≡ 0 → y ≡ x₀ → P) → (0 < link_at t b x₀ → y ≡ 67 + 4 * b → P) → P
  unfolding slot_of
  y_cases new old = ⊎_elim
      (λ (q : link_at t b x₀ ≤ 0). let e : link_at t b x₀ ≡ 0 = omega arith in new e (rw (eq-eqb (link_at t b x₀) 0 e)))
      (λ (q : 0 < link_at t b x₀). old q (rw (ne_eqb (link_at t b x₀) 0 (λ e. omega arith))))
      (within (link_at t b x₀) 0)

  y_low : y ≤ 67 + 4 * b
  y_low = y_cases (λ e q. let l = slot_low b x₀ end_slot in omega arith) (λ e q. omega arith)

  y_label : (j : ℕ) → j ≤ b → (y ≡ 64 + 4 * j → ⊥)
  y_label j h e = y_cases (λ p q. slot_label b x₀ j end_slot (sym q ∙ e)) (λ p q. omega arith)

  y_back : (j : ℕ) → j < b → (y ≡ 67 + 4 * j → ⊥)
  y_back j h e = y_cases (λ p q. slot_other b x₀ j end_slot (sym q ∙ e)) (λ p q. omega arith)

  y_own : (e : ℕ) → e ≤ 1 → (y ≡ 65 + 4 * b + e → ⊥)
  y_own e h r = y_cases (λ p q. let l = slot_low b x₀ end_slot in omega arith) (λ p q. omega arith)

  pub bind_is : bind_at s at t b ≡ (suc b, labelled s at t b)
  unfolding bind_at
  bind_is =
      let place : at % 4294967296 ≡ at = omega arith in
      let count : (b + 1) % 4294967296 ≡ suc b = omega arith in
      let one : 64 + 4 * b + 1 ≡ 65 + 4 * b = omega arith in
      let two : 64 + 4 * b + 2 ≡ 66 + 4 * b = omega arith in
      let three : 64 + 4 * b + 3 ≡ 67 + 4 * b = omega arith in
      let slot : y % 4294967296 ≡ y = omega (arith, y_low) in
      rw (three, lt-leb (length t) (67 + 4 * b) (omega arith), place, count, one, two, slot, add-one b)

  pub labelled_long : length (labelled s at t b) ≡ length t
  labelled_long = simp length-set

  -- what stands in the table then
  abbrev t₁ : List ℕ
  t₁ = set t (64 + 4 * b) at

  abbrev t₂ : List ℕ
  t₂ = set t₁ (65 + 4 * b) 0

  abbrev t₃ : List ℕ
  t₃ = set t₂ (66 + 4 * b) 0

  abbrev t₄ : List ℕ
  t₄ = set t₃ y (suc b)

  at_back : get_or T (67 + 4 * b) 0 ≡ y
  at_back = get_or-set_same t₄ (67 + 4 * b) y 0 (simp length-set (omega arith))

  at_y : (y ≡ 67 + 4 * b → ⊥) → get_or T y 0 ≡ suc b
  at_y e =
      get_or-set_other t₄ (67 + 4 * b) y y 0 e
      ∙ get_or-set_same t₃ y (suc b) 0 (simp length-set (let l = y_low in omega arith))

  other : (j : ℕ) → (j ≡ 67 + 4 * b → ⊥) → (j ≡ y → ⊥) → get_or T j 0 ≡ get_or t₃ j 0
  other j e f = get_or-set_other t₄ (67 + 4 * b) j y 0 e ∙ get_or-set_other t₃ y j (suc b) 0 f

  before : (j : ℕ) → j < 64 + 4 * b → (j ≡ y → ⊥) → get_or T j 0 ≡ get_or t j 0
  before j h f =
      other j (λ e. omega arith) f
      ∙ get_or-set_other t₂ (66 + 4 * b) j 0 0 (λ e. omega arith)
      ∙ get_or-set_other t₁ (65 + 4 * b) j 0 0 (λ e. omega arith)
      ∙ get_or-set_other t (64 + 4 * b) j at 0 (λ e. omega arith)

  at_label : label_at s T b ≡ m
  unfolding label_at
  at_label = ap (name_at s)
      (other (64 + 4 * b) (λ e. omega arith) (λ e. y_label b (omega arith) (sym e))
      ∙ get_or-set_other t₂ (66 + 4 * b) (64 + 4 * b) 0 0 (λ e. omega arith)
      ∙ get_or-set_other t₁ (65 + 4 * b) (64 + 4 * b) 0 0 (λ e. omega arith)
      ∙ get_or-set_same t (64 + 4 * b) at 0 (omega arith))

  at_zero : get_or T (65 + 4 * b) 0 ≡ 0
  at_zero =
      other (65 + 4 * b) (λ e. omega arith) (λ e. y_own 0 (omega arith) (omega arith))
      ∙ get_or-set_other t₂ (66 + 4 * b) (65 + 4 * b) 0 0 (λ e. omega arith)
      ∙ get_or-set_same t₁ (65 + 4 * b) 0 0 (simp length-set (omega arith))

  at_one : get_or T (66 + 4 * b) 0 ≡ 0
  at_one =
      other (66 + 4 * b) (λ e. omega arith) (λ e. y_own 1 (omega arith) (omega arith))
      ∙ get_or-set_same t₂ (66 + 4 * b) 0 0 (simp length-set (omega arith))

  old_labels : (i : ℕ) → i < b → get_or T (64 + 4 * i) 0 ≡ get_or t (64 + 4 * i) 0
  old_labels i h = before (64 + 4 * i) (omega arith) (λ e. y_label i (omega arith) (sym e))

  old_label : (i : ℕ) → i < b → label_at s T i ≡ label_at s t i
  unfolding label_at
  old_label i h = ap (name_at s) (old_labels i h)

  pub labels_bind : labels_in s (labelled s at t b) (suc b) ≡ m ∷ labels_in s t b
  unfolding labels_in
  labels_bind = rw (at_label, labels_by s T t b old_labels)

  -- what led on before leads on still, with that label counted or not
  link_before : (c x : ℕ) → b ≤ c → c ≤ suc b → x < 64 + 4 * b → (x ≡ y → ⊥) → link_at T c x ≡ link_at t b x
  link_before c x hb hc h f =
      let e = before x h f in
      ⊎_elim
      (λ (z : get_or t x 0 ≤ 0). link_zero T x c (e ∙ omega arith) ∙ sym (link_zero t x b (omega arith)))
      (λ (z : 0 < get_or t x 0). ⊎_elim
      (λ (k : get_or t x 0 ≤ b).
      let g : get_or T (67 + 4 * (get_or T x 0 - 1)) 0 ≡ get_or t (67 + 4 * (get_or t x 0 - 1)) 0 = rw e (before (67 + 4 * (get_or t x 0 - 1)) (omega arith) (λ q. y_back (get_or t x 0 - 1) (omega arith) (sym q))) in
      ⊎_elim
      (λ (q : eqb (get_or t (67 + 4 * (get_or t x 0 - 1)) 0) x ≡ true).
      let r = eqb-true (get_or t (67 + 4 * (get_or t x 0 - 1)) 0) x q in
      link_known T x c (omega (arith, e)) (g ∙ r) ∙ e ∙ sym (link_known t x b k r))
      (λ (q : eqb (get_or t (67 + 4 * (get_or t x 0 - 1)) 0) x ≡ false).
      let r = eqb-false (get_or t (67 + 4 * (get_or t x 0 - 1)) 0) x q in
      link_aside T x c (λ p. r (sym g ∙ p)) ∙ sym (link_aside t x b r))
      (yes_no (eqb (get_or t (67 + 4 * (get_or t x 0 - 1)) 0) x)))
      (λ (k : b < get_or t x 0). over c x hc e k f ∙ sym (link_over t x b k))
      (within (get_or t x 0) b))
      (within (get_or t x 0) 0)
    where
      over : (c x : ℕ) → c ≤ suc b → get_or T x 0 ≡ get_or t x 0 → b < get_or t x 0 → (x ≡ y → ⊥) → link_at T c x ≡ 0
      over c x hc e k f = ⊎_elim
          (λ (q : get_or t x 0 ≤ c).
          let v : get_or T x 0 ≡ suc b = omega arith in
          let g : 67 + 4 * (get_or T x 0 - 1) ≡ 67 + 4 * b = omega arith in
          link_aside T x c (λ p. f (sym p ∙ ap (λ (j : ℕ). get_or T j 0) g ∙ at_back)))
          (λ (q : c < get_or t x 0). link_over T x c (omega arith))
          (within (get_or t x 0) c)

  -- what leads to the label itself, and what leads on from it
  link_new : link_at t b x₀ ≡ 0 → y ≡ x₀ → link_at T (suc b) x₀ ≡ suc b
  link_new e q =
      let far : y ≡ 67 + 4 * b → ⊥ = λ r. let l = slot_low b x₀ end_slot in omega arith in
      let v : get_or T x₀ 0 ≡ suc b = rw (← q) (at_y far) in
      let g : 67 + 4 * (get_or T x₀ 0 - 1) ≡ 67 + 4 * b = omega arith in
      link_known T x₀ (suc b) (omega arith) (ap (λ (j : ℕ). get_or T j 0) g ∙ at_back ∙ q) ∙ v

  link_own : (e : ℕ) → e ≤ 1 → link_at T (suc b) (65 + 4 * b + e) ≡ 0
  link_own zero h = link_zero T (65 + 4 * b + 0) (suc b) (let q : 65 + 4 * b + 0 ≡ 65 + 4 * b = omega arith in rw q at_zero)
  link_own (suc e) h = link_zero T (65 + 4 * b + suc e) (suc b) (let q : 65 + 4 * b + suc e ≡ 66 + 4 * b = omega arith in rw q at_one)

  -- counted no longer, it leaves the table as it was
  pub bind_back : Same (labelled s at t b) t b
  bind_back = record {
    labels = old_labels;
    links = λ x h. ⊎_elim
        (λ (q : eqb x y ≡ true). at_the_slot x h (eqb-true x y q))
        (λ (q : eqb x y ≡ false). link_before b x (omega arith) (omega arith) h (eqb-false x y q))
        (yes_no (eqb x y));
  }
    where
      at_the_slot : (x : ℕ) → x < 64 + 4 * b → x ≡ y → link_at T b x ≡ link_at t b x
      at_the_slot x h q = y_cases
          (λ e r.
          let far : y ≡ 67 + 4 * b → ⊥ = λ p. omega arith in
          let v : get_or T x 0 ≡ suc b = rw q (at_y far) in
          link_over T x b (omega arith) ∙ sym (rw (q ∙ r) e))
          (λ e r. absurd (omega arith))

  -- ---- names are found as before, and the new one with them
  module _ (f : Finds s t b) where
    -- the steps of a name that does not come to the new label, or does not have its name
    module _ (n : Name) (apart : (link_at t b x₀ ≡ 0 → y ≡ x₀ → eq_name n m ≡ false)) where
      as_before : (x : ℕ) → Slot b x → {P : Type 0} → (link_at T (suc b) x ≡ link_at t b x → P) → (x ≡ x₀ → link_at t b x ≡ 0 → y ≡ x₀ → P) → P
      as_before x h same new = ⊎_elim
          (λ (q : eqb x y ≡ true).
          y_cases
          (λ e r. let z : x ≡ x₀ = eqb-true x y q ∙ r in new z (rw z e) r)
          (λ e r. absurd (let l = slot_low b x h in let z = eqb-true x y q in omega arith)))
          (λ (q : eqb x y ≡ false). same (link_before (suc b) x (omega arith) (omega arith) (slot_low b x h) (eqb-false x y q)))
          (yes_no (eqb x y))

      -- at the new label
      past_new : (x : ℕ) → x ≡ x₀ → link_at t b x ≡ 0 → y ≡ x₀ → (k d : ℕ) → leads_to s n T (suc b) (way_of s n T (suc b) k d x) ≡ false
      unfolding fork_at
      past_new x z e r k d =
          let e₀ : link_at t b x₀ ≡ 0 = rw z at e in
          let v : link_at T (suc b) x ≡ suc b = rw z (link_new e₀ r) in
          let p : 0 < link_at T (suc b) x = omega arith in
          let i : link_at T (suc b) x - 1 ≡ b = omega arith in
          let a : eq_name n (label_at s T (link_at T (suc b) x - 1)) ≡ false = rw (i, at_label) (apart e₀ r) in
          go k x p i a
        where
          go : (k x : ℕ) → 0 < link_at T (suc b) x → link_at T (suc b) x - 1 ≡ b → eq_name n (label_at s T (link_at T (suc b) x - 1)) ≡ false → leads_to s n T (suc b) (way_of s n T (suc b) k d x) ≡ false
          go zero x p i a = rw (way_done s n T (suc b) 0 d x (omega arith)) (leads_by s n T (suc b) x p ∙ a)
          go (suc k) x p i a =
              let z : link_at T (suc b) (fork_at n d (link_at T (suc b) x - 1)) ≡ 0 = rw i (link_own (bit_at n (min d 4096 + 6)) (bit_small n (min d 4096 + 6))) in
              rw (on_is s n T (suc b) k d x p a, none_is s n T (suc b) k (d + 1) (fork_at n d (link_at T (suc b) x - 1)) z) (leads_none s n T (suc b) (fork_at n d (link_at T (suc b) x - 1)) z)

      kept_label : (x : ℕ) → 0 < link_at t b x → label_at s T (link_at t b x - 1) ≡ label_at s t (link_at t b x - 1)
      kept_label x p = old_label (link_at t b x - 1) (omega (arith, link_most t x b))

      kept_leads : (x : ℕ) → link_at T (suc b) x ≡ link_at t b x → leads_to s n T (suc b) x ≡ leads_to s n t b x
      kept_leads x l = ⊎_elim
          (λ (q : link_at t b x ≤ 0). leads_none s n T (suc b) x (omega (arith, l)) ∙ sym (leads_none s n t b x (omega arith)))
          (λ (q : 0 < link_at t b x). leads_by s n T (suc b) x (rw l q) ∙ rw (l, kept_label x q) (sym (leads_by s n t b x q)))
          (within (link_at t b x) 0)

      still : (k d x : ℕ) → Slot b x → leads_to s n T (suc b) (way_of s n T (suc b) k d x) ≡ leads_to s n t b (way_of s n t b k d x)
      still zero d x h = as_before x h
          (λ l. rw (way_done s n T (suc b) 0 d x (omega arith), way_done s n t b 0 d x (omega arith)) (kept_leads x l))
          (λ z e r. past_new x z e r 0 d ∙ sym (rw (none_is s n t b 0 d x e) (leads_none s n t b x e)))
      still (suc k) d x h = as_before x h
          (λ l. way_cases s n t b x
          (λ e. rw (none_is s n T (suc b) (suc k) d x (l ∙ e), none_is s n t b (suc k) d x e) (kept_leads x l))
          (λ p e. rw (here_is s n T (suc b) (suc k) d x (rw l p) (rw (l, kept_label x p) e), here_is s n t b (suc k) d x p e) (kept_leads x l))
          (λ p e. rw (on_is s n T (suc b) k d x (rw l p) (rw (l, kept_label x p) e), on_is s n t b k d x p e, l) (still k (d + 1) (fork_at n d (link_at t b x - 1)) (fork_slot s n t b d x p))))
          (λ z e r. past_new x z e r (suc k) d ∙ sym (rw (none_is s n t b (suc k) d x e) (leads_none s n t b x e)))

      -- one step more changes nothing
      found_still : is_label_of s n T (suc b) ≡ is_label_of s n t b
      unfolding is_label_of end_of
      found_still =
          still (suc b) 0 (head_of n) (inl (head_small n))
          ∙ ap (leads_to s n t b) (enough s n t b f.later b 0 (head_of n) 0 (λ h. h) (omega arith))

    -- the way of the new label's name comes to it
    module _ (e₀ : link_at t b x₀ ≡ 0) (r : y ≡ x₀) where
      arrived : (k d x : ℕ) → x ≡ x₀ → leads_to s m T (suc b) (way_of s m T (suc b) k d x) ≡ true
      arrived k d x q =
          let v : link_at T (suc b) x ≡ suc b = rw q (link_new e₀ r) in
          let p : 0 < link_at T (suc b) x = omega arith in
          let i : link_at T (suc b) x - 1 ≡ b = omega arith in
          let a : eq_name m (label_at s T (link_at T (suc b) x - 1)) ≡ true = rw (i, at_label) (eq_name_refl m) in
          rw (here_is s m T (suc b) k d x p a) (leads_by s m T (suc b) x p ∙ a)

      comes : (k d x : ℕ) → Slot b x → way_of s m t b k d x ≡ x₀ → leads_to s m T (suc b) (way_of s m T (suc b) k d x) ≡ true
      comes zero d x h w = arrived 0 d x (sym (way_done s m t b 0 d x (omega arith)) ∙ w)
      comes (suc k) d x h w = way_cases s m t b x
          (λ e. arrived (suc k) d x (sym (none_is s m t b (suc k) d x e) ∙ w))
          (λ p e. arrived (suc k) d x (sym (here_is s m t b (suc k) d x p e) ∙ w))
          (λ p e.
          let l : link_at T (suc b) x ≡ link_at t b x = link_before (suc b) x (omega arith) (omega arith) (slot_low b x h) (λ z. let g : link_at t b x ≡ 0 = rw (z ∙ r) e₀ in omega arith) in
          let c : label_at s T (link_at t b x - 1) ≡ label_at s t (link_at t b x - 1) = old_label (link_at t b x - 1) (omega (arith, link_most t x b)) in
          rw (on_is s m T (suc b) k d x (rw l p) (rw (l, c) e), l) (comes k (d + 1) (fork_at m d (link_at t b x - 1)) (fork_slot s m t b d x p) (sym (on_is s m t b k d x p e) ∙ w)))

      found_new : is_label_of s m T (suc b) ≡ true
      unfolding is_label_of end_of
      found_new = comes (suc b) 0 (head_of m) (inl (head_small m)) (enough s m t b f.later b 0 (head_of m) 0 (λ h. h) (omega arith))

    -- a name that is a label already is found as before
    found_old : 0 < link_at t b x₀ → is_label_of s m t b ≡ true
    unfolding is_label_of end_of
    found_old p = ends s m t b f.later b 0 (head_of m) 0 (λ h. h) (omega arith) p

    bound_is : (n : Name) → is_label_of s n T (suc b) ≡ elem n (m ∷ labels_in s t b)
    unfolding elem
    bound_is n = ⊎_elim
        (λ (q : eq_name n m ≡ true).
        let g : n ≡ m = eq_name-true n m q in
        rw (g, eq_name_refl m) (y_cases
        (λ e r. found_new e r)
        (λ p r. found_still m (λ e z. absurd (omega arith)) ∙ found_old p)))
        (λ (q : eq_name n m ≡ false). rw q (found_still n (λ e r. q) ∙ f.is n))
        (yes_no (eq_name n m))

    pub finds_bind : Finds s (labelled s at t b) (suc b)
    finds_bind = record {
      is = λ n. bound_is n ∙ ap (elem n) (sym labels_bind);
      later = λ i e h k p. ⊎_elim
          (λ (q : suc i ≤ b). ⊎_elim
          (λ (z : eqb (65 + 4 * i + e) y ≡ true). y_cases
          (λ a r. let w : link_at T (suc b) (65 + 4 * i + e) ≡ suc b = rw (eqb-true (65 + 4 * i + e) y z ∙ r) (link_new a r) in omega arith)
          (λ a r. absurd (let w = eqb-true (65 + 4 * i + e) y z in omega arith)))
          (λ (z : eqb (65 + 4 * i + e) y ≡ false).
          let l = link_before (suc b) (65 + 4 * i + e) (omega arith) (omega arith) (omega arith) (eqb-false (65 + 4 * i + e) y z) in
          rw l (f.later i e q k (rw l at p)))
          (yes_no (eqb (65 + 4 * i + e) y)))
          (λ (q : b < suc i). absurd (let g : i ≡ b = omega arith in let w : link_at T (suc b) (65 + 4 * i + e) ≡ 0 = rw g (link_own e k) in omega arith))
          (within (suc i) b);
    }
