-- What leads on, the way of a name step by step and the label that is bound, in the code's own terms.
-- Assumes nothing.
use mathlib.Core.Path.{◌≡◌, refl, ◌∙◌}
use mathlib.Core.Logic.{◌⊎◌, ⊎_elim}
use mathlib.Core.List.{List}
use mathlib.Core.Bool.{Bool, true, false}
use Prim.Native.Nat.{ℕ, zero, suc, ◌+◌, ◌*◌, ◌-◌, ◌%◌, ◌≤◌, ◌<◌}
use native.Mathlib.Omega.{arith}
use native.Mathlib.Numerals.{sub-one}
use lib.Dec.{eqb}
use lib.ListN.{length, get_or, set}
use borrow.Author.Tests.{eq-eqb, ne_eqb, le-leb, lt-leb}
use Rattle.std.specs.Prelude.{Option, None, Some, is_some, MatchOption}
use Rattle.definition.specs.Tree.{Name}
use Rattle.definition.specs.Names.{eq_name}
use Rattle.layout.specs.lookup.Name.{name_at}
use Rattle.layout.proofs.lookup.Names.{yes_no, not_both}
use Rattle.buffer.proofs.writes.Put.{within}
use Rattle.collect_params.specs.labels.Labels.{head_of, label_at, link_at, fork_at, way_of, end_of, leads_to, is_label_of, slot_of, bind_at}

module _ (t : List ℕ) (b x : ℕ) {v : ℕ} (ev : v ≡ get_or t x 0) where
  -- no label's number stands there
  pub link_none : v ≡ 0 → link_at t b x ≡ 0
  unfolding link_at
  link_none e = ⊎_elim
      (λ (q : eqb (get_or t (67 + 4 * (v - 1)) 0) x ≡ true). rw (← ev, le-leb v b (omega arith), q, e))
      (λ (q : eqb (get_or t (67 + 4 * (v - 1)) 0) x ≡ false). rw (← ev, le-leb v b (omega arith), q))
      (yes_no (eqb (get_or t (67 + 4 * (v - 1)) 0) x))

  -- that of a label that is not in force
  pub link_far : b < v → link_at t b x ≡ 0
  unfolding link_at
  link_far h = rw (← ev, lt-leb v b h)

  pub link_absent : (v ≡ 0) ⊎ ((v ≡ 0 → ⊥) × (b < v)) → link_at t b x ≡ 0
  link_absent = ⊎_elim link_none (λ (h : (v ≡ 0 → ⊥) × (b < v)). link_far h.1)

  module _ (h : v ≤ b) {w : ℕ} (ew : w ≡ get_or t (67 + 4 * (v - 1)) 0) where
    -- that of a label to which another number leads
    pub link_other : (w ≡ x → ⊥) → link_at t b x ≡ 0
    unfolding link_at
    link_other n = rw (← ev, le-leb v b h, ← ew, ne_eqb w x n)

    -- that of the label to which this one leads
    pub link_here : w ≡ x → link_at t b x ≡ v
    unfolding link_at
    link_here e = rw (← ev, le-leb v b h, ← ew, eq-eqb w x e)

module _ (s : List ℕ) (n : Name) (t : List ℕ) (b : ℕ) where
  pub way_start : {x : ℕ} → x ≡ head_of n → end_of s n t b ≡ way_of s n t b (b - 0) 0 x
  unfolding end_of
  way_start e =
      let whole : b - 0 ≡ b = omega arith in
      rw (e, whole)

  pub way_done : (k d x : ℕ) → k ≤ 0 → way_of s n t b k d x ≡ x
  unfolding way_of
  way_done zero d x h = refl
  way_done (suc k) d x h = absurd (omega arith)

  -- nothing leads on
  pub way_end : (k d x : ℕ) → link_at t b x ≡ 0 → way_of s n t b k d x ≡ x
  unfolding way_of
  way_end zero d x e = refl
  way_end (suc k) d x e = rw e

  module _ (x i : ℕ) (ev : link_at t b x ≡ i + 1) {label : Name} (el : label ≡ label_at s t i) {same : Bool} (es : same ≡ eq_name n label) where
    before_it : link_at t b x - 1 ≡ i
    before_it = omega arith

    some_label : eqb (link_at t b x) 0 ≡ false
    some_label = ne_eqb (link_at t b x) 0 (λ q. omega arith)

    -- a label of that name
    pub way_same : (k d : ℕ) → same ≡ true → way_of s n t b k d x ≡ x
    unfolding way_of
    way_same zero d e = refl
    way_same (suc k) d e = rw (some_label, before_it, ← el, ← es, e)

    -- another label
    pub way_on : (k d : ℕ) → 0 < k → same ≡ false → {y : ℕ} → y ≡ fork_at n d i → way_of s n t b k d x ≡ way_of s n t b (k - 1) (d + 1) y
    unfolding way_of
    way_on zero d k e ey = absurd (omega arith)
    way_on (suc j) d k e ey = rw (some_label, before_it, ← el, ← es, e, ← ey, sub-one)

    -- the same, with the steps left counted by the loop
    pub way_next : (d : ℕ) → d < b → same ≡ false → {y : ℕ} → y ≡ fork_at n d i → way_of s n t b (b - d) d x ≡ way_of s n t b (b - (d + 1)) (d + 1) y
    way_next d k e ey =
        let less : (b - d) - 1 ≡ b - (d + 1) = omega arith in
        way_on (b - d) d (omega arith) e ey ∙ rw less

  -- where the way ends: whether a label of that name follows there, and where the number of a new one is to stand
  module _ {x : ℕ} (ex : x ≡ end_of s n t b) where
    pub is_none : link_at t b x ≡ 0 → is_label_of s n t b ≡ false
    unfolding is_label_of leads_to
    is_none e = rw (← ex, e)

    pub is_met : (i : ℕ) → link_at t b x ≡ i + 1 → {label : Name} → label ≡ label_at s t i → is_label_of s n t b ≡ eq_name n label
    unfolding is_label_of leads_to
    is_met i ev el =
        let some : eqb (link_at t b x) 0 ≡ false = ne_eqb (link_at t b x) 0 (λ q. omega arith) in
        let it : link_at t b x - 1 ≡ i = omega arith in
        rw (← ex, some, it, ← el)

    slot_end : (aside : ℕ) → link_at t b x ≡ 0 → slot_of s n t b aside ≡ x
    unfolding slot_of
    slot_end aside e = rw (← ex, e)

    slot_aside : (aside i : ℕ) → link_at t b x ≡ i + 1 → slot_of s n t b aside ≡ aside
    unfolding slot_of
    slot_aside aside i e = rw (← ex, ne_eqb (link_at t b x) 0 (λ q. omega arith))

    abbrev pub Link : Option ℕ → Type 0
    Link l = MatchOption l (link_at t b x ≡ 0) (λ i. (link_at t b x ≡ i + 1) × (i ≤ 4294967294))

    pub slot_open : (aside : ℕ) (l : Option ℕ) → Link l → is_some l ≡ false → slot_of s n t b aside ≡ x
    slot_open aside None h e = slot_end aside h
    slot_open aside (Some i) h e = not_both true refl e

    pub slot_taken : (aside : ℕ) (l : Option ℕ) → Link l → is_some l ≡ true → slot_of s n t b aside ≡ aside
    slot_taken aside None h e = not_both false e refl
    slot_taken aside (Some i) h e = slot_aside aside i h.0

  -- with no label in force nothing leads on
  pub is_empty : b ≡ 0 → is_label_of s n t b ≡ false
  is_empty e =
      let x : ℕ = end_of s n t b in
      is_none refl (⊎_elim (λ (q : get_or t x 0 ≤ b). link_none t b x refl (omega arith)) (λ (q : b < get_or t x 0). link_far t b x refl q) (within (get_or t x 0) b))

-- the label that is bound
module _ (s : List ℕ) (at : ℕ) (t : List ℕ) (b : ℕ) where
  pub bind_none : length t ≤ 64 + 4 * b + 3 → (b ≡ (bind_at s at t b).0) × (t ≡ (bind_at s at t b).1)
  unfolding bind_at
  bind_none h = rw (le-leb (length t) (64 + 4 * b + 3) h) (refl, refl)

  module _ (h : 64 + 4 * b + 3 < length t) {name : Name} (en : name ≡ name_at s at) {x : ℕ} (ex : x ≡ slot_of s name t b (64 + 4 * b + 3)) where
    pub bind_on : {t₁ t₂ t₃ t₄ t₅ : List ℕ} → t₁ ≡ set t (64 + 4 * b) (at % 4294967296) → t₂ ≡ set t₁ (64 + 4 * b + 1) 0 → t₃ ≡ set t₂ (64 + 4 * b + 2) 0 → t₄ ≡ set t₃ x ((b + 1) % 4294967296) → t₅ ≡ set t₄ (64 + 4 * b + 3) (x % 4294967296) → (b + 1 ≡ (bind_at s at t b).0) × (t₅ ≡ (bind_at s at t b).1)
    unfolding bind_at
    bind_on e₁ e₂ e₃ e₄ e₅ = rw (lt-leb (length t) (64 + 4 * b + 3) h, ← en, ← ex, ← e₁, ← e₂, ← e₃, ← e₄) (refl, e₅)
