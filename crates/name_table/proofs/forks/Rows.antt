-- Rows and the ways to them: none, others of the same names, and a row more.
-- Assumes nothing.
use mathlib.Core.Path.{◌≡◌, refl, sym, ap, ◌∙◌}
use mathlib.Core.Logic.{◌⊎◌, inl, inr, ⊎_elim}
use mathlib.Core.Bool.{false}
use mathlib.Core.List.{List}
use Prim.Native.Nat.{ℕ, suc, ◌+◌, ◌*◌, ◌-◌, ◌/◌, ◌%◌, ◌≤◌, ◌<◌}
use native.Mathlib.Omega.{arith}
use native.Mathlib.Nat.{eq-or-lt_of_le}
use native.Mathlib.Numerals.{add-one}
use lib.ListN.{length, get_or, set, replicate, length-set, get_or-replicate}
use lib.Seq.{get_or-set_same, get_or-set_other}
use Rattle.definition.specs.Tree.{Name}
use Rattle.definition.specs.Names.{eq_name}
use Rattle.layout.proofs.lookup.Names.{not_both, ne_name, eq_name_refl}
use Rattle.layout.specs.hash.Hash.{bit_at}
use Rattle.layout.proofs.hash.Hash.{bit_small}
use Rattle.name_table.specs.forks.Forks.{fork_at, slot_of, apart_at, Apart, entered_at}
use Rattle.name_table.specs.forks.Leads.{row_of, Ends, Leads, Clear}
use Rattle.name_table.proofs.forks.Steps.{row_none, row_is, entered_none, entered_same, entered_fork}
use Rattle.name_table.proofs.forks.Ways.{same_or_not, le-or-lt, stops, end_low, end_row, kept, moved}

-- no row
pub leads_none : (f : ℕ → Name) (t : List ℕ) → Clear t → 256 ≤ length t → Leads f t 0
unfolding row_of
leads_none f t c h = record {
  few = omega arith;
  long = omega arith;
  ends = λ m. inl (c.heads (length m % 256) (omega arith));
  alike = λ m k. absurd (omega arith);
  first = λ i k. absurd (omega arith);
  is = λ i k. absurd (omega arith);
}

-- a new table
pub clear_new : (n : ℕ) → 256 ≤ n → Clear (replicate n 0)
clear_new n h = record { heads = λ x k. get_or-replicate n x 0 0 (omega arith) }

-- the same names
pub leads_same : {f g : ℕ → Name} {t : List ℕ} {n : ℕ} → Leads f t n → ((i : ℕ) → i < n → g i ≡ f i) → Leads g t n
leads_same {f} {g} {t} {n} l e = record {
  few = l.few;
  long = l.long;
  ends = l.ends;
  alike = λ m k. rw (e (row_of t m n) k) (l.alike m k);
  first = λ i k. rw (e i k) (l.first i k);
  is = λ i k. rw (e i k, e (row_of t (f i) n) (let z = l.first i k in omega arith)) (l.is i k);
}

-- what a look-up finds: the first row of the name, or none
module _ {f : ℕ → Name} {t : List ℕ} {n : ℕ} (l : Leads f t n) (m : Name) where
  first_of : (j : ℕ) → j < n → f j ≡ m → (row_of t m n ≤ j) × (f (row_of t m n) ≡ m)
  first_of j h e = rw (← e) (l.first j h, l.is j h)

  -- no row before the one to which its way leads has the name
  pub leads_before : (j : ℕ) → j < n → j < row_of t m n → eq_name m (f j) ≡ false
  leads_before j h k = ne_name m (f j) (λ q. absurd (let z = (first_of j h (sym q)).0 in omega arith))

  -- and none at all, where that one has another
  pub leads_nowhere : (row_of t m n < n → eq_name m (f (row_of t m n)) ≡ false) → (j : ℕ) → j < n → eq_name m (f j) ≡ false
  leads_nowhere e j h = ne_name m (f j) (λ q.
      let z = first_of j h (sym q) in
      not_both _ (ap (eq_name m) z.1 ∙ eq_name_refl m) (e (let y = z.0 in omega arith)))

-- ---- a way that ends
module _ (t : List ℕ) (m : Name) (n : ℕ) (few : n ≤ 65535) (e : Ends t m n n (length m % 256)) where
  abbrev at : ℕ
  at = slot_of t m n

  slot_low : at < 256 + 2 * n
  unfolding slot_of
  slot_low = end_low t m n few n (length m % 256) e

  slot_row : (0 < get_or t at 0) × (get_or t at 0 ≤ n)
  unfolding slot_of
  slot_row = end_row t m n few n (length m % 256) e

  ends_row : row_of t m n ≡ get_or t at 0 - 1
  unfolding row_of
  ends_row = let r = slot_row in row_is t at n refl r.0 r.1

one_more : (t : List ℕ) (m : Name) (n k x : ℕ) → Ends t m n (suc k) x → Ends t m n (k + 1) x
one_more t m n k x e = rw (add-one k) e

-- one that has not begun
begun_not : (t : List ℕ) (m : Name) (n : ℕ) → get_or t (length m % 256) 0 ≡ 0 → (slot_of t m n ≡ length m % 256) × (row_of t m n ≡ n)
unfolding row_of slot_of
begun_not t m n e =
    let s = stops t m n (length m % 256) (omega arith) in
    (s, rw s (row_none t (length m % 256) n refl e))

-- ---- the table t with row n as well, u, which differs from t at p alone, where t has no fork
module _ (t u : List ℕ) (n p : ℕ) (few : n < 65535) (same : (x : ℕ) → x < 256 + 2 * n → (x ≡ p → ⊥) → get_or u x 0 ≡ get_or t x 0) (stop : p < 256 + 2 * n → get_or t p 0 < 65536) (m : Name) (e : Ends t m n n (length m % 256)) where
  -- ways that end elsewhere stay
  module _ (q : slot_of t m n ≡ p → ⊥) where
    stays_ends : Ends u m (n + 1) (n + 1) (length m % 256)
    unfolding slot_of
    stays_ends = one_more u m (n + 1) n (length m % 256) (kept t u n p (omega arith) same stop m n (length m % 256) e q).0

    stays_slot : slot_of u m (n + 1) ≡ slot_of t m n
    unfolding slot_of
    stays_slot = rw (add-one n) (kept t u n p (omega arith) same stop m n (length m % 256) e q).1

    stays_row : row_of u m (n + 1) ≡ row_of t m n
    stays_row =
        let g = same (slot_of t m n) (slot_low t m n (omega arith) e) q in
        ends_row u m (n + 1) (omega arith) stays_ends ∙ rw (stays_slot, g) (sym (ends_row t m n (omega arith) e))

  -- ways that end there go on by a fork
  module _ (q : slot_of t m n ≡ p) (w : ℕ) (fork : get_or u p 0 ≡ 65536 + w) (own : w / 4096 ≡ n) (low : fork_at m w < 256 + 2 * (n + 1)) (some : 0 < get_or u (fork_at m w) 0) (row : get_or u (fork_at m w) 0 ≤ n + 1) where
    moves_ends : Ends u m (n + 1) (n + 1) (length m % 256)
    unfolding slot_of
    moves_ends = one_more u m (n + 1) n (length m % 256) (moved t u n p (omega arith) same stop m w fork own low some row (omega arith) n (length m % 256) e q).0

    moves_row : row_of u m (n + 1) ≡ get_or u (fork_at m w) 0 - 1
    unfolding slot_of
    moves_row =
        let z = (moved t u n p (omega arith) same stop m w fork own low some row (omega arith) n (length m % 256) e q).1 in
        ends_row u m (n + 1) (omega arith) moves_ends ∙ rw (add-one n, z)

-- ---- a row more
module _ {f g : ℕ → Name} {t : List ℕ} {n : ℕ} (l : Leads f t n) (few : n < 65535) (room : 256 + 2 * (n + 1) ≤ length t) (old : (i : ℕ) → i < n → g i ≡ f i) (name : Name) (new : g n ≡ name) where
  abbrev p : ℕ
  p = slot_of t name n

  abbrev r : ℕ
  r = row_of t name n

  -- what is left to see of a table u
  record More (u : List ℕ) : Type 0 where
    long : length u ≡ length t
    ends : (m : Name) → (get_or u (length m % 256) 0 ≡ 0) ⊎ Ends u m (n + 1) (n + 1) (length m % 256)
    alike : (m : Name) → row_of u m (n + 1) < n + 1 → length (g (row_of u m (n + 1))) % 256 ≡ length m % 256
    olds : (i : ℕ) → i < n → row_of u (f i) (n + 1) ≡ row_of t (f i) n
    own : (row_of u name (n + 1) ≤ n) × (g (row_of u name (n + 1)) ≡ name)

  more : (u : List ℕ) → More u → Leads g u (n + 1)
  more u k = record {
    few = omega arith;
    long = rw k.long room;
    ends = k.ends;
    alike = k.alike;
    first = λ i h. ⊎_elim
        (λ (e : i ≡ n). rw (e, new) k.own.0)
        (λ (e : i < n). rw (old i e, k.olds i e) (l.first i e))
        (eq-or-lt_of_le (omega arith));
    is = λ i h. ⊎_elim
        (λ (e : i ≡ n). rw (e, new) k.own.1)
        (λ (e : i < n). rw (old i e, k.olds i e, old (row_of t (f i) n) (let z = l.first i e in omega arith)) (l.is i e))
        (eq-or-lt_of_le (omega arith));
  }

  -- the way of a row's name ends
  row_ends : (i : ℕ) → i < n → Ends t (f i) n n (length (f i) % 256)
  row_ends i h = ⊎_elim
      (λ (e : get_or t (length (f i) % 256) 0 ≡ 0). absurd (let z = (begun_not t (f i) n e).1 in let y = l.first i h in omega arith))
      (λ (e : Ends t (f i) n n (length (f i) % 256)). e)
      (l.ends (f i))

  old_alike : (m : Name) → row_of t m n < n → length (g (row_of t m n)) % 256 ≡ length m % 256
  old_alike m h = rw (old (row_of t m n) h) (l.alike m h)

  row_low : (m : Name) → Ends t m n n (length m % 256) → row_of t m n < n
  row_low m e = let z = ends_row t m n (omega arith) e in let y = slot_row t m n (omega arith) e in omega arith

  -- the first name of its length
  module _ (e : get_or t p 0 ≡ 0) where
    abbrev u : List ℕ
    u = set t p (n + 1)

    at_head : (get_or t (length name % 256) 0 ≡ 0) × (p ≡ length name % 256)
    at_head = ⊎_elim
        (λ (z : get_or t (length name % 256) 0 ≡ 0). (z, (begun_not t name n z).0))
        (λ (z : Ends t name n n (length name % 256)). absurd (let y = (slot_row t name n (omega arith) z).0 in omega arith))
        (l.ends name)

    same_but : (x : ℕ) → (x ≡ p → ⊥) → get_or u x 0 ≡ get_or t x 0
    same_but x q = get_or-set_other t p x (n + 1) 0 q

    here : get_or u p 0 ≡ n + 1
    here = get_or-set_same t p (n + 1) 0 (let z = at_head.1 in omega arith)

    -- a name of that length
    head_ends : (m : Name) → length m % 256 ≡ p → Ends u m (n + 1) (n + 1) (length m % 256)
    unfolding Ends
    head_ends m q = one_more u m (n + 1) n (length m % 256) (rw (q, here) (omega (arith, at_head.1), omega arith, inl (omega arith)))

    head_row : (m : Name) → length m % 256 ≡ p → row_of u m (n + 1) ≡ n
    unfolding slot_of
    head_row m q =
        let s : slot_of u m (n + 1) ≡ p = stops u m (n + 1) (length m % 256) (rw (q, here) (omega arith)) ∙ q in
        ends_row u m (n + 1) (omega arith) (head_ends m q) ∙ rw (s, here) (omega arith)

    -- a name of another
    not_there : (m : Name) → Ends t m n n (length m % 256) → slot_of t m n ≡ p → ⊥
    not_there m z q = let y = (slot_row t m n (omega arith) z).0 in let w : 0 < get_or t p 0 = rw q at y in omega arith

    none_more : More u
    none_more = record {
      long = length-set t p (n + 1);
      ends = λ m. ⊎_elim
          (λ (z : get_or t (length m % 256) 0 ≡ 0). ⊎_elim
          (λ (q : length m % 256 ≡ p). inr (head_ends m q))
          (λ (q : length m % 256 ≡ p → ⊥). inl (same_but (length m % 256) q ∙ z))
          (same_or_not (length m % 256) p))
          (λ (z : Ends t m n n (length m % 256)). inr (stays_ends t u n p few (λ x h. same_but x) (λ h. omega arith) m z (not_there m z)))
          (l.ends m);
      alike = λ m h. ⊎_elim
          (λ (z : get_or t (length m % 256) 0 ≡ 0). ⊎_elim
          (λ (q : length m % 256 ≡ p). rw (head_row m q, new) (sym at_head.1 ∙ sym q))
          (λ (q : length m % 256 ≡ p → ⊥). absurd (let y = (begun_not u m (n + 1) (same_but (length m % 256) q ∙ z)).1 in omega arith))
          (same_or_not (length m % 256) p))
          (λ (z : Ends t m n n (length m % 256)). rw (stays_row t u n p few (λ x h. same_but x) (λ h. omega arith) m z (not_there m z)) (old_alike m (row_low m z)))
          (l.ends m);
      olds = λ i h. stays_row t u n p few (λ x k. same_but x) (λ k. omega arith) (f i) (row_ends i h) (not_there (f i) (row_ends i h));
      own = let z = head_row name (sym at_head.1) in (omega arith, rw z new);
    }

  -- a name whose way leads to a row
  module _ (e : get_or t p 0 ≡ 0 → ⊥) where
    name_ends : Ends t name n n (length name % 256)
    name_ends = ⊎_elim
        (λ (z : get_or t (length name % 256) 0 ≡ 0). absurd (e (rw (begun_not t name n z).0 z)))
        (λ (z : Ends t name n n (length name % 256)). z)
        (l.ends name)

    pub led : r < n
    led = row_low name name_ends

    -- that has the same name
    same_more : f r ≡ name → More t
    same_more k = record {
      long = refl;
      ends = λ m. ⊎_elim (λ (z : get_or t (length m % 256) 0 ≡ 0). inl z) (λ (z : Ends t m n n (length m % 256)). inr (stays_ends t t n (256 + 2 * n) few (λ x h q. refl) (λ h. absurd (omega arith)) m z (far m z))) (l.ends m);
      alike = λ m h. ⊎_elim
          (λ (z : get_or t (length m % 256) 0 ≡ 0). absurd (let y = (begun_not t m (n + 1) z).1 in omega arith))
          (λ (z : Ends t m n n (length m % 256)). rw (stay m z) (old_alike m (row_low m z)))
          (l.ends m);
      olds = λ i h. stay (f i) (row_ends i h);
      own = let z = stay name name_ends in let y = led in (omega arith, rw (z, old r y) k);
    }
      where
        far : (m : Name) → Ends t m n n (length m % 256) → slot_of t m n ≡ 256 + 2 * n → ⊥
        far m z q = let y = slot_low t m n (omega arith) z in omega arith

        stay : (m : Name) → Ends t m n n (length m % 256) → row_of t m (n + 1) ≡ row_of t m n
        stay m z = stays_row t t n (256 + 2 * n) few (λ x h q. refl) (λ h. absurd (omega arith)) m z (far m z)

    -- that has another name, from which a bit tells it apart
    module _ (d : ℕ) (small : d < 4096) (differ : bit_at name d ≡ bit_at (f r) d → ⊥) where
      abbrev side : ℕ
      side = bit_at name d

      abbrev v : ℕ
      v = get_or t p 0

      abbrev t₁ : List ℕ
      t₁ = set t (256 + 2 * n + side) (n + 1)

      abbrev t₂ : List ℕ
      t₂ = set t₁ (257 + 2 * n - side) v

      abbrev fork : ℕ
      fork = 65536 + 4096 * n + d

      abbrev fu : List ℕ
      fu = set t₂ p fork

      abbrev w : ℕ
      w = 4096 * n + d

      side_small : side ≤ 1
      side_small = bit_small name d

      p_low : p < 256 + 2 * n
      p_low = slot_low t name n (omega arith) name_ends

      v_row : (0 < v) × (v ≤ n)
      v_row = slot_row t name n (omega arith) name_ends

      r_is : r ≡ v - 1
      r_is = ends_row t name n (omega arith) name_ends

      same_else : (x : ℕ) → x < 256 + 2 * n → (x ≡ p → ⊥) → get_or fu x 0 ≡ get_or t x 0
      same_else x h q =
          let b = side_small in
          get_or-set_other t₂ p x fork 0 q ∙ get_or-set_other t₁ (257 + 2 * n - side) x v 0 (λ (z : x ≡ 257 + 2 * n - side). omega arith) ∙ get_or-set_other t (256 + 2 * n + side) x (n + 1) 0 (λ (z : x ≡ 256 + 2 * n + side). omega arith)

      at_p : get_or fu p 0 ≡ 65536 + w
      at_p = let a = p_low in get_or-set_same t₂ p fork 0 (rw (length-set, length-set) (omega arith)) ∙ (let z : 65536 + 4096 * n + d ≡ 65536 + (4096 * n + d) = omega arith in z)

      own_row : w / 4096 ≡ n
      own_row = omega arith

      fork_is : (m : Name) → fork_at m w ≡ 256 + 2 * n + bit_at m d
      unfolding fork_at
      fork_is m = let z : w % 4096 ≡ d = omega arith in rw (own_row, z)

      new_side : (m : Name) → bit_at m d ≡ side → get_or fu (fork_at m w) 0 ≡ n + 1
      new_side m q =
          let b = side_small in
          let a = p_low in
          rw (fork_is m, q)
          (get_or-set_other t₂ p (256 + 2 * n + side) fork 0 (λ (z : 256 + 2 * n + side ≡ p). omega arith)
          ∙ get_or-set_other t₁ (257 + 2 * n - side) (256 + 2 * n + side) v 0 (λ (z : 256 + 2 * n + side ≡ 257 + 2 * n - side). omega arith)
          ∙ get_or-set_same t (256 + 2 * n + side) (n + 1) 0 (omega arith))

      old_side : (m : Name) → (bit_at m d ≡ side → ⊥) → get_or fu (fork_at m w) 0 ≡ v
      old_side m q =
          let b = side_small in
          let k = bit_small m d in
          let a = p_low in
          let z : 256 + 2 * n + bit_at m d ≡ 257 + 2 * n - side = other_side (bit_at m d) side k b q in
          rw (fork_is m, z)
          (get_or-set_other t₂ p (257 + 2 * n - side) fork 0 (λ (z : 257 + 2 * n - side ≡ p). omega arith)
          ∙ get_or-set_same t₁ (257 + 2 * n - side) v 0 (rw length-set (omega arith)))
        where
          other_side : (x y : ℕ) → x ≤ 1 → y ≤ 1 → (x ≡ y → ⊥) → 256 + 2 * n + x ≡ 257 + 2 * n - y
          other_side x y h k q = ⊎_elim
              (λ (z : x ≤ y). ⊎_elim (λ (i : x ≡ y). absurd (q i)) (λ (i : x < y). omega arith) (eq-or-lt_of_le z))
              (λ (z : y < x). omega arith)
              (le-or-lt x y)

      stop : p < 256 + 2 * n → v < 65536
      stop h = let y = v_row in omega arith

      -- the way of a name that came to that row: it goes on by the fork
      module _ (m : Name) (z : Ends t m n n (length m % 256)) (q : slot_of t m n ≡ p) where
        turn : ((bit_at m d ≡ side) × (get_or fu (fork_at m w) 0 ≡ n + 1)) ⊎ ((bit_at m d ≡ side → ⊥) × (get_or fu (fork_at m w) 0 ≡ v))
        turn = ⊎_elim (λ (k : bit_at m d ≡ side). inl (k, new_side m k)) (λ (k : bit_at m d ≡ side → ⊥). inr (k, old_side m k)) (same_or_not (bit_at m d) side)

        turn_row : (0 < get_or fu (fork_at m w) 0) × (get_or fu (fork_at m w) 0 ≤ n + 1)
        turn_row = let y = v_row in ⊎_elim
            (λ (k : (bit_at m d ≡ side) × (get_or fu (fork_at m w) 0 ≡ n + 1)). let x = k.1 in (omega arith, omega arith))
            (λ (k : (bit_at m d ≡ side → ⊥) × (get_or fu (fork_at m w) 0 ≡ v)). let x = k.1 in (omega arith, omega arith))
            turn

        turn_low : fork_at m w < 256 + 2 * (n + 1)
        turn_low = let y = bit_small m d in rw (fork_is m) (omega arith)

        goes_ends : Ends fu m (n + 1) (n + 1) (length m % 256)
        goes_ends = moves_ends t fu n p few same_else stop m z q w at_p own_row turn_low turn_row.0 turn_row.1

        goes_row : row_of fu m (n + 1) ≡ get_or fu (fork_at m w) 0 - 1
        goes_row = moves_row t fu n p few same_else stop m z q w at_p own_row turn_low turn_row.0 turn_row.1

        -- to the new row, or to the one that it came to
        goes_new : bit_at m d ≡ side → row_of fu m (n + 1) ≡ n
        goes_new k = goes_row ∙ rw (new_side m k) (omega arith)

        goes_old : (bit_at m d ≡ side → ⊥) → row_of fu m (n + 1) ≡ r
        goes_old k = goes_row ∙ rw (old_side m k) (sym r_is)

        came : row_of t m n ≡ r
        came = ends_row t m n (omega arith) z ∙ rw q (sym r_is)

      stay : (m : Name) (z : Ends t m n n (length m % 256)) → (slot_of t m n ≡ p → ⊥) → row_of fu m (n + 1) ≡ row_of t m n
      stay m z q = stays_row t fu n p few same_else stop m z q

      head_none : (m : Name) → get_or t (length m % 256) 0 ≡ 0 → get_or fu (length m % 256) 0 ≡ 0
      head_none m z = same_else (length m % 256) (omega arith) (λ (q : length m % 256 ≡ p). e (rw (← q) z)) ∙ z

      fork_more : More fu
      fork_more = record {
        long = rw (length-set, length-set, length-set);
        ends = λ m. ⊎_elim
            (λ (z : get_or t (length m % 256) 0 ≡ 0). inl (head_none m z))
            (λ (z : Ends t m n n (length m % 256)). inr (⊎_elim (goes_ends m z) (stays_ends t fu n p few same_else stop m z) (same_or_not (slot_of t m n) p)))
            (l.ends m);
        alike = λ m h. ⊎_elim
            (λ (z : get_or t (length m % 256) 0 ≡ 0). absurd (let y = (begun_not fu m (n + 1) (head_none m z)).1 in omega arith))
            (λ (z : Ends t m n n (length m % 256)). ⊎_elim (λ (q : slot_of t m n ≡ p). there m z q) (λ (q : slot_of t m n ≡ p → ⊥). rw (stay m z q) (old_alike m (row_low m z))) (same_or_not (slot_of t m n) p))
            (l.ends m);
        olds = λ i h. ⊎_elim (λ (q : slot_of t (f i) n ≡ p). back i h q) (λ (q : slot_of t (f i) n ≡ p → ⊥). stay (f i) (row_ends i h) q) (same_or_not (slot_of t (f i) n) p);
        own = let z = goes_new name name_ends refl refl in (omega arith, rw z new);
      }
        where
          there : (m : Name) (z : Ends t m n n (length m % 256)) (q : slot_of t m n ≡ p) → length (g (row_of fu m (n + 1))) % 256 ≡ length m % 256
          there m z q =
              let c = came m z q in
              let a : length (g r) % 256 ≡ length m % 256 = rw c at (old_alike m (row_low m z)) in
              ⊎_elim
              (λ (k : bit_at m d ≡ side). rw (goes_new m z q k, new) (sym (old_alike name led) ∙ a))
              (λ (k : bit_at m d ≡ side → ⊥). rw (goes_old m z q k) a)
              (same_or_not (bit_at m d) side)

          back : (i : ℕ) → i < n → slot_of t (f i) n ≡ p → row_of fu (f i) (n + 1) ≡ row_of t (f i) n
          back i h q =
              let z = row_ends i h in
              let c = came (f i) z q in
              let k : f r ≡ f i = rw c at (l.is i h) in
              goes_old (f i) z q (λ (x : bit_at (f i) d ≡ side). differ (rw k (sym x))) ∙ sym c

  -- the row behind the others gets the name, where other is that of the row to which its way led
  pub leads_more : length name ≤ 255 → ((i : ℕ) → i < n → length (f i) ≤ 255) → (other : Name) → (r < n → other ≡ f r) → ((get_or t p 0 ≡ 0 → ⊥) → Apart name other) → Leads g (entered_at t name other p n) (n + 1)
  leads_more short shorts other is apart = ⊎_elim
      (λ (e : get_or t p 0 ≡ 0). rw (entered_none t name other p n {d = apart_at name other} refl refl e) (more _ (none_more e)))
      (λ (e : get_or t p 0 ≡ 0 → ⊥). ⊎_elim
      (λ (k : 32 + 8 * length name ≤ apart_at name other). rw (entered_same t name other p n refl refl e k) (more _ (same_more e (sym (is (led e)) ∙ sym ((apart e).same k (lengths e))))))
      (λ (k : apart_at name other < 32 + 8 * length name). rw (← (entered_fork t name other p n refl refl e k refl refl refl refl))
      (more _ (fork_more e (apart_at name other) (omega arith) (λ (z : bit_at name (apart_at name other) ≡ bit_at (f r) (apart_at name other)). (apart e).differ k (z ∙ ap (λ (m : Name). bit_at m (apart_at name other)) (sym (is (led e))))))))
      (le-or-lt (32 + 8 * length name) (apart_at name other)))
      (same_or_not (get_or t p 0) 0)
    where
      lengths : (get_or t p 0 ≡ 0 → ⊥) → length name ≡ length other
      lengths e =
          let h = led e in
          let a = l.alike name h in
          let b = shorts r h in
          let o : length other ≡ length (f r) = ap length (is h) in
          omega arith
