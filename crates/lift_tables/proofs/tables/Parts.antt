-- A number more in one part of the sheet, a name more behind them, and the lengths of the parts.
-- Assumes nothing.
use mathlib.Core.Path.{◌≡◌, refl, sym, ap, ◌∙◌}
use mathlib.Core.List.{List, [], ◌∷◌, ◌++◌, append-nil}
use Prim.Native.Nat.{ℕ, zero, suc, ◌+◌, ◌-◌, ◌*◌, ◌/◌, ◌≤◌, ◌<◌, min}
use native.Mathlib.Omega.{arith}
use lib.ListN.{length, take, drop, set, length-take, length-drop}
use lib.Seq.{drop-length, drop-drop, take_at, drop_at, take-take, take-nil, take_all, take-set-le, take-set-lt, drop-set-add, drop-set-lt, set_out, length-take-le}
use Rattle.lift_tables.specs.tables.Parts.{pairs, order_in, rows_in_of, params_in, made_in, Parts, StoredIn}
use Rattle.lift_tables.proofs.tables.Pairs.{pairs-length, pairs_set}

-- ---- the part of any table from a on, n numbers long
module _ (t : List ℕ) (a n i x : ℕ) where
  -- past the part's end, or the table's, nothing is stored
  pub stored_out : min n ((length t - a) / 2) ≤ i → StoredIn t a n i x t
  stored_out h = record { part = sym (set_out (pairs (take (2 * n) (drop a t))) i x (simp (pairs-length, length-take, length-drop) (omega arith))); before = refl; behind = refl }

  pub stored_in : (lo hi : ℕ) → lo + hi * 256 ≡ x → i < n → a + 2 * i + 1 < length t → StoredIn t a n i x (set (set t (a + 2 * i) lo) (a + 2 * i + 1) hi)
  stored_in lo hi e h k =
      let one : a + 2 * i + 1 ≡ a + (2 * i + 1) = omega arith in
      record {
        part = rw (one, drop-set-add a (set t (a + 2 * i) lo) (2 * i + 1) hi, drop-set-add a t (2 * i) lo, take-set-lt (2 * n) (set (drop a t) (2 * i) lo) (2 * i + 1) hi (omega arith), take-set-lt (2 * n) (drop a t) (2 * i) lo (omega arith))
            (pairs_set (take (2 * n) (drop a t)) i lo hi (simp (length-take, length-drop) (omega arith)) ∙ ap (λ (y : ℕ). set (pairs (take (2 * n) (drop a t))) i y) e);
        before = take-set-le a (set t (a + 2 * i) lo) (a + 2 * i + 1) hi (omega arith) ∙ take-set-le a t (a + 2 * i) lo (omega arith);
        behind = drop-set-lt (a + 2 * n) (set t (a + 2 * i) lo) (a + 2 * i + 1) hi (omega arith) ∙ drop-set-lt (a + 2 * n) t (a + 2 * i) lo (omega arith);
      }

cut : (b m : ℕ) (t : List ℕ) → take m (drop b t) ≡ drop b (take (b + m) t)
cut zero m t = let e : 0 + m ≡ m = omega arith in rw e
cut (suc b) m [] = let e : suc b + m ≡ suc (b + m) = omega arith in rw e (take-nil m)
cut (suc b) m (y ∷ t) = let e : suc b + m ≡ suc (b + m) = omega arith in rw e (cut b m t)

-- what stands before a place up to which nothing has changed
module _ (t t' : List ℕ) (a : ℕ) (e : take a t' ≡ take a t) where
  front : (b : ℕ) → b ≤ a → take b t' ≡ take b t
  front b h = sym (take-take b a t' h) ∙ ap (λ (z : List ℕ). take b z) e ∙ take-take b a t h

  taken : (b m : ℕ) → b + m ≤ a → take m (drop b t') ≡ take m (drop b t)
  taken b m h = cut b m t' ∙ ap (λ (z : List ℕ). drop b z) (front (b + m) h) ∙ sym (cut b m t)

-- what stands behind a part
rest : {t : List ℕ} {a n i x : ℕ} {t' : List ℕ} → StoredIn t a n i x t' → (b : ℕ) → a + 2 * n ≤ b → drop b t' ≡ drop b t
rest {t} {a} {n} {i} {x} {t'} s b h =
    let e : a + 2 * n + (b - (a + 2 * n)) ≡ b = omega arith in
    ap (λ (k : ℕ). drop k t') (sym e) ∙ sym (drop-drop (b - (a + 2 * n)) (a + 2 * n) t') ∙ ap (λ (z : List ℕ). drop (b - (a + 2 * n)) z) s.behind ∙ drop-drop (b - (a + 2 * n)) (a + 2 * n) t
    ∙ ap (λ (k : ℕ). drop k t) e

-- ---- each of the three
module _ {t : List ℕ} {i x : ℕ} {t' : List ℕ} where
  pub order_stored : StoredIn t 0 512 i x t' → Parts t' (set (order_in t) i x) (rows_in_of t) (params_in t) (made_in t)
  unfolding order_in rows_in_of params_in made_in
  order_stored s = record {
    order = s.part;
    rows = ap (λ (z : List ℕ). pairs (take 5120 z)) (rest s 1024 (omega arith));
    params = ap (λ (z : List ℕ). pairs (take 26216 z)) (rest s 6144 (omega arith));
    made = rest s 32360 (omega arith);
  }

  pub rows_stored : StoredIn t 1024 2560 i x t' → Parts t' (order_in t) (set (rows_in_of t) i x) (params_in t) (made_in t)
  unfolding order_in rows_in_of params_in made_in
  rows_stored s = record {
    order = ap pairs (front t t' 1024 s.before 1024 (omega arith));
    rows = s.part;
    params = ap (λ (z : List ℕ). pairs (take 26216 z)) (rest s 6144 (omega arith));
    made = rest s 32360 (omega arith);
  }

  pub params_stored : StoredIn t 6144 13108 i x t' → Parts t' (order_in t) (rows_in_of t) (set (params_in t) i x) (made_in t)
  unfolding order_in rows_in_of params_in made_in
  params_stored s = record {
    order = ap pairs (front t t' 6144 s.before 1024 (omega arith));
    rows = ap pairs (taken t t' 6144 s.before 1024 5120 (omega arith));
    params = s.part;
    made = rest s 32360 (omega arith);
  }

-- the names have no end but the table's
pub made_stored : (t t' m : List ℕ) → take 32360 t' ≡ take 32360 t → drop 32360 t' ≡ m → Parts t' (order_in t) (rows_in_of t) (params_in t) m
unfolding order_in rows_in_of params_in made_in
made_stored t t' m e f = record { order = ap pairs (front t t' 32360 e 1024 (omega arith)); rows = ap pairs (taken t t' 32360 e 1024 5120 (omega arith)); params = ap pairs (taken t t' 32360 e 6144 26216 (omega arith)); made = f }

-- ---- how long the parts of a long table are
pub part_lengths : (t : List ℕ) → 32360 ≤ length t → (length (order_in t) ≡ 512) × (length (rows_in_of t) ≡ 2560) × (length (params_in t) ≡ 13108) × (length (made_in t) ≡ length t - 32360)
unfolding order_in rows_in_of params_in made_in
part_lengths t h = (
  pairs-length (take 1024 t) ∙ ap (λ (n : ℕ). n / 2) (length-take-le 1024 t (omega arith)),
  pairs-length (take 5120 (drop 1024 t)) ∙ ap (λ (n : ℕ). n / 2) (length-take-le 5120 (drop 1024 t) (simp length-drop (omega arith))),
  pairs-length (take 26216 (drop 6144 t)) ∙ ap (λ (n : ℕ). n / 2) (length-take-le 26216 (drop 6144 t) (simp length-drop (omega arith))),
  length-drop 32360 t,
)

-- ---- how the names are lent, and given back
pub made_lent : (t : List ℕ) → take (length t - 32360) (drop 32360 t) ≡ made_in t
unfolding made_in
made_lent t = take_all (length t - 32360) (drop 32360 t) (simp length-drop (omega arith))

pub made_back : (t m : List ℕ) → 32360 ≤ length t → Parts (take 32360 t ++ (m ++ drop (length t - 32360) (drop 32360 t))) (order_in t) (rows_in_of t) (params_in t) m
made_back t m h =
    let l : length (take 32360 t) ≡ 32360 = length-take-le 32360 t h in
    let e : 32360 + (length t - 32360) ≡ length t = omega arith in
    let d : drop (length t - 32360) (drop 32360 t) ≡ [] = drop-drop (length t - 32360) 32360 t ∙ ap (λ (k : ℕ). drop k t) e ∙ drop-length t in
    let n : m ++ drop (length t - 32360) (drop 32360 t) ≡ m = ap (λ (z : List ℕ). m ++ z) d ∙ append-nil m in
    made_stored t (take 32360 t ++ (m ++ drop (length t - 32360) (drop 32360 t))) m (take_at (take 32360 t) (m ++ drop (length t - 32360) (drop 32360 t)) 32360 l) (drop_at (take 32360 t) (m ++ drop (length t - 32360) (drop 32360 t)) 32360 l ∙ n)
