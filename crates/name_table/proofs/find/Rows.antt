-- The rows of the names taken, and lookup among them.
-- Assumes nothing.
use mathlib.Core.Path.{◌≡◌, refl, sym, ap, ◌∙◌}
use mathlib.Core.Logic.{⊎_elim}
use mathlib.Core.List.{List}
use mathlib.Core.Bool.{Bool, true, false}
use Prim.Native.Nat.{ℕ, zero, suc, ◌≤◌, ◌<◌}
use native.Mathlib.Omega.{arith}
use native.Mathlib.Nat.{eq-or-lt_of_le}
use lib.ListN.{length}
use Rattle.std.specs.Prelude.{Option, None, Some, is_some}
use Rattle.definition.specs.Tree.{Name}
use Rattle.definition.specs.Names.{eq_name, elem}
use Rattle.layout.proofs.lookup.Names.{yes_no, not_both, ne_length, eq_name-true}
use Rattle.name_table.specs.forks.Forks.{slot_of, row_at}
use Rattle.name_table.specs.forks.Leads.{row_of}
use Rattle.name_table.proofs.forks.Rows.{leads_before, leads_nowhere}
use Rattle.name_table.specs.taken.Taken.{Store, row, taken, Table}
use Rattle.name_table.specs.find.Found.{Found}

-- ---- rows
module _ (x : Name) (names : Store) (places : List ℕ) where
  pub not_taken : (n : ℕ) → ((j : ℕ) → j < n → eq_name x (row names places j) ≡ false) → elem x (taken names places n) ≡ false
  unfolding elem taken
  not_taken zero f = refl
  not_taken (suc n) f = rw (f n (omega arith)) (not_taken n (λ j h. f j (omega arith)))

  pub is_taken : (n j : ℕ) → j < n → eq_name x (row names places j) ≡ true → elem x (taken names places n) ≡ true
  unfolding elem taken
  is_taken zero j h e = absurd (omega arith)
  is_taken (suc n) j h e = ⊎_elim
      (λ (q : eq_name x (row names places n) ≡ true). rw q)
      (λ (q : eq_name x (row names places n) ≡ false). rw q (is_taken n j (other q) e))
      (yes_no (eq_name x (row names places n)))
    where
      other : eq_name x (row names places n) ≡ false → j < n
      other q = ⊎_elim (λ (k : j ≡ n). not_both _ (sym (ap (λ (m : ℕ). eq_name x (row names places m)) k) ∙ e) q) (λ k. k) (eq-or-lt_of_le (omega arith))

  pub found_not : {n : ℕ} → Found x names places n None → elem x (taken names places n) ≡ false
  found_not {n} f = not_taken n f.before

  module _ {n r : ℕ} (f : Found x names places n (Some r)) where
    pub found_is : elem x (taken names places n) ≡ true
    found_is = is_taken n r f.bound f.here

    pub found_name : row names places r ≡ x
    found_name = sym (eq_name-true x (row names places r) f.here)

  -- a row says whether the name is taken
  pub found_some : {n : ℕ} (r : Option ℕ) → Found x names places n r → elem x (taken names places n) ≡ is_some r
  found_some None f = found_not f
  found_some (Some i) f = found_is f

pub long_free : (x : Name) {names : Store} {places ways : List ℕ} {n : ℕ} → Table names places ways n → 255 < length x → elem x (taken names places n) ≡ false
long_free x {names} {places} {ways} {n} t h =
    not_taken x names places n (λ j k. ne_length x (row names places j) (λ e. let z = t.short j k in omega arith))

pub length_taken : (names : Store) (places : List ℕ) (n : ℕ) → length (taken names places n) ≡ n
unfolding taken
length_taken names places zero = refl
length_taken names places (suc n) = ap suc (length_taken names places n)

-- ---- the row to which a name's way leads
module _ {names : Store} {places ways : List ℕ} {n : ℕ} (t : Table names places ways n) (x : Name) where
  module _ {at r : ℕ} (ea : at ≡ slot_of ways x n) (er : row_at ways at n ≡ r) where
    is_row : r ≡ row_of ways x n
    unfolding row_of
    is_row = sym er ∙ rw ea

    pub found_none : n ≤ r → Found x names places n None
    found_none h = record {
      bound = tt;
      before = leads_nowhere t.leads x (λ k. absurd (let z = is_row in omega arith));
      here = tt;
    }

    module _ {other : Name} (eo : other ≡ row names places r) {same : Bool} (es : same ≡ eq_name x other) where
      pub found_here : r < n → same ≡ true → Found x names places n (Some r)
      found_here h e =
          let z = is_row in
          let y : eq_name x (row names places r) ≡ true = sym (ap (eq_name x) eo) ∙ sym es ∙ e in
          record { bound = h; before = λ j k. leads_before t.leads x j (omega arith) (omega arith); here = y }

      pub found_other : r < n → same ≡ false → Found x names places n None
      found_other h e =
          let z = is_row in
          let y : eq_name x (row names places r) ≡ false = sym (ap (eq_name x) eo) ∙ sym es ∙ e in
          record { bound = tt; before = leads_nowhere t.leads x (λ k. rw z at y); here = tt }
