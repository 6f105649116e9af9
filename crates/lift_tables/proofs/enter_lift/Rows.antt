-- Rows one by one: what a row more leaves, and what it says.
-- Assumes nothing.
use mathlib.Core.Path.{◌≡◌, refl, ◌∙◌}
use mathlib.Core.List.{List, ◌∷◌, ◌++◌}
use Prim.Native.Nat.{ℕ, zero, suc, ◌+◌, ◌-◌, ◌*◌, ◌≤◌, ◌<◌, min}
use native.Mathlib.Omega.{arith}
use native.Mathlib.Numerals.{add-one}
use lib.ListN.{length, take, drop, get_or, set, length-set, length-drop}
use lib.Seq.{get_or-set_same, get_or-set_other}
use Rattle.definition.specs.Tree.{Name}
use Rattle.layout.specs.lookup.Name.{name_at, name_of, place_of}
use Rattle.buffer.specs.writes.Buf.{put}
use Rattle.lift_tables.specs.tables.Rows.{row_at, rows_of}
use Rattle.lift_tables.specs.tables.Parts.{order_in, rows_in_of, params_in, made_in, Parts}
use Rattle.lift_tables.proofs.tables.Parts.{made_lent, made_back}
use Rattle.lift_tables.proofs.tables.Params.{Same, names_kept, types_kept}
use Rattle.name_table.specs.taken.Taken.{both, row, taken, Took}
use Rattle.name_table.proofs.taken.Take.{made_place, name_before}
use Rattle.lift_tables.specs.declared.enter_lift.Counts.{Counts}
use Rattle.lift_tables.specs.enter_lift.Sheet.{RowIn, with_row}
use Rattle.lift_tables.specs.enter_lift.Enters.{Adds}

module _ (d : List ℕ) (i a e n f k : ℕ) where
  pub row_length : length (with_row d i a e n f k) ≡ length d
  unfolding with_row
  row_length = simp length-set

  pub row_before : Same (5 * i) (with_row d i a e n f k) d
  unfolding with_row
  row_before j h = simp (
    get_or-set_other (set (set (set (set d (5 * i) a) (5 * i + 1) e) (5 * i + 2) n) (5 * i + 3) f) (5 * i + 4) j k 0 (λ q. absurd (omega arith)),
    get_or-set_other (set (set (set d (5 * i) a) (5 * i + 1) e) (5 * i + 2) n) (5 * i + 3) j f 0 (λ q. absurd (omega arith)),
    get_or-set_other (set (set d (5 * i) a) (5 * i + 1) e) (5 * i + 2) j n 0 (λ q. absurd (omega arith)),
    get_or-set_other (set d (5 * i) a) (5 * i + 1) j e 0 (λ q. absurd (omega arith)),
    get_or-set_other d (5 * i) j a 0 (λ q. absurd (omega arith)),
  )

  module _ (h : 5 * (i + 1) ≤ length d) where
    pub row_at_lem : get_or (with_row d i a e n f k) (5 * i) 0 ≡ a
    unfolding with_row
    row_at_lem = rw (
      get_or-set_other (set (set (set (set d (5 * i) a) (5 * i + 1) e) (5 * i + 2) n) (5 * i + 3) f) (5 * i + 4) (5 * i) k 0 (λ q. absurd (omega arith)),
      get_or-set_other (set (set (set d (5 * i) a) (5 * i + 1) e) (5 * i + 2) n) (5 * i + 3) (5 * i) f 0 (λ q. absurd (omega arith)),
      get_or-set_other (set (set d (5 * i) a) (5 * i + 1) e) (5 * i + 2) (5 * i) n 0 (λ q. absurd (omega arith)),
      get_or-set_other (set d (5 * i) a) (5 * i + 1) (5 * i) e 0 (λ q. absurd (omega arith)),
      get_or-set_same d (5 * i) a 0 (omega arith),
    )

    pub row_end : get_or (with_row d i a e n f k) (5 * i + 1) 0 ≡ e
    unfolding with_row
    row_end = rw (
      get_or-set_other (set (set (set (set d (5 * i) a) (5 * i + 1) e) (5 * i + 2) n) (5 * i + 3) f) (5 * i + 4) (5 * i + 1) k 0 (λ q. absurd (omega arith)),
      get_or-set_other (set (set (set d (5 * i) a) (5 * i + 1) e) (5 * i + 2) n) (5 * i + 3) (5 * i + 1) f 0 (λ q. absurd (omega arith)),
      get_or-set_other (set (set d (5 * i) a) (5 * i + 1) e) (5 * i + 2) (5 * i + 1) n 0 (λ q. absurd (omega arith)),
      get_or-set_same (set d (5 * i) a) (5 * i + 1) e 0 (simp length-set (omega arith)),
    )

    pub row_name : get_or (with_row d i a e n f k) (5 * i + 2) 0 ≡ n
    unfolding with_row
    row_name = rw (
      get_or-set_other (set (set (set (set d (5 * i) a) (5 * i + 1) e) (5 * i + 2) n) (5 * i + 3) f) (5 * i + 4) (5 * i + 2) k 0 (λ q. absurd (omega arith)),
      get_or-set_other (set (set (set d (5 * i) a) (5 * i + 1) e) (5 * i + 2) n) (5 * i + 3) (5 * i + 2) f 0 (λ q. absurd (omega arith)),
      get_or-set_same (set (set d (5 * i) a) (5 * i + 1) e) (5 * i + 2) n 0 (simp length-set (omega arith)),
    )

    pub row_first : get_or (with_row d i a e n f k) (5 * i + 3) 0 ≡ f
    unfolding with_row
    row_first = rw (
      get_or-set_other (set (set (set (set d (5 * i) a) (5 * i + 1) e) (5 * i + 2) n) (5 * i + 3) f) (5 * i + 4) (5 * i + 3) k 0 (λ q. absurd (omega arith)),
      get_or-set_same (set (set (set d (5 * i) a) (5 * i + 1) e) (5 * i + 2) n) (5 * i + 3) f 0 (simp length-set (omega arith)),
    )

    pub row_count : get_or (with_row d i a e n f k) (5 * i + 4) 0 ≡ k
    unfolding with_row
    row_count = get_or-set_same (set (set (set (set d (5 * i) a) (5 * i + 1) e) (5 * i + 2) n) (5 * i + 3) f) (5 * i + 4) k 0 (simp length-set (omega arith))

-- five stores one after the other
pub row_put : (d : List ℕ) (i a e n f k : ℕ) {d₁ d₂ d₃ d₄ d₅ : List ℕ} → d₁ ≡ set d (5 * i) (min a 65535) → d₂ ≡ set d₁ (5 * i + 1) (min e 65535) → d₃ ≡ set d₂ (5 * i + 2) (min n 65535)
    → d₄ ≡ set d₃ (5 * i + 3) (min f 65535) → d₅ ≡ set d₄ (5 * i + 4) (min k 65535) → a ≤ 65535 → e ≤ 65535 → n ≤ 65535 → f ≤ 65535 → k ≤ 65535 → d₅ ≡ with_row d i a e n f k
unfolding with_row
row_put d i a e n f k v w x y z ha he hn hf hk =
    let a' : min a 65535 ≡ a = omega arith in
    let e' : min e 65535 ≡ e = omega arith in
    let n' : min n 65535 ≡ n = omega arith in
    let f' : min f 65535 ≡ f = omega arith in
    let k' : min k 65535 ≡ k = omega arith in
    rw (z, y, x, w, v, a', e', n', f', k')

-- the number at a place
pub numbered : (n : List ℕ) (at x : ℕ) {n' : List ℕ} → x ≤ 65535 → n' ≡ set n at (min x 65535) → n' ≡ set n at x
numbered n at x h e = let m : min x 65535 ≡ x = omega arith in (rw m at e)

-- a row before the new one says the same
module _ (s made rows params made' rows' params' : List ℕ) (w : Counts) (x : List ℕ) (em : made' ≡ put made w.end x) (er : Same (5 * w.lifts) rows' rows) (ep : Same (4 * w.params) params' params) where
  row_kept : (i : ℕ) → i < w.lifts → RowIn made rows w i → row_at s made' rows' params' i ≡ row_at s made rows params i
  unfolding row_at
  row_kept i h r =
      let q = r.params in
      rw (
        er (5 * i) (omega arith),
        er (5 * i + 1) (omega arith),
        er (5 * i + 2) (omega arith),
        er (5 * i + 3) (omega arith),
        er (5 * i + 4) (omega arith),
        em,
        name_before made (get_or rows (5 * i + 2) 0) w.end x r.name,
        names_kept s params' params (get_or rows (5 * i + 3) 0) (get_or rows (5 * i + 4) 0) (λ j l. ep j (omega arith)),
        types_kept params' params (get_or rows (5 * i + 3) 0) (get_or rows (5 * i + 4) 0) (λ j l. ep j (omega arith)),
      )

  pub rows_kept : (n : ℕ) → n ≤ w.lifts → ((i : ℕ) → i < w.lifts → RowIn made rows w i) → rows_of s made' rows' params' n ≡ rows_of s made rows params n
  unfolding rows_of
  rows_kept zero h r = refl
  rows_kept (suc n) h r = rw (rows_kept n (omega arith) r, row_kept n (omega arith) (r n (omega arith)))

-- the name that was taken stands where its row says
pub name_taken : (book : List ℕ) {n : Name} {made places ways hints made' places' ways' hints' : List ℕ} {end k r : ℕ} → Took n book made end places ways hints k made' places' ways' hints' r → k < length places
    → taken (both book made') places' (k + 1) ≡ n ∷ taken (both book made) places k → name_at made' end ≡ n
unfolding taken row name_of
name_taken book {n} {made} {places} {ways} {hints} {made'} {places'} {ways'} {hints'} {end} {k} t l e =
    let q : get_or places' k 0 ≡ 32768 + end = rw t.places_hold (get_or-set_same places k (32768 + end) 0 l) in
    let g : name_of (place_of (get_or places' k 0)) book made' ∷ taken (both book made') places' k ≡ n ∷ taken (both book made) places k = (rw (add-one k) at e) in
    let f : name_of (place_of (get_or places' k 0)) book made' ≡ n = cc in
    rw (q, made_place end) at f

-- a sheet that has room for the names reaches beyond its other parts
pub sheet_long : (t : List ℕ) → 8192 ≤ length (made_in t) → 40552 ≤ length t
unfolding made_in
sheet_long t h = omega (arith, length-drop 32360 t)

-- the sheet that lent its names and has them back
abbrev back : List ℕ → List ℕ → List ℕ
back t m = take 32360 t ++ (m ++ drop (length t - 32360) (drop 32360 t))

-- a row, its number and its name more: what each part holds then
module _ {s : List ℕ} {n : Name} {at end k : ℕ} {places ways hints number : List ℕ} {w : Counts} {bytes : ℕ} (t t₁ m : List ℕ) {places' ways' hints' number' : List ℕ} {v : Counts} where
  pub row_added : 32360 ≤ length t₁ → Parts t₁ (order_in t) (with_row (rows_in_of t) w.lifts at end w.end w.params k) (params_in t) (made_in t) → number' ≡ set number at (min (w.lifts + 1) 65535) → w.lifts < 512
      → Took n s (take (length t₁ - 32360) (drop 32360 t₁)) w.end places ways hints w.taken m places' ways' hints' v.end
      → (v.taken ≡ w.taken + 1) × (v.lifts ≡ w.lifts + 1) × (v.params ≡ w.params + k) × (v.bytes ≡ bytes) × (v.defns ≡ w.defns + 1)
      → Adds s n at end k (made_in t) places ways hints (rows_in_of t) number w bytes (made_in (back t₁ m)) places' ways' hints' (rows_in_of (back t₁ m)) number' v × (order_in (back t₁ m) ≡ order_in t) × (params_in (back t₁ m) ≡ params_in t)
  row_added h p e few took counted =
      let b = made_back t₁ m h in (
        record { row = b.rows ∙ p.rows; numbered = numbered number at (w.lifts + 1) (omega arith) e; took = rw b.made (rw (made_lent t₁, p.made) at took); counted = counted },
        b.order ∙ p.order,
        b.params ∙ p.params,
      )
