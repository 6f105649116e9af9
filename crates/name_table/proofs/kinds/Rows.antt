-- The rows of a book's definitions, from the last to the first.
-- Assumes nothing.
use mathlib.Core.Path.{◌≡◌, refl, ap, ◌∙◌}
use mathlib.Core.Logic.{⊎_elim}
use mathlib.Core.List.{List, [], ◌∷◌, map}
use Prim.Native.Nat.{ℕ, zero, suc, ◌+◌, ◌-◌, ◌*◌, ◌/◌, ◌%◌, ◌≤◌, ◌<◌}
use native.Mathlib.Omega.{arith}
use native.Mathlib.Nat.{eq-or-lt_of_le}
use native.Mathlib.Numerals.{add-one}
use lib.ListN.{length, drop, get_or, drop_of_length-le}
use lib.Seq.{drop-cons, get_or-set_same, get_or-set_other}
use borrow.Author.Tests.{le-leb, lt-leb}
use Rattle.definition.specs.Tree.{Name, Definition, format, constant, byte_order, macro}
use Rattle.definition.specs.Write.{w_u16, w_text, w_list, w_param, w_combinator, w_definition, kind_of, kind_byte, size_of, w_entries, entry_of, w_book}
use Rattle.definition.specs.Size.{size_book}
use Rattle.definition.specs.Lift.{names}
use Rattle.laws.specs.Book.{IsBook}
use Rattle.laws.proofs.Sizes.{size_book_lem}
use Rattle.layout.specs.items.At.{byte_at, past_at, number_at}
use Rattle.layout.proofs.items.Here.{past_here, number_here}
use Rattle.layout.specs.lookup.Name.{name_at, name_of}
use Rattle.layout.proofs.lookup.Names.{stands}
use Rattle.name_table.specs.forks.Leads.{Clear}
use Rattle.name_table.specs.taken.Taken.{both, row, taken, Listed as Row}
use Rattle.name_table.proofs.taken.Take.{source_place, table_none}
use Rattle.walker.specs.definitions.Listed.{Listed}
use Rattle.walker.proofs.definitions.Listed.{past_is, listed_kind, listed_body, listed_deep, listed_next, book_listed}
use Rattle.name_table.specs.kinds.Rows.{keep, of_kinds, InRows, Rows, row_names, Room, Takes, OfKinds}

-- ---- an entry of the contents
module _ {s : List ℕ} {entry at : ℕ} {d : Definition} {ds : List Definition} (l : Listed s entry at (d ∷ ds)) where
  pub listed_offset : number_at s (past_at s entry 2) ≡ at
  unfolding w_entries entry_of
  listed_offset = number_here at (w_u16 (size_of d) (w_entries (at + size_of d) (map entry_of ds) l.behind)) (past_here (kind_byte (kind_of d) ∷ 0 ∷ []) l.entries)

  entry_past : past_at s entry 6 ≡ entry + 6
  unfolding w_entries entry_of w_u16
  entry_past = past_is (kind_byte (kind_of d) ∷ 0 ∷ at % 256 ∷ at / 256 ∷ size_of d % 256 ∷ size_of d / 256 ∷ []) (w_entries (at + size_of d) (map entry_of ds) l.behind) l.entries

-- ---- one definition
rows_stay : (s places places' : List ℕ) (n : ℕ) → ((i : ℕ) → i < n → get_or places' i 0 ≡ get_or places i 0) → (ds : List Definition) → InRows s places n ds → InRows s places' n ds
unfolding InRows
rows_stay s places places' n f [] r = r
rows_stay s places places' n f (d ∷ ds) r = let z = r.0 in (r.0, rw (f (n - 1) (omega arith)) r.1, rows_stay s places places' (n - 1) (λ i h. f i (omega arith)) ds r.2)

module _ {s : List ℕ} {entry low high : ℕ} {pl ws : List ℕ} {n kind : ℕ} (hk : kind ≡ byte_at s entry) where
  -- of another kind
  pub takes_low : kind < low → Takes s entry low high pl ws n pl ws n
  unfolding keep
  takes_low h = record {
    one = omega arith;
    right = λ r. r;
    says = λ at d ds l q m k xs r. let e = hk ∙ listed_kind l in rw (lt-leb low (kind_byte (kind_of d)) (omega arith)) r;
  }

  pub takes_high : low ≤ kind → high < kind → Takes s entry low high pl ws n pl ws n
  unfolding keep
  takes_high g h = record {
    one = omega arith;
    right = λ r. r;
    says = λ at d ds l q m k xs r. let e = hk ∙ listed_kind l in rw (le-leb low (kind_byte (kind_of d)) (omega arith), lt-leb (kind_byte (kind_of d)) high (omega arith)) r;
  }

  -- no room, which never happens in a book
  pub takes_full : ((at : ℕ) (d : Definition) (ds : List Definition) → Listed s entry at (d ∷ ds) → length s ≤ 16384 → n < 512 → Room pl ws (n + 1) → ⊥) → Takes s entry low high pl ws n pl ws n
  takes_full f = record { one = omega arith; right = λ r. r; says = λ at d ds l q m k xs r. absurd (f at d ds l q m k) }

-- one that gets a row
module _ {s : List ℕ} {place : ℕ} {pl ws : List ℕ} {n : ℕ} (small : place < 32768) (room : n < length pl) (long : 256 + 2 * (n + 1) ≤ length ws) {pl' ws' : List ℕ} (t : Row s place pl ws n pl' ws') where
  place_new : get_or pl' n 0 ≡ place
  place_new = rw t.places_hold (get_or-set_same pl n place 0 room)

  place_old : (i : ℕ) → i < n → get_or pl' i 0 ≡ get_or pl i 0
  place_old i k = rw t.places_hold (get_or-set_other pl n i place 0 (λ (z : i ≡ n). omega arith))

  row_right : Rows s pl ws n → Rows s pl' ws' (n + 1)
  row_right r = record {
    table = (t.grown long r.table).table;
    sourced = record {
      low = λ i k. ⊎_elim
          (λ (e : i ≡ n). rw (e, place_new) small)
          (λ (e : i < n). rw (place_old i e) (r.sourced.low i e))
          (eq-or-lt_of_le (omega arith));
    };
  }

  module _ (entry low high kind : ℕ) (hk : kind ≡ byte_at s entry) (g : low ≤ kind) (h : kind ≤ high) (ep : place ≡ number_at s (past_at s entry 2)) where
    in_row : (at : ℕ) (d : Definition) (ds : List Definition) → Listed s entry at (d ∷ ds) → (xs : List Definition) → InRows s pl n xs → InRows s pl' (n + 1) (keep low high d xs)
    unfolding keep InRows
    in_row at d ds l xs r =
        let e = hk ∙ listed_kind l in
        let z : n + 1 - 1 ≡ n = omega arith in
        let q : get_or pl' n 0 ≡ at = place_new ∙ ep ∙ listed_offset l in
        rw (le-leb low (kind_byte (kind_of d)) (omega arith), le-leb (kind_byte (kind_of d)) high (omega arith), z, q)
        (omega arith, record { rest = _; here = listed_body l; deep = listed_deep l }, rows_stay s pl pl' n place_old xs r)

    pub takes_row : Takes s entry low high pl ws n pl' ws' (n + 1)
    takes_row = record { one = omega arith; right = row_right; says = λ at d ds l q m k xs r. in_row at d ds l xs r }

-- a place in a book
pub offset_low : {s : List ℕ} {entry at : ℕ} {d : Definition} {ds : List Definition} → Listed s entry at (d ∷ ds) → number_at s (past_at s entry 2) ≤ length s
offset_low l = rw (listed_offset l) (listed_body l).reach

pub far : (s : List ℕ) (entry : ℕ) {at offset : ℕ} → offset ≡ past_at s entry 2 → at ≡ number_at s offset → number_at s (past_at s entry 2) ≤ length s → length s ≤ 16384 → 32768 ≤ at → ⊥
far s entry eo ea h l k = let z = rw eo at ea in omega arith

-- ---- the definition number i
record From (s : List ℕ) (entry : ℕ) (ds : List Definition) : Type 0 where
  at : ℕ
  listed : Listed s entry at ds

from : {s : List ℕ} (i : ℕ) (ds : List Definition) {entry at : ℕ} → Listed s entry at ds → i ≤ length ds → From s (entry + 6 * i) (drop i ds)
from zero ds {entry} {at} l h = let z : entry + 6 * 0 ≡ entry = omega arith in record { at = at; listed = rw z l }
from (suc i) [] l h = absurd (omega arith)
from (suc i) (d ∷ ds) {entry} {at} l h =
    let f = from i ds (listed_next l) (omega arith) in
    let z : entry + 6 * suc i ≡ entry + 6 + 6 * i = omega arith in
    record { at = f.at; listed = rw (z, ← (entry_past l)) f.listed }

pub record Nth (s : List ℕ) (ds : List Definition) (i entry : ℕ) : Type 0 where
  pub at : ℕ
  pub first : Definition
  pub listed : Listed s entry at (first ∷ drop (i + 1) ds)
  pub is : drop i ds ≡ first ∷ drop (i + 1) ds

pub nth : (s : List ℕ) (ds : List Definition) → s ≡ w_book ds → IsBook ds → (i : ℕ) → i < length ds → Nth s ds i (past_at s 2 (6 * i))
unfolding past_at size_book
nth s ds e b i h =
    let z : length s ≡ size_book ds = ap length e in
    let w = book_listed s ds e b in
    let f = from i ds w.1 (omega arith) in
    let two : past_at s 0 2 ≡ 2 = omega (arith, size_book_lem ds) in
    let p : past_at s 2 (6 * i) ≡ past_at s 0 2 + 6 * i = omega (arith, f.listed.entries.reach) in
    let d = get_or ds i (byte_order []) in
    let c : drop i ds ≡ d ∷ drop (i + 1) ds = rw (add-one i) (drop-cons ds i (byte_order []) h) in
    record { at = f.at; first = d; listed = rw p (rw c at f.listed); is = c }

-- ---- all of them
pub record Back (s : List ℕ) (low high : ℕ) (pl₀ ws₀ pl ws : List ℕ) (n left : ℕ) : Type 0 where
  pub places_long : length pl ≡ length pl₀
  pub ways_long : length ws ≡ length ws₀
  pub right : Clear ws₀ → 256 ≤ length ws₀ → Rows s pl ws n
  pub says : (ds : List Definition) → s ≡ w_book ds → IsBook ds → Room pl₀ ws₀ 512 → (left ≤ length ds) × (n + left ≤ length ds) × InRows s pl n (of_kinds low high (drop left ds))

module _ {s : List ℕ} {low high : ℕ} {pl₀ ws₀ : List ℕ} where
  pub back_none : {left : ℕ} → left ≡ number_at s 0 → Back s low high pl₀ ws₀ pl₀ ws₀ 0 left
  unfolding of_kinds InRows
  back_none {left} e = record {
    places_long = refl;
    ways_long = refl;
    right = λ c h. record { table = table_none (both s []) pl₀ ws₀ c h; sourced = record { low = λ i k. absurd (omega arith) } };
    says = λ ds q b m.
        let z : left ≡ length ds = e ∙ (book_listed s ds q b).0 in
        (omega arith, omega arith, rw (drop_of_length-le ds {i = left} (omega arith)) refl);
  }

  module _ {pl ws : List ℕ} {n left : ℕ} (g : Back s low high pl₀ ws₀ pl ws n left) where
    pub back_step : 0 < left → {entry : ℕ} → entry ≡ past_at s 2 (6 * (left - 1)) → {pl' ws' : List ℕ} {r : ℕ} → length pl' ≡ length pl → length ws' ≡ length ws → Takes s entry low high pl ws n pl' ws' r → Back s low high pl₀ ws₀ pl' ws' r (left - 1)
    unfolding of_kinds size_book
    back_step h {entry} e {pl'} {ws'} {r} lp lw t = record {
      places_long = lp ∙ g.places_long;
      ways_long = lw ∙ g.ways_long;
      right = λ c m. t.right (g.right c m);
      says = λ ds q b m.
          let f = g.says ds q b m in
          let x = nth s ds q b (left - 1) (omega (arith, f.0)) in
          let z : left - 1 + 1 ≡ left = omega arith in
          let room : Room pl ws (n + 1) = record { places_long = omega (arith, m.places_long, g.places_long, f.1, b.few); ways_long = omega (arith, m.ways_long, g.ways_long, f.1, b.few) } in (
            omega (arith, f.0),
            omega (arith, f.1, t.one),
            rw x.is (t.says x.at x.first (drop (left - 1 + 1) ds) (rw e x.listed) (omega (arith, ap length q, b.short)) (omega (arith, f.1, b.few)) room (of_kinds low high (drop (left - 1 + 1) ds)) (rw z f.2)),
          );
    }

    pub back_all : left ≤ 0 → OfKinds s low high pl₀ ws₀ pl ws n
    back_all h = record {
      right = g.right;
      says = λ ds q b m. let f = g.says ds q b m in let z : left ≡ 0 = omega arith in (rw z at f.2, omega (arith, f.1));
    }

-- ---- the names of formats and constants
last_row : (s places : List ℕ) (n : ℕ) (m : Name) → 0 < n → get_or places (n - 1) 0 < 32768 → name_at s (get_or places (n - 1) 0) ≡ m → taken (both s []) places n ≡ m ∷ taken (both s []) places (n - 1)
unfolding taken row name_of
last_row s places n m h low e =
    let y : n ≡ suc (n - 1) = omega arith in
    ap (λ (k : ℕ). taken (both s []) places k) y ∙ rw (source_place (get_or places (n - 1) 0) low, e)

names_from : (s places : List ℕ) (n : ℕ) (ds : List Definition) → ((i : ℕ) → i < n → get_or places i 0 < 32768) → InRows s places n (of_kinds 1 2 ds) → taken (both s []) places n ≡ names ds
unfolding of_kinds keep InRows names taken kind_byte kind_of w_definition
names_from s places n [] f r = rw r
names_from s places n (byte_order x ∷ ds) f r = names_from s places n ds f r
names_from s places n (macro m ps c ∷ ds) f r = names_from s places n ds f r
names_from s places n (constant m x ∷ ds) f r =
    let z = r.0 in
    last_row s places n m z (f (n - 1) (omega arith)) (stands s (get_or places (n - 1) 0) m (w_text x r.1.rest) r.1.here.is) ∙ ap (λ (l : List Name). m ∷ l) (names_from s places (n - 1) ds (λ i h. f i (omega arith)) r.2)
names_from s places n (format m ps c ∷ ds) f r =
    let z = r.0 in
    last_row s places n m z (f (n - 1) (omega arith)) (stands s (get_or places (n - 1) 0) m (w_list w_param ps (w_combinator c r.1.rest)) r.1.here.is) ∙ ap (λ (l : List Name). m ∷ l) (names_from s places (n - 1) ds (λ i h. f i (omega arith)) r.2)

-- "all kind 1 and 2 names": the names in the rows
pub names_in : {s places ways : List ℕ} {n : ℕ} → Rows s places ways n → (ds : List Definition) → InRows s places n (of_kinds 1 2 ds) → row_names s places n ≡ names ds
names_in {s} {places} {ways} {n} r ds k = names_from s places n ds r.sourced.low k
