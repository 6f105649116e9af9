-- A name more: the rows before it stay, and its own is right.
-- Assumes nothing.
use mathlib.Core.Path.{◌≡◌, refl, sym, ap, ◌∙◌}
use mathlib.Core.Logic.{⊎_elim}
use mathlib.Core.List.{List, [], ◌∷◌}
use mathlib.Core.Bool.{true, false}
use Prim.Native.Nat.{ℕ, zero, suc, ◌+◌, ◌-◌, ◌*◌, ◌%◌, ◌≤◌, ◌<◌}
use native.Mathlib.Omega.{arith}
use native.Mathlib.Nat.{eq-or-lt_of_le, le_refl}
use native.Mathlib.Numerals.{add-one}
use borrow.Author.Tests.{lt-ltb, le-ltb}
use lib.ListN.{length, take, drop, get_or, set, length-set}
use lib.Seq.{get_or-set_same, get_or-set_other}
use Rattle.std.specs.Prelude.{Option, None, Some, MatchOption, unwrap_or}
use Rattle.definition.specs.Tree.{Name}
use Rattle.definition.specs.Names.{eq_name, elem}
use Rattle.layout.specs.declared.lookup.Place.{Place}
use Rattle.layout.specs.declared.lookup.Place.TheVariants.{Source, Made}
use Rattle.layout.specs.lookup.Name.{name_at, name_of, place_of}
use Rattle.layout.proofs.lookup.Names.{yes_no, length_name}
use Rattle.buffer.specs.writes.Buf.{put, part, Wrote, name_bytes}
use Rattle.buffer.proofs.writes.Wrote.{place_fits}
use Rattle.buffer.proofs.writes.Put.{length-put, put-put, part_written, part_put_before, get_or-put_before, get_or-put-at}
use Rattle.name_table.specs.forks.Forks.{slot_of, row_at, Apart, entered_at}
use Rattle.name_table.specs.forks.Leads.{row_of, Clear}
use Rattle.name_table.proofs.forks.Rows.{leads_none, leads_same, leads_more}
use Rattle.name_table.specs.taken.Taken.{Store, both, row, taken, Table, Hints, Inside, Packed, Sourced, Entered, Grown, Took, Listed}

-- a name in front makes no other name free
elem_more : (x m : Name) (l : List Name) → elem x l ≡ true → elem x (m ∷ l) ≡ true
unfolding elem
elem_more x m l e = ⊎_elim (λ (q : eq_name x m ≡ true). rw q) (λ (q : eq_name x m ≡ false). rw q e) (yes_no (eq_name x m))

-- ---- places in 16 bits
pub source_place : (at : ℕ) → at < 32768 → place_of at ≡ Source at
unfolding place_of
source_place at h = rw (lt-ltb at 32768 h)

pub made_place : (at : ℕ) → place_of (32768 + at) ≡ Made at
unfolding place_of
made_place at = rw (le-ltb (32768 + at) 32768 (omega arith)) (ap Made (omega arith))

-- ---- a name that stands before a write, and the name that was written
module _ (s : List ℕ) (q end : ℕ) (p : List ℕ) (h : q + 1 + get_or s q 0 ≤ end) where
  pub byte_before : get_or (put s end p) q 0 ≡ get_or s q 0
  byte_before = get_or-put_before s end p q (omega arith)

  pub name_before : name_at (put s end p) q ≡ name_at s q
  unfolding name_at
  name_before = rw byte_before (part_put_before (q + 1) (get_or s q 0) s end p h)

name_kept : (p : Place) (book made : List ℕ) (end : ℕ) (x : List ℕ) → Inside p made end → name_of p book (put made end x) ≡ name_of p book made
unfolding name_of Inside
name_kept (Source at) book made end x h = refl
name_kept (Made at) book made end x h = name_before made at end x h

inside_kept : (p : Place) (made : List ℕ) (end : ℕ) (x : List ℕ) (r : ℕ) → end ≤ r → Inside p made end → Inside p (put made end x) r
unfolding Inside
inside_kept (Source at) made end x r k h = tt
inside_kept (Made at) made end x r k h = rw (byte_before made at end x h) (omega arith)

module _ (s : List ℕ) (end : ℕ) (name : Name) (h : length name ≤ 255) (k : end + 1 + length name ≤ length s) where
  length_byte : get_or (put s end (name_bytes name)) end 0 ≡ length name
  unfolding name_bytes
  length_byte =
      let z : end + 0 ≡ end = omega arith in
      let e : length name % 256 ≡ length name = omega arith in
      ap (λ (i : ℕ). get_or (put s end (length name % 256 ∷ name)) i 0) (sym z)
      ∙ get_or-put-at s end (length name % 256 ∷ name) 0 (omega arith) (omega arith) ∙ e

  name_here : name_at (put s end (name_bytes name)) end ≡ name
  unfolding name_at name_bytes part
  name_here =
      let b : ℕ = length name % 256 in
      let d : List ℕ = put s end (b ∷ []) in
      let e : end + 1 + length name - (end + 1) ≡ length name = omega arith in
      let w : take (length name) (drop (end + 1) (put d (end + 1) name)) ≡ name =
      ap (λ (i : ℕ). take i (drop (end + 1) (put d (end + 1) name))) (sym e) ∙ part_written d (end + 1) name (rw length-put k) in
      rw length_byte (ap (λ (l : List ℕ). take (length name) (drop (end + 1) l)) (sym (put-put s end (b ∷ []) name)) ∙ w)

-- ---- the row at an end, or the number of rows
pub row_or : (t : List ℕ) (x n : ℕ) (r : Option ℕ) → MatchOption r (row_at t x n ≡ n) (λ i. (i < n) × (row_at t x n ≡ i)) → unwrap_or r n ≡ row_at t x n
row_or t x n None h = sym h
row_or t x n (Some i) h = sym h.1

-- ---- the way of a name to row n, with what the steps gave
pub entered : (name book made places ways : List ℕ) (n : ℕ) {x r : ℕ} {place : Place} {other ways' : List ℕ} → x ≡ slot_of ways name n → r ≡ row_at ways x n → place ≡ place_of (get_or places r 0) → other ≡ name_of place book made
    → (ways' ≡ entered_at ways name other x n) × ((get_or ways x 0 ≡ 0 → ⊥) → Apart name other) → Entered name (both book made) places n ways ways'
unfolding row row_of
entered name book made places ways n {x} {r} {place} {other} {ways'} ex er ep eo w =
    let o : other ≡ row (both book made) places (row_of ways name n) = eo ∙ rw (ep, er, ex) in
    record { holds = w.0 ∙ rw (o, ex); apart = λ e. rw o at (w.1 (rw ex e)) }

-- ---- a row is the new one or one of those before
old_or_new : {G : Type 0} (n i : ℕ) → i < n + 1 → (i ≡ n → G) → (i < n → G) → G
old_or_new n i k f g = ⊎_elim f g (eq-or-lt_of_le (omega arith))

-- rows whose names are as before, and one more
module _ (name : Name) (names names' : Store) (places : List ℕ) (n q : ℕ)
    (kept : (i : ℕ) → i < n → row names' (set places n q) i ≡ row names places i) (new : row names' (set places n q) n ≡ name) where
  taken_kept : (m : ℕ) → m ≤ n → taken names' (set places n q) m ≡ taken names places m
  unfolding taken
  taken_kept zero k = refl
  taken_kept (suc m) k = rw (kept m k, taken_kept m (omega arith))

  taken_is : taken names' (set places n q) (n + 1) ≡ name ∷ taken names places n
  unfolding taken
  taken_is = rw (add-one n, new, taken_kept n (le_refl n))

  module _ {ways ways' : List ℕ} (w : Entered name names places n ways ways') (short : length name ≤ 255) (a : n < length places) (few : n < 65535) where
    pub grown : 256 + 2 * (n + 1) ≤ length ways → Table names places ways n → Grown name names places ways n names' (set places n q) ways'
    grown room t = record {
      taken_is = taken_is;
      table = record {
        places_long = rw length-set (omega arith);
        leads = rw w.holds (leads_more t.leads few room kept name new short t.short (row names places (row_of ways name n)) (λ h. refl) w.apart);
        short = λ i k. old_or_new n i k (λ (e : i ≡ n). rw (e, new) short) (λ (e : i < n). rw (kept i e) (t.short i e));
      };
    }

  hinted : (hints : List ℕ) → n < length hints → Hints names places hints n → Hints names' (set places n q) (set hints n 0) (n + 1)
  hinted hints c h = record {
    hints_long = rw length-set (omega arith);
    low = λ i k. old_or_new n i k
        (λ (e : i ≡ n). rw (e, get_or-set_same hints n 0 0 c) (omega arith))
        (λ (e : i < n). rw (get_or-set_other hints n i 0 0 (λ (z : i ≡ n). omega arith)) (let y = h.low i e in omega arith));
    tried = λ i j k m. old_or_new n i k
        (λ (e : i ≡ n). let z : j < 0 = rw (e, get_or-set_same hints n 0 0 c) at m in absurd (omega arith))
        (λ (e : i < n).
        let z : j < get_or hints i 0 = rw (get_or-set_other hints n i 0 0 (λ (z : i ≡ n). omega arith)) at m in
        rw (taken_is, kept i e) (elem_more _ _ _ (h.tried i j e z)));
  }

place_kept : (places : List ℕ) (n q i : ℕ) → i < n → get_or (set places n q) i 0 ≡ get_or places i 0
place_kept places n q i e = get_or-set_other places n i q 0 (λ (z : i ≡ n). omega arith)

-- ---- a generated name
module _ (name : Name) (book made : List ℕ) (end : ℕ) (places : List ℕ) (n : ℕ)
    (short : length name ≤ 255) (room : end + 1 + length name ≤ length made) (a : n < length places) where
  abbrev made' : List ℕ
  made' = put made end (name_bytes name)

  new_place : place_of (get_or (set places n (32768 + end)) n 0) ≡ Made end
  new_place = rw (get_or-set_same places n (32768 + end) 0 a) (made_place end)

  made_packed : Packed made places n end → Packed made' (set places n (32768 + end)) (n + 1) (end + 1 + length name)
  unfolding Inside
  made_packed p = record {
    room = rw length-put room;
    inside = λ i k. old_or_new n i k
        (λ (e : i ≡ n). rw (e, new_place, length_byte made end name short room) (le_refl (end + 1 + length name)))
        (λ (e : i < n). rw (place_kept places n (32768 + end) i e) (inside_kept (place_of (get_or places i 0)) made end (name_bytes name) (end + 1 + length name) (omega arith) (p.inside i e)));
  }

  rows_kept : Packed made places n end → (i : ℕ) → i < n → row (both book made') (set places n (32768 + end)) i ≡ row (both book made) places i
  unfolding row name_of
  rows_kept p i e = rw (place_kept places n (32768 + end) i e) (name_kept (place_of (get_or places i 0)) book made end (name_bytes name) (p.inside i e))

  new_row : row (both book made') (set places n (32768 + end)) n ≡ name
  unfolding row name_of
  new_row = rw new_place (name_here made end name short room)

  -- all of it, of buffers that hold what was written
  pub took : {ways ways' hints : List ℕ} → Entered name (both book made) places n ways ways' → length ways' ≡ length ways → n < 65535 → n < length hints
      → {made'' l ks : List ℕ} {r : ℕ} → Wrote made end (name_bytes name) made'' r → l ≡ set places n (32768 + end) → ks ≡ set hints n 0
      → Took name book made end places ways hints n made'' l ways' ks r
  unfolding name_bytes
  took {hints = hints} v long few c w el ek =
      let next = place_fits w (omega arith) in
      let m = next ∙ (let z : end + length (name_bytes name) ≡ end + 1 + length name = omega arith in z) in
      rw (w.holds, m, el, ek)
      (record {
        next = refl;
        made_holds = refl;
        places_hold = refl;
        ways_long = long;
        hints_hold = refl;
        packed = made_packed;
        grown = λ d t p. grown name (both book made) (both book made') places n (32768 + end) (rows_kept p) new_row v short a few d t;
        hinted = λ d t h p. hinted name (both book made) (both book made') places n (32768 + end) (rows_kept p) new_row hints c h;
      })

-- ---- a name of the book
module _ (book : List ℕ) (at : ℕ) (places : List ℕ) (n : ℕ) (small : at < 32768) (byte : get_or book at 0 < 256) (a : n < length places) (few : n < 65535) where
  source_new : place_of (get_or (set places n at) n 0) ≡ Source at
  source_new = rw (get_or-set_same places n at 0 a) (source_place at small)

  rows_stay : (i : ℕ) → i < n → row (both book []) (set places n at) i ≡ row (both book []) places i
  unfolding row
  rows_stay i e = rw (place_kept places n at i e)

  listed_row : row (both book []) (set places n at) n ≡ name_at book at
  unfolding row name_of
  listed_row = rw source_new

  pub name_short : length (name_at book at) ≤ 255
  name_short = let y = length_name book at in omega arith

  pub listed : {ways ways' : List ℕ} → Entered (name_at book at) (both book []) places n ways ways' → length ways' ≡ length ways → {l : List ℕ} → l ≡ set places n at → Listed book at places ways n l ways'
  listed v long el =
      rw el
      (record {
        places_hold = refl;
        ways_long = long;
        grown = λ d t. grown (name_at book at) (both book []) (both book []) places n at rows_stay listed_row v name_short a few d t;
      })

-- ---- names that stand in the book, whatever the generated names are
module _ (book : List ℕ) {places : List ℕ} {n : ℕ} (z : Sourced places n) (made : List ℕ) where
  anywhere : (i : ℕ) → i < n → row (both book made) places i ≡ row (both book []) places i
  unfolding row name_of
  anywhere i h = rw (source_place (get_or places i 0) (z.low i h))

  pub table_anywhere : {ways : List ℕ} → Table (both book []) places ways n → Table (both book made) places ways n
  table_anywhere t = record {
    places_long = t.places_long;
    leads = leads_same t.leads anywhere;
    short = λ i h. rw (anywhere i h) (t.short i h);
  }

  names_anywhere : (m : ℕ) → m ≤ n → taken (both book made) places m ≡ taken (both book []) places m
  unfolding taken
  names_anywhere zero h = refl
  names_anywhere (suc m) h = rw (anywhere m h, names_anywhere m (omega arith))

  pub taken_anywhere : taken (both book made) places n ≡ taken (both book []) places n
  taken_anywhere = names_anywhere n (le_refl n)

  pub packed_anywhere : Packed made places n 0
  unfolding Inside
  packed_anywhere = record { room = omega arith; inside = λ i h. rw (source_place (get_or places i 0) (z.low i h)) tt }

-- rows whose hints say nothing
pub hints_none : (names : Store) (places hints : List ℕ) (n : ℕ) → n ≤ length hints → ((i : ℕ) → i < n → get_or hints i 0 ≡ 0) → Hints names places hints n
hints_none names places hints n long f = record {
  hints_long = long;
  low = λ i h. let z = f i h in omega arith;
  tried = λ i j h k. absurd (let z = f i h in omega arith);
}

-- no row
pub table_none : (names : Store) (places ways : List ℕ) → Clear ways → 256 ≤ length ways → Table names places ways 0
table_none names places ways c h = record { places_long = omega arith; leads = leads_none (row names places) ways c h; short = λ i k. absurd (omega arith) }
