-- A lift is entered: the tables say the sheet with it, and stay right.
-- Assumes nothing.
use mathlib.Core.Path.{◌≡◌, refl, sym, ap, ◌∙◌}
use mathlib.Core.Logic.{⊎_elim}
use mathlib.Core.Bool.{true, false, ◌&&◌}
use mathlib.Core.List.{List, [], ◌∷◌, ◌++◌, map}
use Prim.Native.Nat.{ℕ, ◌+◌, ◌*◌, ◌%◌, ◌≤◌, ◌<◌}
use native.Mathlib.Omega.{arith}
use native.Mathlib.Nat.{eq-or-lt_of_le}
use native.Mathlib.Numerals.{add-one}
use lib.Dec.{leb}
use lib.ListN.{length, take, get_or, length-set, length-take}
use borrow.Author.Tests.{le-leb, lt-leb}
use Rattle.definition.specs.Code.{result_long}
use Rattle.std.specs.Prelude.{Ok, Err}
use Rattle.what_comes_back.specs.declared.Code.TheVariants.{NoBinder, ResultLong}
use Rattle.definition.specs.Res.{absent, just, bad, ok}
use Rattle.definition.specs.Tree.{Name}
use Rattle.buffer.specs.writes.Buf.{put, name_bytes}
use Rattle.buffer.proofs.writes.Put.{length-put, get_or-put-at}
use Rattle.lifting.specs.Calls.{names_room}
use Rattle.collect_params.specs.uses.Uses.{names_in_of}
use Rattle.lift_tables.specs.tables.Rows.{Row, row_at, rows_of}
use Rattle.lift_tables.specs.tables.Parts.{order_in, rows_in_of, params_in, made_in, Parts}
use Rattle.lift_tables.proofs.tables.Params.{Same}
use Rattle.name_table.specs.taken.Taken.{both, Grown, Took}
use Rattle.name_table.proofs.taken.Take.{byte_before}
use Rattle.lift_tables.specs.declared.enter_lift.Counts.{Counts}
use Rattle.lift_tables.specs.enter_lift.Bound.{Bound, type_of, binders_of, types_size, Filled, Within}
use Rattle.lift_tables.specs.enter_lift.Sheet.{Sheet, call_size, head_size, entered, fits, enter_with, sheet_of, RowIn, Tables, Gives}
use Rattle.lift_tables.specs.enter_lift.Enters.{Adds, Enters}
use Rattle.lift_tables.proofs.enter_lift.Rows.{row_length, row_before, row_at_lem, row_end, row_name, row_first, row_count, rows_kept, name_taken}

fits-ok : (t : Sheet) → t.bytes ≤ 16384 → t.defns ≤ 512 → fits t ≡ ok tt t
unfolding fits
fits-ok t h k = rw (le-leb t.bytes 16384 h, le-leb t.defns 512 k)

fits-bytes : (t : Sheet) → 16384 < t.bytes → fits t ≡ bad result_long t
unfolding fits
fits-bytes t h = rw (lt-leb t.bytes 16384 h)

and-false : (b : mathlib.Core.Bool.Bool) → b && false ≡ false
and-false true = refl
and-false false = refl

fits-defns : (t : Sheet) → 512 < t.defns → fits t ≡ bad result_long t
unfolding fits
fits-defns t h = rw (lt-leb t.defns 512 h, and-false (leb t.bytes 16384))

-- ---- refusals
module _ {s : List ℕ} {at end : ℕ} {n : Name} {ns : List Name} {env : List Bound} {made places rows params number : List ℕ} {w : Counts} {made' places' ways' hints' rows' params' number' : List ℕ} where
  pub refused_binder : binders_of env ns ≡ absent → Enters s at end n ns env made places rows params number w made' places' ways' hints' rows' params' number' (Err NoBinder)
  unfolding Gives enter_with
  refused_binder e = record { gives = λ finished. rw e refl }

  module _ (bs : List Bound) (all : binders_of env ns ≡ just bs) where
    pub refused_bytes : 16384 < w.bytes + 6 + (length n + 3 + names_room ns + types_size bs) + (length n + names_room ns + 5)
        → Enters s at end n ns env made places rows params number w made' places' ways' hints' rows' params' number' (Err ResultLong)
    unfolding Gives enter_with entered call_size head_size sheet_of
    refused_bytes h = record { gives = λ finished. rw (all, fits-bytes (entered at end n ns bs (sheet_of s made places rows params finished w)) h) refl }

    pub refused_defns : 512 ≤ w.defns → Enters s at end n ns env made places rows params number w made' places' ways' hints' rows' params' number' (Err ResultLong)
    unfolding Gives enter_with entered sheet_of
    refused_defns h = record { gives = λ finished. rw (all, fits-defns (entered at end n ns bs (sheet_of s made places rows params finished w)) (omega arith)) refl }

pub cut_length : (l : List ℕ) (n : ℕ) → n ≤ length l → length (take n l) ≡ n
cut_length l n h = simp length-take (omega arith)

sheet_is : {a a' : List Name} {r r' : List Row} {f : List ℕ} {b b' d d' : ℕ} → a ≡ a' → r ≡ r' → b ≡ b' → d ≡ d'
    → ◌≡◌ {A = Sheet} (record { taken = a; rows = r; finished = f; bytes = b; defns = d }) (record { taken = a'; rows = r'; finished = f; bytes = b'; defns = d' })
sheet_is p q r s = rw (p, q, r, s)

module _ {s uses : List ℕ} {k : ℕ} {env : List Bound} {at end : ℕ} {n : Name} {made places ways hints rows params number : List ℕ} {w : Counts} {params' : List ℕ} {names types : ℕ}
    (t : Tables s made places ways hints rows params w) (f : Filled s uses k env params w.params params' names types) (wi : Within k names types)
    (short : length n ≤ 255) (bytes : ℕ) (sum : bytes ≡ w.bytes + 6 + (length n + 3 + names + types) + (length n + names + 5)) (small : bytes ≤ 16384) (few : w.defns < 512)
    {made' places' ways' hints' rows' number' : List ℕ} {v : Counts} (a : Adds s n at end k made places ways hints rows number w bytes made' places' ways' hints' rows' number' v) where
  abbrev g : Took n s made w.end places ways hints w.taken made' places' ways' hints' v.end
  g = a.took

  ways_fit : 256 + 2 * (w.taken + 1) ≤ length ways
  ways_fit = omega (arith, t.ways_long, t.few.1)

  grown : Grown n (both s made) places ways w.taken (both s made') places' ways'
  grown = g.grown ways_fit t.table t.packed

  params_fit : 4 * (w.params + k) ≤ length params
  params_fit = omega (arith, t.room, t.params_long, wi.names_least, wi.types_least)

  rows_fit : 5 * (w.lifts + 1) ≤ length rows
  rows_fit = omega (arith, t.rows_long, t.few.0)

  rows_same : Same (5 * w.lifts) rows' rows
  rows_same = rw a.row (row_before rows w.lifts at end w.end w.params k)

  new_row : row_at s made' rows' params' w.lifts ≡ record { at = at; end = end; name = n; params = names_in_of s (take k uses); types = map type_of f.of }
  unfolding row_at
  new_row = rw (
    a.row,
    row_at_lem rows w.lifts at end w.end w.params k rows_fit,
    row_end rows w.lifts at end w.end w.params k rows_fit,
    row_name rows w.lifts at end w.end w.params k rows_fit,
    row_first rows w.lifts at end w.end w.params k rows_fit,
    row_count rows w.lifts at end w.end w.params k rows_fit,
    name_taken s g (omega (arith, t.places_long, t.few.1)) grown.taken_is,
    f.names_in (omega (arith, t.source)) params_fit,
    f.types_in params_fit,
  )

  rows_are : rows_of s made' rows' params' v.lifts ≡ rows_of s made rows params w.lifts ++ (record { at = at; end = end; name = n; params = names_in_of s (take k uses); types = map type_of f.of } ∷ [])
  unfolding rows_of
  rows_are = rw (a.counted.1, add-one w.lifts, rows_kept s made rows params made' rows' params' w (name_bytes n) g.made_holds rows_same f.kept w.lifts (omega arith) t.rows_in, new_row)

  length_byte : get_or made' w.end 0 ≡ length n
  unfolding name_bytes
  length_byte =
      let z : w.end + 0 ≡ w.end = omega arith in
      let e : length n % 256 ≡ length n = omega arith in
      ap (λ (l : List ℕ). get_or l w.end 0) g.made_holds ∙ ap (λ (i : ℕ). get_or (put made w.end (length n % 256 ∷ n)) i 0) (sym z)
      ∙ get_or-put-at made w.end (length n % 256 ∷ n) 0 (omega arith) (omega (arith, t.room, t.made_long)) ∙ e

  row_in : (i : ℕ) → i < v.lifts → RowIn made' rows' v i
  row_in i h = ⊎_elim new old (eq-or-lt_of_le {n = i} {m = w.lifts} (omega (arith, a.counted.1)))
    where
      new : i ≡ w.lifts → RowIn made' rows' v i
      new e = rw e (record {
        name = rw (a.row, row_name rows w.lifts at end w.end w.params k rows_fit, length_byte) (omega (arith, g.next));
        params = rw (a.row, row_first rows w.lifts at end w.end w.params k rows_fit, row_count rows w.lifts at end w.end w.params k rows_fit) (omega (arith, a.counted.2));
      })

      old : i < w.lifts → RowIn made' rows' v i
      old l =
          let r = t.rows_in i l in
          let q = r.name in
          let p = r.params in
          let b : get_or made' (get_or rows (5 * i + 2) 0) 0 ≡ get_or made (get_or rows (5 * i + 2) 0) 0 = rw g.made_holds (byte_before made (get_or rows (5 * i + 2) 0) w.end (name_bytes n) q) in
          record {
            name = rw (rows_same (5 * i + 2) (omega arith), b) (omega (arith, g.next));
            params = rw (rows_same (5 * i + 3) (omega arith), rows_same (5 * i + 4) (omega arith)) (omega (arith, a.counted.2));
          }

  tables' : Tables s made' places' ways' hints' rows' params' v
  tables' = record {
    source = t.source;
    made_long = rw (g.made_holds, length-put made w.end (name_bytes n)) t.made_long;
    places_long = rw g.places_hold (simp length-set t.places_long);
    ways_long = rw g.ways_long t.ways_long;
    hints_long = rw g.hints_hold (simp length-set t.hints_long);
    rows_long = rw (a.row, row_length rows w.lifts at end w.end w.params k) t.rows_long;
    params_long = rw f.long t.params_long;
    table = rw a.counted.0 grown.table;
    hinted = rw a.counted.0 (g.hinted ways_fit t.table t.hinted t.packed);
    packed = rw a.counted.0 (g.packed t.packed);
    rows_in = row_in;
    room = omega (arith, t.room, g.next, a.counted.2, a.counted.3, wi.names_least, wi.types_least);
    few = (omega (arith, t.few.0, a.counted.1, a.counted.4), omega (arith, t.few.1, a.counted.0, a.counted.4));
    bytes_most = omega (arith, a.counted.3);
    defns_most = omega (arith, a.counted.4);
  }

  made_lift : Enters s at end n (names_in_of s (take k uses)) env made places rows params number w made' places' ways' hints' rows' params' number' (Ok (record { call = length n + names + 5; counts = v }))
  unfolding Gives enter_with entered call_size head_size sheet_of
  made_lift = record {
    gives = λ finished.
        let ns = names_in_of s (take k uses) in
        let e = entered at end n ns f.of (sheet_of s made places rows params finished w) in
        let q : e.bytes ≡ bytes = omega (arith, f.names_size, f.types_size_of) in
        rw (f.all, fits-ok e (omega arith) (omega arith)) (
          omega (arith, f.names_size),
          sheet_is (rw a.counted.0 (sym grown.taken_is)) (sym rows_are) (q ∙ sym a.counted.3) (sym a.counted.4),
          (tables', a.numbered, a.counted.1),
        );
  }

-- the same where the parameters were put into their part of the sheet, then the row and the name into theirs
pub made_in_parts : (t t₁ t₂ : List ℕ) {s uses : List ℕ} {k : ℕ} {env : List Bound} {at end : ℕ} {n : Name} {places ways hints number : List ℕ} {w : Counts} {names types : ℕ}
    → Parts t₁ (order_in t) (rows_in_of t) (params_in t₁) (made_in t) → params_in t₂ ≡ params_in t₁ → Tables s (made_in t) places ways hints (rows_in_of t) (params_in t) w → Filled s uses k env (params_in t) w.params (params_in t₁) names types → Within k names types
    → length n ≤ 255 → (bytes : ℕ) → bytes ≡ w.bytes + 6 + (length n + 3 + names + types) + (length n + names + 5) → bytes ≤ 16384 → w.defns < 512
    → {places' ways' hints' number' : List ℕ} {v : Counts} → Adds s n at end k (made_in t₁) places ways hints (rows_in_of t₁) number w bytes (made_in t₂) places' ways' hints' (rows_in_of t₂) number' v
    → Enters s at end n (names_in_of s (take k uses)) env (made_in t) places (rows_in_of t) (params_in t) number w (made_in t₂) places' ways' hints' (rows_in_of t₂) (params_in t₂) number' (Ok (record { call = length n + names + 5; counts = v }))
made_in_parts t t₁ t₂ b e ts f wi short bytes sum small few a = rw e (made_lift ts f wi short bytes sum small few (rw (b.rows, b.made) at a))
