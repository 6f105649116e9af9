-- The tables before the first definition.
-- Assumes nothing.
use mathlib.Core.Path.{◌≡◌, ap, ◌∙◌}
use mathlib.Core.List.{List}
use Prim.Native.Nat.{ℕ, ◌≤◌, ◌<◌}
use native.Mathlib.Omega.{arith}
use lib.ListN.{length, take, get_or}
use Rattle.definition.specs.Tree.{Definition}
use Rattle.definition.specs.Write.{w_book}
use Rattle.definition.specs.Size.{size_book}
use Rattle.laws.specs.Book.{IsBook}
use Rattle.layout.specs.items.At.{number_at}
use Rattle.walker.proofs.definitions.Listed.{book_listed}
use Rattle.lift_tables.specs.tables.Rows.{rows_of, last_from}
use Rattle.lift_tables.specs.declared.enter_lift.Counts.{Counts}
use Rattle.lift_tables.specs.enter_lift.Sheet.{sheet_of}
use Rattle.expand_definitions.specs.walked.Book.{blank, walk_book}
use Rattle.expand_combinator.specs.declared.body.Named.{Named}
use Rattle.std.specs.Prelude.{Result}
use Rattle.what_comes_back.specs.declared.Code.{Code}
use Rattle.expand_combinator.specs.open_child.Good.{Good}
use Rattle.name_table.specs.forks.Leads.{Clear}
use Rattle.name_table.proofs.taken.Take.{table_anywhere, taken_anywhere, packed_anywhere, hints_none}
use Rattle.name_table.specs.kinds.Rows.{OfKinds, Room, Rows}
use Rattle.name_table.proofs.kinds.Rows.{names_in}
use Rattle.expand_definitions.specs.in_order.InOrder.{InOrder}
use Rattle.expand_definitions.specs.naming_pass.Expands.{Starts, Expands}
use Rattle.what_comes_back.proofs.Reporting.{expanded_short}

abbrev pub counts : ℕ → ℕ → ℕ → Counts
counts taken bytes defns = record { taken = taken; end = 0; lifts = 0; params = 0; bytes = bytes; defns = defns }

module _ {s made rows params number order : List ℕ} (x : Starts s made rows params number order) where
  module _ {places₀ ways₀ places ways : List ℕ} {taken : ℕ} (t : OfKinds s 1 2 places₀ ways₀ places ways taken) (c : Clear ways₀) (lp₀ : 512 ≤ length places₀) (lw₀ : 1280 ≤ length ways₀) {defns : ℕ} (ed : defns ≡ number_at s 0) where
    right : Rows s places ways taken
    right = t.right c (omega arith)

    room : Room places₀ ways₀ 512
    room = record { places_long = omega arith; ways_long = omega arith }

    pub good : {hints : List ℕ} → 512 ≤ length places → 1280 ≤ length ways → 512 ≤ length hints → ((i : ℕ) → i < 512 → get_or hints i 0 ≡ 0) → Good s made places ways hints rows params number order (counts taken (length s) defns) 0
    unfolding rows_of last_from
    good lp lh li hi =
        let k = x.book in
        let r = t.says k.of k.book k.is_book room in
        let d : defns ≡ length k.of = ed ∙ (book_listed s k.of k.book k.is_book).0 in
        let l = expanded_short k in
        record {
          tables = record {
            source = l;
            made_long = x.made_long;
            places_long = lp;
            ways_long = lh;
            hints_long = li;
            rows_long = x.rows_long;
            params_long = x.params_long;
            table = table_anywhere s right.sourced made right.table;
            hinted = hints_none _ places _ taken (omega (arith, r.1, k.is_book.few)) (λ i h. hi i (omega (arith, r.1, k.is_book.few)));
            packed = packed_anywhere s right.sourced made;
            rows_in = λ i h. absurd (omega arith);
            room = omega arith;
            few = (omega arith, omega (arith, r.1));
            bytes_most = l;
            defns_most = omega (arith, k.is_book.few);
          };
          number_long = x.number_long;
          numbered = λ p h. x.blank p;
          order_long = x.order_long;
          finished = omega arith;
        }

    sheet_is : (ds : List Definition) → s ≡ w_book ds → IsBook ds → sheet_of s made places rows params (take 0 order) (counts taken (length s) defns) ≡ blank ds
    unfolding sheet_of rows_of blank size_book
    sheet_is ds e b =
        let l : length s ≡ length (w_book ds) = ap length e in
        let d : defns ≡ length ds = ed ∙ (book_listed s ds e b).0 in
        rw (taken_anywhere s right.sourced made, names_in right ds (t.says ds e b room).0, l, d)

    pub expands : {made' places' ways' hints' rows' params' number' order' : List ℕ} {r : Result Named Code} → InOrder s made places rows params order (counts taken (length s) defns) made' places' ways' hints' rows' params' number' order' r
        → Expands s made' rows' params' number' order' r
    unfolding walk_book
    expands {made'} {places'} {ways'} {hints'} {rows'} {params'} {number'} {order'} {r} o = record {
      places = places';
      ways = ways';
      hints = hints';
      expands = λ ds e b. rw (← (sheet_is ds e b)) (o.says ds e b);
    }
