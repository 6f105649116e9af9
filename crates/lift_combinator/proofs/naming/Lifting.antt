-- One lift: the codes in their order, and what is entered.
-- Assumes nothing.
use mathlib.Core.Path.{◌≡◌, refl}
use mathlib.Core.Logic.{⊎_elim}
use mathlib.Core.Bool.{Bool, true, false, cond}
use mathlib.Core.List.{List, [], ◌∷◌}
use Prim.Native.Nat.{ℕ, suc, ◌≤◌, ◌<◌}
use native.Mathlib.Omega.{arith}
use lib.ListN.{length, take}
use borrow.Author.Tests.{le-leb, lt-leb}
use Rattle.std.specs.Prelude.{Result, Ok, Err}
use Rattle.what_comes_back.specs.declared.Code.{Code}
use Rattle.what_comes_back.specs.declared.Code.TheVariants.{LeftoverMacro, NameLong}
use Rattle.definition.specs.Res.{Res, bad, ok, ◌>>=◌}
use Rattle.definition.specs.Tree.{Name, Combinator}
use Rattle.definition.specs.Names.{eq_name, before, insert, sorted, fresh}
use Rattle.definition.specs.Size.{size}
use Rattle.definition.specs.Collect.{free, leftover}
use Rattle.definition.specs.Write.{w_combinator}
use Rattle.laws.proofs.Tests.{yes_no}
use Rattle.laws.proofs.Sizes.{adds}
use Rattle.laws.proofs.Splits.{s_comb}
use Rattle.layout.proofs.items.Here.{here_length}
use Rattle.collect_params.specs.uses.Uses.{names_in_of}
use Rattle.collect_params.proofs.collect.Room.{free_room}
use Rattle.collect_params.specs.params.Params.{params_at}
use Rattle.collect_params.proofs.params.Parameters.{params_leftover, params_count, params_names}
use Rattle.generated_name.specs.child_name.Name.{Held}
use Rattle.name_table.specs.taken.Taken.{both, taken, Hints}
use Rattle.generated_name.proofs.child_name.Held.{held_whole}
use Rattle.lift_tables.specs.declared.enter_lift.Counts.{Counts}
use Rattle.lift_tables.specs.declared.enter_lift.Lifted.{Lifted}
use Rattle.lift_tables.specs.enter_lift.Bound.{Bound}
use Rattle.lift_tables.specs.enter_lift.Sheet.{Sheet, sheet_of, Tables, Gives}
use Rattle.lift_tables.specs.enter_lift.Enters.{Enters}
use Rattle.lift_combinator.specs.declared.naming.Lift.{Lift}
use Rattle.lift_combinator.specs.naming.Walk.{starts}
use Rattle.lift_combinator.specs.naming.Lifts.{Whole, Scratch, Answers, Lifts}

-- a name in the path, by its length
name_over : {d : List ℕ} {n : ℕ} {name : Name} → Held d n name → length d ≡ 255 → 255 < n → 255 < length name
name_over h l k = omega (arith, h.place)

name_short : {d : List ℕ} {n : ℕ} {name : Name} → Held d n name → length d ≡ 255 → n ≤ 255 → length name ≤ 255
name_short h l k = omega (arith, h.place)

-- a name more is at most one more in the list
insert_short : (n : Name) (l : List Name) → length (insert n l) ≤ suc (length l)
unfolding insert
insert_short n [] = omega arith
insert_short n (m ∷ l) = of (eq_name n m) (before n m) (insert_short n l)
  where
    of : (a b : Bool) → length (insert n l) ≤ suc (length l) → length (cond a (m ∷ l) (cond b (n ∷ m ∷ l) (m ∷ insert n l))) ≤ suc (suc (length l))
    of true b h = omega arith
    of false true h = omega arith
    of false false h = omega arith

sorted_short : (l : List Name) → length (sorted l) ≤ length l
unfolding sorted
sorted_short [] = omega arith
sorted_short (n ∷ l) = omega (arith, insert_short n (sorted l), sorted_short l)

-- collection, by what it answers
module _ {s : List ℕ} {at end : ℕ} {c : Combinator} (w : Whole s at end c) (bound uses spare : List ℕ) (x : Scratch s bound uses spare) (short : length s ≤ 16384) where
  pub clear : {k : ℕ} → (params_at s at bound uses spare).0 ≡ Ok k → leftover c ≡ false
  clear {k} e = ⊎_elim
      (λ (h : leftover c ≡ true). let q = params_leftover s at c w.after x.small (omega arith) w.deep w.is bound uses spare x.labels h in let z : ◌≡◌ {A = ℕ} 0 1 = cc in absurd (omega arith))
      (λ (h : leftover c ≡ false). h)
      (yes_no (leftover c))

  pub left_over : {d : Code} → (params_at s at bound uses spare).0 ≡ Err d → leftover c ≡ true
  left_over e = ⊎_elim
      (λ (h : leftover c ≡ true). h)
      (λ (h : leftover c ≡ false).
      let q = params_count s at c w.after x.small (omega arith) w.deep w.is bound uses spare x.labels h x.uses_long x.spare_long in
      let z : ◌≡◌ {A = ℕ} 0 1 = cc in absurd (omega arith))
      (yes_no (leftover c))

  pub left_code : {d : Code} → (params_at s at bound uses spare).0 ≡ Err d → d ≡ LeftoverMacro
  left_code e = let q = params_leftover s at c w.after x.small (omega arith) w.deep w.is bound uses spare x.labels (left_over e) in cc

  module _ {k : ℕ} (e : (params_at s at bound uses spare).0 ≡ Ok k) where
    count : k ≡ length (sorted (free c))
    count = let q = params_count s at c w.after x.small (omega arith) w.deep w.is bound uses spare x.labels (clear e) x.uses_long x.spare_long in cc

    pub count_short : k ≤ length s
    count_short = omega (arith, count, sorted_short (free c), free_room c w.after, here_length w.is)

    pub are_sorted : names_in_of s (take k (params_at s at bound uses spare).2) ≡ sorted (free c)
    are_sorted = rw count (params_names s at c w.after x.small (omega arith) w.deep w.is bound uses spare x.labels (clear e) x.uses_long x.spare_long)

-- what is entered, with the length of its name
abbrev pub lift_of : ℕ → Result Lifted Code → Result Lift Code
lift_of n (Ok l) = Ok (record { len = n; call = l.call; counts = l.counts })
lift_of n (Err c) = Err c

answers : (n : ℕ) (path' : List ℕ) (m : Res Sheet ℕ) (r : Result Lifted Code) (name : Name) (sheet : Counts → Sheet) (good : Counts → Type 0) → Held path' n name → Gives m r sheet good
    → Answers (m >>= (λ x. ok (record { name = name; call = x.0 }) x.1)) (lift_of n r) path' sheet good
unfolding Answers Gives
answers n path' (bad k t) (Err c) name sheet good held h = h
answers n path' (ok k t) (Ok l) name sheet good held h = (held, h.0, h.1, h.2)
answers n path' (bad k t) (Ok l) name sheet good held h = h
answers n path' (ok k t) (Err c) name sheet good held h = h

-- the tables with other hints
pub tables_hinted : {s made places ways hints rows params : List ℕ} {w : Counts} {hints' : List ℕ} → Tables s made places ways hints rows params w → Hints (both s made) places hints' w.taken → length hints' ≡ length hints
    → Tables s made places ways hints' rows params w
tables_hinted t h e = record {
  source = t.source;
  made_long = t.made_long;
  places_long = t.places_long;
  ways_long = t.ways_long;
  hints_long = omega (arith, t.hints_long);
  rows_long = t.rows_long;
  params_long = t.params_long;
  table = t.table;
  hinted = h;
  packed = t.packed;
  rows_in = t.rows_in;
  room = t.room;
  few = t.few;
  bytes_most = t.bytes_most;
  defns_most = t.defns_most;
}

pub whole_within : {s : List ℕ} {at end : ℕ} {c : Combinator} → Whole s at end c → end ≤ length s
unfolding size
whole_within {c = c} w = omega (arith, w.ends, here_length w.is, adds (w_combinator c) (s_comb c) w.after)

-- ---- the three ways
module _ {s : List ℕ} {at end : ℕ} {path : List ℕ} {len : ℕ} {env : List Bound} {made places rows params number : List ℕ} {w : Counts} {path' made' places' ways' hints' rows' params' number' : List ℕ} {n : ℕ}
    (named : (base : Name) → Held path len base → Held path' n (fresh base (taken (both s made) places w.taken))) (kept : take len path' ≡ take len path) (long : length path' ≡ 255) where
  pub refused_name : 255 < n → Lifts s at end path len env made places rows params number w path' made' places' ways' hints' rows' params' number' (Err NameLong)
  unfolding Answers starts sheet_of
  refused_name h = record { kept = kept; lifts = λ c base finished o held. rw (lt-leb (length (fresh base (taken (both s made) places w.taken))) 255 (name_over (named base held) long h)) refl }

  module _ (short : n ≤ 255) where
    pub refused_macro : ((c : Combinator) → Whole s at end c → leftover c ≡ true) → Lifts s at end path len env made places rows params number w path' made' places' ways' hints' rows' params' number' (Err LeftoverMacro)
    unfolding Answers starts sheet_of
    refused_macro h = record { kept = kept; lifts = λ c base finished o held. rw (le-leb (length (fresh base (taken (both s made) places w.taken))) 255 (name_short (named base held) long short), h c o) refl }

    pub entered_lift : (ns : List Name) (r : Result Lifted Code) → ((c : Combinator) → Whole s at end c → (leftover c ≡ false) × (ns ≡ sorted (free c)))
        → Enters s at end (take n path') ns env made places rows params number w made' places' ways' hints' rows' params' number' r
        → Lifts s at end path len env made places rows params number w path' made' places' ways' hints' rows' params' number' (lift_of n r)
    unfolding starts sheet_of
    entered_lift ns r clear e = record {
      kept = kept;
      lifts = λ c base finished o held.
          let name = fresh base (taken (both s made) places w.taken) in
          let q = clear c o in
          let hn = named base held in
          let nm : take n path' ≡ name = held_whole hn (omega arith) in
          rw (le-leb (length name) 255 (name_short hn long short), q.0, ← o.ends, ← q.1) (answers n path' _ r name _ _ hn (rw nm at (e.gives finished)));
    }
