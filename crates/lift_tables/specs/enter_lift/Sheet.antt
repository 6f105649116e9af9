-- What the naming pass has done so far, by names, places and numbers, and one lift more. Document 01, "Lifting rules", codes 7 to 10.
-- It is the state of crate lifting's walk (`Trace`) with rows for records, and numbers of lifts for places.
use Rattle.std.specs.Prelude.{◌&&◌, List, [], ◌∷◌, ◌++◌, map, ◌≡◌, Result, Ok, Err, ℕ, ◌+◌, ◌*◌, ◌≤◌, ◌<◌, leb, length, get_or, set}
use Rattle.definition.specs.Code.{no_binder, result_long}
use Rattle.definition.specs.Res.{Maybe, absent, just, Res, bad, ok, ◌>>=◌, require}
use Rattle.definition.specs.Tree.{Name}
use Rattle.what_comes_back.specs.Codes.{code_of}
use Rattle.what_comes_back.specs.declared.Code.{Code}
use Rattle.lifting.specs.Calls.{names_room}
use Rattle.name_table.specs.taken.Taken.{both, taken, Table, Hints, Packed}
use Rattle.lift_tables.specs.tables.Rows.{Row, rows_of}
use Rattle.lift_tables.specs.enter_lift.Bound.{Bound, type_of, binders_of, types_size}
use Rattle.lift_tables.specs.declared.enter_lift.Counts.{Counts}
use Rattle.lift_tables.specs.declared.enter_lift.Lifted.{Lifted}

-- `finished`: the numbers of the lifts that are finished
pub record Sheet : Type 0 where
  pub taken : List Name
  pub rows : List Row
  pub finished : List ℕ
  pub bytes : ℕ
  pub defns : ℕ

-- a call: tag, name, count, arguments, and the byte that says that no chain follows; a definition up to its combinator: name, count, parameters
unfoldable pub call_size : Name → List Name → ℕ
call_size n ns = length n + names_room ns + 5

unfoldable pub head_size : Name → List Name → List Bound → ℕ
head_size n ns bs = length n + 3 + names_room ns + types_size bs

-- "for each lift so far, 6 bytes of contents, the new body and the call, less the combinator moved"
unfoldable pub entered : ℕ → ℕ → Name → List Name → List Bound → Sheet → Sheet
entered p e n ns bs t = record {
  taken = n ∷ t.taken;
  rows = t.rows ++ (record { at = p; end = e; name = n; params = ns; types = map type_of bs } ∷ []);
  finished = t.finished;
  bytes = t.bytes + 6 + head_size n ns bs + call_size n ns;
  defns = t.defns + 1;
}

unfoldable pub fits : Sheet → Res Sheet Unit
fits t = require (leb t.bytes 16384 && leb t.defns 512) result_long t

-- 8 and then 10; the answer is the size of the call
unfoldable pub enter_with : ℕ → ℕ → Name → List Name → Maybe (List Bound) → Sheet → Res Sheet ℕ
enter_with p e n ns absent t = bad no_binder t
enter_with p e n ns (just bs) t = do
  (u, t) ← fits (entered p e n ns bs t)
  ok (call_size n ns) t

abbrev pub enters : ℕ → ℕ → Name → List Name → List Bound → Sheet → Res Sheet ℕ
enters p e n ns env t = enter_with p e n ns (binders_of env ns) t

-- what the tables say; the lifts that are finished are told apart
unfoldable pub sheet_of : List ℕ → List ℕ → List ℕ → List ℕ → List ℕ → List ℕ → Counts → Sheet
sheet_of s made places rows params finished w = record {
  taken = taken (both s made) places w.taken;
  rows = rows_of s made rows params w.lifts;
  finished = finished;
  bytes = w.bytes;
  defns = w.defns;
}

-- a row's name and its parameters stand where those of later rows do not
pub record RowIn (made rows : List ℕ) (w : Counts) (i : ℕ) : Type 0 where
  pub name : get_or rows (5 * i + 2) 0 + 1 + get_or made (get_or rows (5 * i + 2) 0) 0 ≤ w.end
  pub params : get_or rows (5 * i + 3) 0 + get_or rows (5 * i + 4) 0 ≤ w.params

-- the tables are long enough, and what they hold is right. Each lift adds at least 14 bytes, two for each of its name's and five for each parameter
pub record Tables (s made places ways hints rows params : List ℕ) (w : Counts) : Type 0 where
  pub source : length s ≤ 16384
  pub made_long : 8192 ≤ length made
  pub places_long : 512 ≤ length places
  pub ways_long : 1280 ≤ length ways
  pub hints_long : 512 ≤ length hints
  pub rows_long : 2560 ≤ length rows
  pub params_long : 13108 ≤ length params
  pub table : Table (both s made) places ways w.taken
  pub hinted : Hints (both s made) places hints w.taken
  pub packed : Packed made places w.taken w.end
  pub rows_in : (i : ℕ) → i < w.lifts → RowIn made rows w i
  pub room : 2 * w.end + 5 * w.params ≤ w.bytes
  pub few : (w.lifts ≤ w.defns) × (w.taken ≤ w.defns)
  pub bytes_most : w.bytes ≤ 16384
  pub defns_most : w.defns ≤ 512

-- the table of rows with row number i
unfoldable pub with_row : List ℕ → ℕ → ℕ → ℕ → ℕ → ℕ → ℕ → List ℕ
with_row d i at end name first count = set (set (set (set (set d (5 * i) at) (5 * i + 1) end) (5 * i + 2) name) (5 * i + 3) first) (5 * i + 4) count

-- the answer of a lift, or its refusal: what the tables say then, and that they are right
unfoldable pub Gives : Res Sheet ℕ → Result Lifted Code → (Counts → Sheet) → (Counts → Type 0) → Type 0
Gives (bad k t) (Err c) sheet good = c ≡ code_of k
Gives (ok call t) (Ok e) sheet good = (e.call ≡ call) × (t ≡ sheet e.counts) × good e.counts
Gives (bad k t) (Ok e) sheet good = ⊥
Gives (ok call t) (Err c) sheet good = ⊥
