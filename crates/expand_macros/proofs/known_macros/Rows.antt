-- The macros in rows: what a look-up finds.
-- Assumes nothing.
use mathlib.Core.Path.{◌≡◌, refl, sym, ap, ◌∙◌}
use mathlib.Core.Logic.{⊎_elim}
use mathlib.Core.List.{List, [], ◌∷◌, ◌++◌, append_assoc, append-nil}
use mathlib.Core.Bool.{Bool, true, false, ◌||◌}
use Prim.Native.Nat.{ℕ, ◌-◌, ◌≤◌, ◌<◌}
use native.Mathlib.Omega.{arith}
use native.Mathlib.Nat.{eq-or-lt_of_le}
use lib.ListN.{length, get_or}
use Rattle.definition.specs.Out.{done}
use Rattle.definition.specs.Tree.{Name, Combinator, Inners, no_inner, macro_invocation, Definition, format, constant, byte_order, macro}
use Rattle.definition.specs.Names.{eq_name}
use Rattle.definition.specs.Write.{w_name, w_list, w_definition, w_combinator, kind_of, kind_byte}
use Rattle.definition.specs.Size.{levels_book}
use Rattle.definition.specs.Macros.{Macro, macros, expand_by, expand_macro}
use Rattle.nested.specs.Nested.{is_macro}
use Rattle.layout.specs.lookup.Name.{name_at, name_of}
use Rattle.layout.proofs.lookup.Names.{stands, yes_no, not_both, ne_name, eq_name-true, eq_name_refl}
use Rattle.name_table.specs.forks.Forks.{slot_of, row_at}
use Rattle.name_table.specs.forks.Leads.{row_of}
use Rattle.name_table.proofs.forks.Rows.{leads_before, leads_nowhere}
use Rattle.name_table.specs.taken.Taken.{both, row}
use Rattle.name_table.proofs.taken.Take.{source_place}
use Rattle.name_table.specs.kinds.Rows.{keep, of_kinds, Stands, InRows, OfKinds}
use Rattle.std.specs.Prelude.{Some, None}
use Rattle.expand_macros.specs.declared.known_macros.Macros.{Macros}
use Rattle.expand_macros.specs.known_macros.Table.{Rows, Known, FindsMacro, Tabled}

-- ---- two lists of macros, one behind the other
macros_behind : (ds : List Definition) (ms : List Macro) → macros ds ms ≡ macros ds [] ++ ms
unfolding macros
macros_behind [] ms = refl
macros_behind (format n ps c ∷ ds) ms = macros_behind ds ms
macros_behind (constant n x ∷ ds) ms = macros_behind ds ms
macros_behind (byte_order x ∷ ds) ms = macros_behind ds ms
macros_behind (macro n ps c ∷ ds) ms =
    let m : Macro = record { name = n; params = ps; body = c } in
    macros_behind ds (m ∷ ms) ∙ sym (append_assoc (macros ds []) (m ∷ []) ms) ∙ ap (λ (l : List Macro). l ++ ms) (sym (macros_behind ds (m ∷ [])))

module _ (name : Name) where
  is_behind : (a b : List Macro) → is_macro (a ++ b) name ≡ is_macro a name || is_macro b name
  unfolding is_macro
  is_behind [] b = refl
  is_behind (m ∷ a) b = ⊎_elim
      (λ (q : eq_name m.name name ≡ true). rw q)
      (λ (q : eq_name m.name name ≡ false). rw q (is_behind a b))
      (yes_no (eq_name m.name name))

  module _ (xs : Inners) where
    expand_behind : (a b : List Macro) → is_macro a name ≡ false → expand_macro (a ++ b) name xs ≡ expand_macro b name xs
    unfolding is_macro expand_macro expand_by
    expand_behind [] b e = refl
    expand_behind (m ∷ a) b e = ⊎_elim
        (λ (q : eq_name m.name name ≡ true). absurd (not_both true refl (rw q at e)))
        (λ (q : eq_name m.name name ≡ false). rw q (expand_behind a b (rw q at e)))
        (yes_no (eq_name m.name name))

    expand_before : (a b : List Macro) → is_macro a name ≡ true → expand_macro (a ++ b) name xs ≡ expand_macro a name xs
    unfolding is_macro expand_macro expand_by
    expand_before [] b e = absurd (not_both false e refl)
    expand_before (m ∷ a) b e = ⊎_elim
        (λ (q : eq_name m.name name ≡ true). rw q)
        (λ (q : eq_name m.name name ≡ false). rw q (expand_before a b (rw q at e)))
        (yes_no (eq_name m.name name))

    none_known : (a : List Macro) → is_macro a name ≡ false → expand_macro a name xs ≡ done (macro_invocation name xs)
    unfolding expand_macro
    none_known a e = ap (λ (l : List Macro). expand_macro l name xs) (sym (append-nil a)) ∙ expand_behind a [] e

-- ---- macros in rows, and a name
module _ (s places : List ℕ) (name : Name) where
  abbrev at : ℕ → Name
  at j = name_at s (get_or places j 0)

  last_name : (n : ℕ) {m : Name} {ps : List Name} {c : Combinator} → Stands s (get_or places (n - 1) 0) (macro m ps c) → at (n - 1) ≡ m
  unfolding w_definition
  last_name n {m} {ps} {c} k = stands s (get_or places (n - 1) 0) m (w_list w_name ps (w_combinator c k.rest)) k.here.is

  -- no row has it
  no_row : (n : ℕ) (ds : List Definition) → InRows s places n (of_kinds 4 4 ds) → ((j : ℕ) → j < n → eq_name name (at j) ≡ false) → is_macro (macros ds []) name ≡ false
  unfolding of_kinds keep InRows macros is_macro kind_byte kind_of
  no_row n [] r f = refl
  no_row n (format m ps c ∷ ds) r f = no_row n ds r f
  no_row n (constant m x ∷ ds) r f = no_row n ds r f
  no_row n (byte_order x ∷ ds) r f = no_row n ds r f
  no_row n (macro m ps c ∷ ds) r f =
      let z = r.0 in
      let e = last_name n r.1 in
      let q : eq_name m name ≡ false = ne_name m name (λ k. not_both _ (eq_name_refl name) (ap (eq_name name) (sym (e ∙ k)) ∙ f (n - 1) (omega arith))) in
      rw (macros_behind ds (record { name = m; params = ps; body = c } ∷ []), is_behind name (macros ds []) (record { name = m; params = ps; body = c } ∷ []), no_row (n - 1) ds r.2 (λ j h. f j (omega arith)), q)

  -- the first that has it
  module _ (xs : Inners) where
    record First (ms : List Macro) (r : ℕ) : Type 0 where
      known : is_macro ms name ≡ true
      here : Known s ms name xs (get_or places r 0)

    one_row : (n : ℕ) (ds : List Definition) → InRows s places n (of_kinds 4 4 ds) → (r : ℕ) → r < n → eq_name name (at r) ≡ true → ((j : ℕ) → j < r → eq_name name (at j) ≡ false) → First (macros ds []) r
    unfolding of_kinds keep InRows macros is_macro expand_macro expand_by kind_byte kind_of levels_book
    one_row n [] k r h e f = absurd (omega arith)
    one_row n (format m ps c ∷ ds) k r h e f = one_row n ds k r h e f
    one_row n (constant m x ∷ ds) k r h e f = one_row n ds k r h e f
    one_row n (byte_order x ∷ ds) k r h e f = one_row n ds k r h e f
    one_row n (macro m ps c ∷ ds) k r h e f =
        let z = k.0 in
        let w = macros_behind ds (record { name = m; params = ps; body = c } ∷ []) in
        rw w (⊎_elim (λ (q : r ≡ n - 1). last q) (λ (q : r < n - 1). before (one_row (n - 1) ds k.2 r q e f)) (eq-or-lt_of_le (omega arith)))
      where
        this : List Macro
        this = record { name = m; params = ps; body = c } ∷ []

        last : r ≡ n - 1 → First (macros ds [] ++ this) r
        last q =
            let u = no_row (n - 1) ds k.2 (λ j i. f j (omega arith)) in
            let y : eq_name m name ≡ true = rw (← (last_name n k.1), ← q, ← (eq_name-true name (at r) e)) (eq_name_refl name) in
            record {
              known = is_behind name (macros ds []) this ∙ rw (u, y);
              here = record {
                known = record { name = m; params = ps; body = c };
                defined = rw q (record { rest = k.1.rest; here = k.1.here; deep = let d = k.1.deep in omega arith });
                is = expand_behind name xs (macros ds []) this u ∙ rw y;
              };
            }

        before : First (macros ds []) r → First (macros ds [] ++ this) r
        before v = record {
          known = is_behind name (macros ds []) this ∙ rw v.known;
          here = record { known = v.here.known; defined = v.here.defined; is = expand_before name xs (macros ds []) this v.known ∙ v.here.is };
        }

-- ---- the look-up
module _ (name : Name) (t : Macros) where
  abbrev s : List ℕ
  s = t.book.now

  abbrev places : List ℕ
  places = t.places.now

  abbrev ways : List ℕ
  ways = t.ways.now

  abbrev n : ℕ
  n = t.rows

  -- the names of the rows are those at their places
  at_row : {ms : List Macro} → Rows s places ways n ms → (j : ℕ) → j < n → row (both s []) places j ≡ name_at s (get_or places j 0)
  unfolding row name_of
  at_row k j h = rw (source_place (get_or places j 0) (k.right.sourced.low j h))

  module _ {ms : List Macro} (k : Rows s places ways n ms) where
    -- no row before the one to which the way leads has the name
    none_before : (j : ℕ) → j < n → j < row_of ways name n → eq_name name (name_at s (get_or places j 0)) ≡ false
    none_before j i h = ap (eq_name name) (sym (at_row k j i)) ∙ leads_before k.right.table.leads name j i h

    -- and none at all, where that one has another
    none_at_all : (row_of ways name n < n → eq_name name (name_at s (get_or places (row_of ways name n) 0)) ≡ false) → (j : ℕ) → j < n → eq_name name (name_at s (get_or places j 0)) ≡ false
    none_at_all f j i = ap (eq_name name) (sym (at_row k j i)) ∙ leads_nowhere k.right.table.leads name (λ y. ap (eq_name name) (at_row k (row_of ways name n) y) ∙ f y) j i

  unknown : ((ms : List Macro) → Rows s places ways n ms → row_of ways name n < n → eq_name name (name_at s (get_or places (row_of ways name n) 0)) ≡ false) → FindsMacro name t None
  unknown f = record { says = λ ms k xs. none_known name xs ms (none ms k); known = λ ms k. sym (none ms k) }
    where
      none : (ms : List Macro) → Rows s places ways n ms → is_macro ms name ≡ false
      none ms k = rw k.are (no_row s places name n k.of k.in_rows (none_at_all k (f ms k)))

  module _ {x : ℕ} (ex : x ≡ slot_of ways name n) where
    row_is : {r : ℕ} → row_at ways x n ≡ r → r ≡ row_of ways name n
    unfolding row_of
    row_is er = sym er ∙ rw ex

    pub finds_none : row_at ways x n ≡ n → FindsMacro name t None
    finds_none er = unknown (λ ms k i. absurd (let z = row_is er in omega arith))

    module _ {r : ℕ} (er : row_at ways x n ≡ r) (h : r < n) where
      pub finds_far : length places ≤ r → FindsMacro name t None
      finds_far l = unknown (λ ms k i. absurd (let z = row_is er in let y = k.right.table.places_long in omega arith))

      module _ {at : ℕ} (ea : at ≡ get_or places r 0) {other : Name} (eo : other ≡ name_at s at) {same : Bool} (es : same ≡ eq_name name other) where
        pub finds_here : same ≡ true → FindsMacro name t (Some at)
        finds_here e = rw ea (record {
          says = λ ms k xs. let v = found ms k xs in rw k.are v.here;
          known = λ ms k. sym (rw k.are (found ms k no_inner).known);
        })
          where
            found : (ms : List Macro) (k : Rows s places ways n ms) (xs : Inners) → First s places name xs (macros k.of []) r
            found ms k xs = one_row s places name xs n k.of k.in_rows r h (sym (ap (eq_name name) (eo ∙ ap (name_at s) ea)) ∙ sym es ∙ e) (λ j i. none_before k j (omega arith) (let z = row_is er in omega arith))

        pub finds_other : same ≡ false → FindsMacro name t None
        finds_other e = unknown (λ ms k i. rw (← row_is er) (sym (ap (eq_name name) (eo ∙ ap (name_at s) ea)) ∙ sym es ∙ e))

-- ---- filling
pub tabled : {s pl ws pl' ws' : List ℕ} {r : ℕ} → OfKinds s 4 4 pl ws pl' ws' r → Tabled s pl ws pl' ws' r
tabled t = record {
  says = λ ds e b lp lw c. record {
    right = t.right c (omega arith);
    of = ds;
    in_rows = (t.says ds e b (record { places_long = omega arith; ways_long = omega arith })).0;
    are = refl;
  };
}
