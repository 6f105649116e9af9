-- The table of macros.
use Rattle.std.specs.Prelude.{◌≡◌, List, [], is_some, ℕ, length, Option, Some, None}
use Rattle.definition.specs.Out.{done, ◌>>=◌}
use Rattle.definition.specs.Tree.{Name, Inners, macro_invocation, Definition}
use Rattle.definition.specs.Write.{w_book}
use Rattle.definition.specs.Macros.{Macro, macros, instance, inner_of, expand_macro}
use Rattle.laws.specs.Book.{IsBook}
use Rattle.nested.specs.Nested.{is_macro}
use Rattle.name_table.specs.forks.Leads.{Clear}
use Rattle.name_table.specs.kinds.Rows.{of_kinds, InRows, Rows as Right}
use Rattle.substitute.specs.instance.Paired.{Defined}
use Rattle.expand_macros.specs.declared.known_macros.Macros.{Macros}

-- rule 1: the macros of a book, the last definition in the first row
pub record Rows (s places ways : List ℕ) (n : ℕ) (ms : List Macro) : Type 0 where
  pub right : Right s places ways n
  pub of : List Definition
  pub in_rows : InRows s places n (of_kinds 4 4 of)
  pub are : ms ≡ macros of []

abbrev pub RowsOf : Macros → List Macro → Type 0
RowsOf t ms = Rows t.book.now t.places.now t.ways.now t.rows ms

-- a known macro, whose definition stands at a place
pub record Known (s : List ℕ) (ms : List Macro) (name : Name) (xs : Inners) (at : ℕ) : Type 0 where
  pub known : Macro
  pub defined : Defined s at known
  pub is : expand_macro ms name xs ≡ (instance known.params xs known.body >>= λ c. done (inner_of c))

abbrev pub Finds : List ℕ → List Macro → Name → Inners → Option ℕ → Type 0
Finds s ms name xs (Some at) = Known s ms name xs at
Finds s ms name xs None = expand_macro ms name xs ≡ done (macro_invocation name xs)

pub record FindsMacro (name : Name) (t : Macros) (r : Option ℕ) : Type 0 where
  pub says : (ms : List Macro) → RowsOf t ms → (xs : Inners) → Finds t.book.now ms name xs r
  pub known : (ms : List Macro) → RowsOf t ms → is_some r ≡ is_macro ms name

-- all macros of a book
pub record Tabled (s places ways places' ways' : List ℕ) (r : ℕ) : Type 0 where
  pub says : (ds : List Definition) → s ≡ w_book ds → IsBook ds → length places ≡ 512 → length ways ≡ 1280 → Clear ways → Rows s places' ways' r (macros ds [])
