-- One parameter of a row.
use mathlib.Core.Path.{◌≡◌}
use mathlib.Core.List.{List}
use Prim.Native.Nat.{ℕ}
use lib.ListN.{drop}
use Rattle.std.specs.Prelude.{Ok, Err, IsErrAnd}
use Rattle.definition.specs.Read.{name, arg, params}
use Rattle.read_book.specs.cursor.Ends.{Walked, Ends}
use Rattle.read_book.specs.declared.cursor.Cursor.{Cursor}
use Rattle.read_book.specs.declared.cursor.Fault.{Fault}
use Rattle.read_book.specs.name_list.Rows.{Leads}
use Rattle.read_book.proofs.cursor.Laws.{handed}
use Rattle.read_book.proofs.name_list.Bind.{then, stops, made_in}
use Rattle.read_book.proofs.name_list.Rows.{last}

-- one parameter: its name and its type
module _ {s : List ℕ} {p : ℕ} where
  pub no_param_name : {f : Fault} {r : Walked} → Ends s p (Err f) (name (drop p s)) → IsErrAnd r (λ g. g ≡ f) → Leads s p r params
  unfolding params
  no_param_name {r = r} i h = rw (handed r h) (record { told = λ n. stops _ i.told })

  pub a_param : {d : Cursor} {r : Walked} → Ends s p (Ok d) (name (drop p s)) → Ends s d.at r (arg 64 (drop d.at s)) → Leads s p r params
  unfolding params
  a_param {d} i e = last params e (λ n r j. then _ i (λ a. made_in (arg 64 (drop d.at s)) (λ y. params n y.1) _ j))
