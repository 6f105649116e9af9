-- No second answer fits the contract of the contents.
use mathlib.Core.Path.{◌≡◌, ap, sym, ◌∙◌}
use mathlib.Core.List.{List, []}
use Prim.Native.Nat.{ℕ}
use Rattle.definition.specs.Res.{ok}
use Rattle.definition.specs.Contents.{contents}
use Rattle.std.specs.Prelude.{Result, Ok, Err}
use Rattle.read_book.specs.cursor.Ends.{Fails}
use Rattle.read_book.specs.declared.cursor.Fault.{Fault}
use Rattle.read_book.proofs.cursor.Only.{no_value, one_fault}
use Rattle.read_book.specs.contents.Table.{Holds, table, Tabled}

module _ (s : List ℕ) (width : ℕ) where
  holds_table : {n : ℕ} (h : Holds s width n) → table width s ≡ ok h.bodies []
  unfolding table contents
  holds_table h = rw (h.counted, h.reads) h.cuts

  not_held : {n : ℕ} {f : Fault} → Holds s width n → Fails s 0 f (table width s) → ⊥
  not_held h y = no_value (sym y.fails ∙ holds_table h)

  pub one_contents : (r r' : Result ℕ Fault) → Tabled s width r → Tabled s width r' → r ≡ r'
  one_contents (Ok n) (Ok k) x y =
      let e = sym x.told.counted ∙ y.told.counted in
      let i : n ≡ k = cc in
      rw i
  one_contents (Ok n) (Err f) x y = absurd (not_held x.told y.told)
  one_contents (Err f) (Ok n) x y = absurd (not_held y.told x.told)
  one_contents (Err f) (Err g) x y = ap Err (one_fault s 0 f g x.told y.told)
