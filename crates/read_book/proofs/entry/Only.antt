-- No second answer fits the contract of an entry.
use mathlib.Core.Path.{◌≡◌, ap, sym, ◌∙◌}
use mathlib.Core.List.{List}
use Prim.Native.Nat.{ℕ, ◌+◌}
use Rattle.std.specs.Prelude.{Result, Ok, Err}
use Rattle.definition.specs.Res.{Res}
use Rattle.definition.specs.Tree.{Entry}
use Rattle.read_book.specs.cursor.Ends.{Fails}
use Rattle.read_book.specs.declared.cursor.Cursor.{Cursor}
use Rattle.read_book.specs.declared.cursor.Fault.{Fault}
use Rattle.read_book.proofs.cursor.Only.{no_value, one_fault, same_at}
use Rattle.read_book.specs.entry.Found.{Told, Found}
use Rattle.read_book.specs.declared.entry.ContentsEntry.{ContentsEntry}

same_entry : (x y : ContentsEntry) → x.kind ≡ y.kind → x.end ≡ y.end → x.next ≡ y.next → x ≡ y
same_entry x y k e n =
    let r : ◌≡◌ {A = ContentsEntry} (record { kind = x.kind; end = x.end; next = x.next }) (record { kind = y.kind; end = y.end; next = y.next }) = rw (k, e, n) in
    r

module _ (s : List ℕ) (p want width : ℕ) {m : Res (List ℕ) Entry} where
  not_both : {k e : ℕ} {c : Cursor} {f : Fault} → Told s p want width k e c m → Fails s p f m → ⊥
  not_both x y = no_value (sym y.fails ∙ x.gives)

  pub one_entry : (r r' : Result ContentsEntry Fault) → Found s p want width r m → Found s p want width r' m → r ≡ r'
  one_entry (Ok a) (Ok b) x y =
      let v = sym x.told.gives ∙ y.told.gives in
      let w : x.told.value ≡ y.told.value = cc in
      ap Ok (same_entry a b
      (x.told.byte ∙ sym y.told.byte)
      (x.told.sized ∙ ap (λ (z : Entry). want + z.size) w ∙ sym y.told.sized)
      (same_at a.next b.next (x.told.past ∙ sym y.told.past)))
  one_entry (Ok a) (Err f) x y = absurd (not_both x.told y.told)
  one_entry (Err f) (Ok b) x y = absurd (not_both y.told x.told)
  one_entry (Err f) (Err g) x y = ap Err (one_fault s p f g x.told y.told)
