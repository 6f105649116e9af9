-- What the code says of an entry of the contents.
use Rattle.std.specs.Prelude.{◌≡◌, List, ℕ, ◌+◌, ◌≤◌, length, drop, get_or, Result, Ok, Err}
use Rattle.definition.specs.Res.{absent, just, Res, ok}
use Rattle.definition.specs.Tree.{Entry}
use Rattle.definition.specs.Read.{kinds}
use Rattle.read_book.specs.cursor.Ends.{Fails}
use Rattle.read_book.specs.declared.cursor.Cursor.{Cursor}
use Rattle.read_book.specs.declared.cursor.Fault.{Fault}
use Rattle.read_book.specs.declared.entry.ContentsEntry.{ContentsEntry}

-- an entry that was read: its kind's byte, where its body ends, and where it ends itself
pub record Told (s : List ℕ) (p want width : ℕ) (kind end : ℕ) (c : Cursor) (m : Res (List ℕ) Entry) : Type 0 where
  pub value : Entry
  pub byte : kind ≡ get_or s p 0
  pub gives : m ≡ ok value (drop c.at s)
  pub kinded : get_or kinds kind absent ≡ just value.kind
  pub sized : end ≡ want + value.size
  pub fits : end ≤ length s
  pub past : c.at ≡ p + width
  pub within : c.at ≤ length s

abbrev pub FoundBy : List ℕ → ℕ → ℕ → ℕ → Result ContentsEntry Fault → Res (List ℕ) Entry → Type 0
FoundBy s p want width (Ok e) m = Told s p want width e.kind e.end e.next m
FoundBy s p want width (Err f) m = Fails s p f m

pub record Found (s : List ℕ) (p want width : ℕ) (r : Result ContentsEntry Fault) (m : Res (List ℕ) Entry) : Type 0 where
  pub told : FoundBy s p want width r m
