-- Rows of items: a count, and as many of one kind.
use Rattle.std.specs.Prelude.{◌≡◌, List, ℕ, zero, suc, drop, Ok, Err}
use Rattle.definition.specs.Res.{◌>>=◌}
use Rattle.definition.specs.Read.{Reader, u16}
use Rattle.read_book.specs.cursor.Ends.{Step, Walked, Took, Ends}
use Rattle.read_book.specs.declared.cursor.Cursor.{Cursor}
use Rattle.read_book.specs.declared.cursor.Fault.{Fault}

module _ {A : Type 0} where
  -- "u16 count", then so many
  unfoldable pub counted : (ℕ → Reader A) → Reader A
  counted row s = do
    (n, s) ← u16 s
    row n s

  -- One item of a row, of which `row n` reads n. Whoever reads n more behind it has read n + 1 with it; where it is refused, so is the row
  abbrev pub LeadsBy : List ℕ → ℕ → Walked → (ℕ → Reader A) → Type 0
  LeadsBy s p (Ok c) row = (n : ℕ) (r : Walked) → Ends s c.at r (row n (drop c.at s)) → Ends s p r (row (suc n) (drop p s))
  LeadsBy s p (Err f) row = (n : ℕ) → Ends s p (Err f) (row (suc n) (drop p s))

pub record Leads {A : Type 0} (s : List ℕ) (p : ℕ) (r : Walked) (row : ℕ → Reader A) : Type 0 where
  pub told : LeadsBy s p r row

-- Items read one after the other, so many, of each of which `reads` says how: all of them, or up to the first that is refused
pub data Run (reads : Cursor → Walked → Type 0) : ℕ → Cursor → Walked → Type 0 where
  done : {c : Cursor} → Run reads zero c (Ok c)
  stop : {n : ℕ} {c : Cursor} {f : Fault} → reads c (Err f) → Run reads (suc n) c (Err f)
  more : {n : ℕ} {c d : Cursor} {r : Walked} → reads c (Ok d) → Run reads n d r → Run reads (suc n) c r

-- a count that was read, and so many items, or the count's refusal
abbrev pub CountsBy : (Cursor → Walked → Type 0) → Step → Walked → Type 0
CountsBy reads (Ok x) r = Run reads x.0 x.1 r
CountsBy reads (Err f) r = r ≡ Err f

pub record Counts (s : List ℕ) (p : ℕ) (reads : Cursor → Walked → Type 0) (r : Walked) : Type 0 where
  pub count : Step
  pub took : Took s p count (u16 (drop p s))
  pub told : CountsBy reads count r
