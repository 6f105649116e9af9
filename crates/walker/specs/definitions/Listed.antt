-- The definitions of a book as its contents list them.
use Rattle.std.specs.Prelude.{◌≡◌, List, [], map, ℕ, ◌-◌, ◌*◌, ◌≤◌, ◌<◌, length, Option, MatchOption}
use Rattle.definition.specs.Tree.{Definition}
use Rattle.definition.specs.Write.{w_all, w_definition, w_entries, entry_of}
use Rattle.definition.specs.Size.{levels_book}
use Rattle.layout.specs.items.At.{byte_at, past_at, number_at}
use Rattle.layout.specs.items.Here.{Here}
use Rattle.walker.specs.declared.definitions.Definitions.{Definitions}
use Rattle.walker.specs.declared.definitions.Entries.{Entries}
use Rattle.walker.specs.declared.definitions.Entry.{Entry}

-- "Contents first: u16 count n .. then n entries of 6 bytes: kind, a zero byte, u16 offset, u16 length. Then the bodies in the same order, with no gap"
unfoldable pub all_of : List ℕ → Definitions
all_of s = record { left = number_at s 0; entry = past_at s 0 2; at = past_at s 2 (6 * number_at s 0) }

unfoldable pub next_of : List ℕ → Definitions → Definitions
next_of s d = record { left = d.left - 1; entry = past_at s d.entry 6; at = past_at s d.at (number_at s (past_at s d.entry 4)) }

-- the definitions ds are listed from a place of the contents on, and their bodies stand from another on
pub record Listed (s : List ℕ) (entry at : ℕ) (ds : List Definition) : Type 0 where
  pub behind : List ℕ
  pub entries : Here s entry (w_entries at (map entry_of ds) behind)
  pub bodies : Here s at (w_all w_definition ds [])
  pub deep : levels_book ds ≤ 64

-- definitions that are left, by their count and places
pub record Left (s : List ℕ) (d : Definitions) (ds : List Definition) : Type 0 where
  pub listed : Listed s d.entry d.at ds
  pub count : d.left ≡ length ds

-- the first of the definitions d that are left of a book is told as x, and e are the others
pub record First (s : List ℕ) (d : Definitions) (x : Entry) (e : Definitions) : Type 0 where
  pub some : 0 < d.left
  pub kind : x.kind ≡ byte_at s d.entry
  pub at : x.at ≡ d.at
  pub size : x.size ≡ number_at s (past_at s d.entry 4)
  pub others : e ≡ next_of s d

-- a step over a book's definitions: none is left, or the first of these comes
abbrev pub NextEntry : Entries → Option Entry → Entries → Type 0
NextEntry d r e = (e.book.now ≡ d.book.now) × MatchOption r (d.ahead.left ≡ 0) (λ x. First d.book.now d.ahead x e.ahead)
