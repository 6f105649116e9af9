-- Definitions as a book's contents list them, from the first to the last.
-- Assumes nothing.
use mathlib.Core.Path.{◌≡◌, refl, ◌∙◌}
use mathlib.Core.List.{List, [], ◌∷◌, ◌++◌, map}
use Prim.Native.Nat.{ℕ, ◌+◌, ◌*◌, ◌/◌, ◌%◌, ◌≤◌, ◌<◌}
use native.Mathlib.Omega.{arith}
use lib.ListN.{length, length-append, length-map}
use Rattle.definition.specs.Tree.{Definition, format, constant, byte_order, macro}
use Rattle.definition.specs.Write.{w_u16, w_all, w_definition, kind_of, kind_byte, size_of, w_entries, w_parts, entry_of, w_book}
use Rattle.definition.specs.Size.{levels_book}
use Rattle.laws.specs.Book.{IsBook}
use Rattle.laws.proofs.Splits.{s_definition}
use Rattle.layout.specs.items.At.{byte_at, past_at, number_at}
use Rattle.layout.specs.items.Here.{Here}
use Rattle.layout.proofs.items.Here.{here_length, past_here, byte_here, number_here, number_past}
use Rattle.walker.specs.declared.definitions.Definitions.{Definitions}
use Rattle.walker.specs.declared.definitions.Entries.{Entries}
use Rattle.walker.specs.definitions.Listed.{Listed, all_of, next_of, Left}

deep_head : (d : Definition) (ds : List Definition) → levels_book (d ∷ ds) ≤ 64 → levels_book (d ∷ []) ≤ 64
unfolding levels_book
deep_head (format n ps c) ds h = omega arith
deep_head (constant n x) ds h = omega arith
deep_head (byte_order x) ds h = omega arith
deep_head (macro n ps c) ds h = omega arith

deep_tail : (d : Definition) (ds : List Definition) → levels_book (d ∷ ds) ≤ 64 → levels_book ds ≤ 64
unfolding levels_book
deep_tail (format n ps c) ds h = omega arith
deep_tail (constant n x) ds h = h
deep_tail (byte_order x) ds h = h
deep_tail (macro n ps c) ds h = omega arith

-- a place within what stands there
pub past_is : {s : List ℕ} {p : ℕ} (b : List ℕ) (z : List ℕ) → Here s p (b ++ z) → past_at s p (length b) ≡ p + length b
unfolding past_at
past_is b z h = omega (arith, simp length-append at (here_length h))

module _ {s : List ℕ} {entry at : ℕ} {d : Definition} {ds : List Definition} (l : Listed s entry at (d ∷ ds)) where
  pub listed_kind : byte_at s entry ≡ kind_byte (kind_of d)
  unfolding w_entries entry_of
  listed_kind = byte_here l.entries

  pub listed_size : number_at s (past_at s entry 4) ≡ size_of d
  unfolding w_entries entry_of w_u16
  listed_size = number_here (size_of d) (w_entries (at + size_of d) (map entry_of ds) l.behind) (past_here (kind_byte (kind_of d) ∷ 0 ∷ at % 256 ∷ at / 256 ∷ []) l.entries)

  pub listed_body : Here s at (w_definition d (w_all w_definition ds []))
  unfolding w_all
  listed_body = l.bodies

  pub listed_deep : levels_book (d ∷ []) ≤ 64
  listed_deep = deep_head d ds l.deep

  apart : Here s at (w_definition d [] ++ w_all w_definition ds [])
  apart = rw (s_definition d [] (w_all w_definition ds [])) at listed_body

  -- where it ends
  pub listed_past : past_at s at (size_of d) ≡ at + size_of d
  unfolding size_of
  listed_past = past_is (w_definition d []) (w_all w_definition ds []) apart

  pub listed_next : Listed s (past_at s entry 6) (past_at s at (size_of d)) ds
  unfolding w_entries entry_of w_u16 size_of
  listed_next = record {
    behind = l.behind;
    entries = rw listed_past (past_here (kind_byte (kind_of d) ∷ 0 ∷ at % 256 ∷ at / 256 ∷ size_of d % 256 ∷ size_of d / 256 ∷ []) l.entries);
    bodies = past_here (w_definition d []) apart;
    deep = deep_tail d ds l.deep;
  }

entries_long : (at : ℕ) (ds : List Definition) (r : List ℕ) → length (w_entries at (map entry_of ds) r) ≡ 6 * length ds + length r
unfolding w_entries entry_of w_u16
entries_long at [] r = omega arith
entries_long at (d ∷ ds) r = omega (arith, entries_long (at + size_of d) ds r)

-- the entries, apart from what stands behind them
pub entries_apart : (at : ℕ) (ds : List Definition) (r : List ℕ) → w_entries at (map entry_of ds) r ≡ w_entries at (map entry_of ds) [] ++ r
unfolding w_entries entry_of w_u16
entries_apart at [] r = refl
entries_apart at (d ∷ ds) r = rw (entries_apart (at + size_of d) ds r)

pub entries_size : (at : ℕ) (ds : List Definition) → length (w_entries at (map entry_of ds) []) ≡ 6 * length ds
entries_size at ds = omega (arith, entries_long at ds [])

-- a book from its first definition on
pub book_listed : (s : List ℕ) (ds : List Definition) → s ≡ w_book ds → IsBook ds → (number_at s 0 ≡ length ds) × Listed s (past_at s 0 2) (past_at s 2 (6 * length ds)) ds
unfolding w_book w_parts
book_listed s ds e b =
    let es = map entry_of ds in
    let n : length es ≡ length ds = length-map ds entry_of in
    let all : List ℕ = w_all w_definition ds [] in
    let at : ℕ = 2 + 6 * length es in
    let h₀ : Here s 0 (w_u16 (length es) (w_entries at es all)) = record { is = e; reach = omega arith } in
    let two : past_at s 0 2 ≡ 0 + 2 = past_is {p = 0} (length es % 256 ∷ length es / 256 ∷ []) (w_entries at es all) h₀ in
    let h₂ : Here s 2 (w_entries at es all) = rw two at (number_past (length es) h₀) in
    let h₃ : Here s 2 (w_entries at es [] ++ all) = rw (entries_apart at ds all) at h₂ in
    let l : length (w_entries at es []) ≡ 6 * length ds = entries_size at ds in
    let p : past_at s 2 (6 * length ds) ≡ 2 + 6 * length ds = rw (← l) (past_is {p = 2} (w_entries at es []) all h₃) in (
      number_here (length es) (w_entries at es all) h₀ ∙ n,
      record {
        behind = all;
        entries = rw (two, p, ← n) h₂;
        bodies = rw (← l) (past_here (w_entries at es []) h₃);
        deep = b.deep;
      },
    )

-- a book's definitions, all and one after the other
pub all_left : {s : List ℕ} {d : Definitions} → d ≡ all_of s → (ds : List Definition) → s ≡ w_book ds → IsBook ds → Left s d ds
unfolding all_of
all_left {s} e ds h b = let w = book_listed s ds h b in rw e (record { listed = rw w.0 w.1; count = w.0 })

-- a `for` over a book's definitions begins with all of them
pub begun : {s : List ℕ} {i j : Entries} → i ≡ j → (j.book.now ≡ s) × (j.ahead ≡ all_of s) → (i.book.now ≡ s) × (i.ahead ≡ all_of s)
begun e h = rw e h

module _ {s : List ℕ} {d : Definitions} where
  pub next_left : {e : Definitions} → e ≡ next_of s d → {x : Definition} {ds : List Definition} → Left s d (x ∷ ds) → Left s e ds
  unfolding next_of
  next_left h l = rw h (record { listed = rw (listed_size l.listed) (listed_next l.listed); count = omega (arith, l.count) })

  pub no_more : d.left ≤ 0 → {x : Definition} {ds : List Definition} → Left s d (x ∷ ds) → ⊥
  no_more h l = omega (arith, l.count)

  pub some_more : 0 < d.left → Left s d [] → ⊥
  some_more h l = omega (arith, l.count)
