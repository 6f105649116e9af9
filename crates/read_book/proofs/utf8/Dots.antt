-- Dots, one byte at a time.
use mathlib.Core.Path.{◌≡◌, sym}
use mathlib.Core.List.{List}
use mathlib.Core.Bool.{Bool, true, false}
use Prim.Native.Nat.{ℕ, ◌+◌, ◌≤◌, ◌<◌}
use native.Mathlib.Numerals.{add-one}
use borrow.Author.Tests.{eq-eqb, ne_eqb}
use lib.ListN.{length, get_or, drop, drop_of_length-le}
use lib.Seq.{drop-cons}
use Rattle.definition.specs.Utf8.{well_formed}
use Rattle.definition.specs.Read.{no_dot_of, dot_allowed, undotted}
use Rattle.read_book.specs.utf8.Tested.{tested}

module _ (t : List ℕ) (i : ℕ) where
  pub d_end : length t ≤ i → no_dot_of (drop i t) ≡ true
  unfolding no_dot_of
  d_end h = rw (drop_of_length-le t h)

  pub d_dot : i < length t → get_or t i 0 ≡ 46 → no_dot_of (drop i t) ≡ false
  unfolding no_dot_of
  d_dot h e = rw (drop-cons t i 0 h, eq-eqb _ 46 e)

  pub d_next : i < length t → (get_or t i 0 ≡ 46 → ⊥) → no_dot_of (drop i t) ≡ no_dot_of (drop (i + 1) t)
  unfolding no_dot_of
  d_next h e = rw (add-one i, drop-cons t i 0 h, ne_eqb _ 46 e)

-- what is no UTF-8 is no name of either kind
pub not_name : (dots : Bool) (x : List ℕ) → well_formed x ≡ false → false ≡ tested dots x
unfolding dot_allowed undotted
not_name true x e = sym e
not_name false x e = rw e
