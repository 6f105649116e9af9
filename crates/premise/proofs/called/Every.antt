-- The test of a call, and of every call that is marked.
-- Assumes nothing.
use mathlib.Core.Path.{◌≡◌, sym, ◌∙◌}
use mathlib.Core.List.{List, []}
use mathlib.Core.Bool.{true}
use Prim.Native.Nat.{ℕ}
use borrow.Author.Tests.{eq-eqb, ne_eqb}
use Rattle.std.specs.Prelude.{Option, is_some}
use Rattle.definition.specs.Tree.{Name, Inners, invocation, macro_invocation}
use Rattle.definition.specs.Names.{elem}
use Rattle.definition.specs.Write.{w_name, w_list, w_inner}
use Rattle.layout.specs.items.At.{byte_at, past_at}
use Rattle.layout.specs.items.Here.{Here}
use Rattle.layout.proofs.items.Here.{byte_here, next_here}
use Rattle.layout.specs.lookup.Name.{name_at}
use Rattle.layout.proofs.lookup.Names.{stands}
use Rattle.name_table.specs.taken.Taken.{both}
use Rattle.name_table.specs.find.Found.{Found}
use Rattle.name_table.proofs.find.Rows.{found_some}
use Rattle.name_table.specs.kinds.Rows.{row_names}
use Rattle.premise.specs.called.Known.{known_at}

-- a call
module _ (s places : List ℕ) (n at tag : ℕ) (et : tag ≡ byte_at s at) where
  pub other_known : (tag ≡ 15 → ⊥) → true ≡ known_at s places n at
  unfolding known_at
  other_known h = rw (ne_eqb (byte_at s at) 15 (λ e. h (et ∙ e)))

  module _ (h : tag ≡ 15) (a : ℕ) (ea : a ≡ past_at s at 1) (name : Name) (en : name ≡ name_at s a) {r : Option ℕ} (f : Found name (both s []) places n r) where
    is_elem : known_at s places n at ≡ elem name (row_names s places n)
    unfolding known_at
    is_elem = rw (eq-eqb (byte_at s at) 15 (sym et ∙ h), en, ea)

    pub found_known : is_some r ≡ known_at s places n at
    found_known = sym (is_elem ∙ found_some name (both s []) places r f)

-- what the test says of the trees
module _ (s places : List ℕ) (n : ℕ) where
  pub call_known : (a : ℕ) (m : Name) (xs : List Name) (z : List ℕ) → Here s a (w_inner (invocation m xs) z) → known_at s places n a ≡ elem m (row_names s places n)
  unfolding known_at w_inner
  call_known a m xs z h = rw (byte_here h, stands s (past_at s a 1) m (w_list w_name xs z) (next_here h).is)

  pub macro_known : (a : ℕ) (m : Name) (xs : Inners) (z : List ℕ) → Here s a (w_inner (macro_invocation m xs) z) → known_at s places n a ≡ true
  unfolding known_at w_inner
  macro_known a m xs z h = rw (byte_here h)
