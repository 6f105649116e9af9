-- The call at a place, and the calls that are marked.
-- Assumes nothing.
use mathlib.Core.Path.{◌≡◌, refl, sym, ap, ◌∙◌}
use mathlib.Core.List.{List, ◌∷◌}
use mathlib.Core.Bool.{Bool, true, false, not}
use Prim.Native.Nat.{ℕ, ◌<◌}
use lib.ListN.{length}
use borrow.Author.Tests.{eq-eqb, ne_eqb}
use Rattle.definition.specs.Tree.{Name}
use Rattle.definition.specs.Macros.{Macro}
use Rattle.nested.specs.Nested.{is_macro}
use Rattle.layout.specs.items.At.{byte_at, past_at}
use Rattle.layout.specs.lookup.Name.{name_at}
use Rattle.walker.specs.pieces.Marked.{every_place}
use Rattle.walker.proofs.bodies.Places.{every_next, every_stop, every_end}
use Rattle.std.specs.Prelude.{Option, is_some}
use Rattle.expand_macros.specs.declared.known_macros.Macros.{Macros}
use Rattle.expand_macros.specs.known_macros.Table.{RowsOf, FindsMacro}
use Rattle.expand_nested.specs.unknown.Calls.{unknown_at, UnknownAt, AllUnknown}

-- the call at a place
unknown_is : (book : List ℕ) (at : ℕ) {tag : ℕ} → tag ≡ byte_at book at → tag ≡ 16 → {a : ℕ} → a ≡ past_at book at 1 → {name : Name} → name ≡ name_at book a → (ms : List Macro)
    → unknown_at ms book at ≡ not (is_macro ms name)
unfolding unknown_at
unknown_is book at et h ea en ms = rw (eq-eqb (byte_at book at) 16 (sym et ∙ h), en, ea)

not_not : (b : Bool) → not (not b) ≡ b
not_not true = refl
not_not false = refl

module _ {t : Macros} {book : List ℕ} {at tag : ℕ} (et : tag ≡ byte_at book at) where
  pub other_unknown : (tag ≡ 16 → ⊥) → UnknownAt t book at true
  unfolding unknown_at
  other_unknown h = record { says = λ ms r. rw (ne_eqb (byte_at book at) 16 (λ e. h (et ∙ e))) }

  pub macro_tested : tag ≡ 16 → {a : ℕ} → a ≡ past_at book at 1 → {name : Name} → name ≡ name_at book a → {r : Option ℕ} → FindsMacro name t r → {b : Bool} → is_some r ≡ not b → UnknownAt t book at b
  macro_tested h ea en f {b} e = record { says = λ ms k. sym (not_not b) ∙ ap not (sym e ∙ f.known ms k) ∙ sym (unknown_is book at et h ea en ms) }

-- the marked calls, but for those whose marks are left
pub record Marked (t : Macros) (book marks left : List ℕ) : Type 0 where
  pub says : (ms : List Macro) → RowsOf t ms → every_place (unknown_at ms book) marks ≡ every_place (unknown_at ms book) left

module _ {t : Macros} {book marks : List ℕ} where
  pub marked_all : Marked t book marks marks
  marked_all = record { says = λ ms k. refl }

  module _ {left : List ℕ} (v : Marked t book marks left) where
    pub marked_end : length left < 2 → AllUnknown t book marks true
    marked_end h = record { says = λ ms k. sym (v.says ms k ∙ every_end (unknown_at ms book) left h) }

    module _ {a b : ℕ} {behind : List ℕ} (e : left ≡ a ∷ b ∷ behind) {r : Bool} (u : UnknownAt t book a r) where
      pub marked_stop : r ≡ false → AllUnknown t book marks false
      marked_stop q = record { says = λ ms k. sym (v.says ms k ∙ every_stop (unknown_at ms book) e (u.says ms k) q) }

      pub marked_next : r ≡ true → Marked t book marks behind
      marked_next q = record { says = λ ms k. v.says ms k ∙ every_next (unknown_at ms book) e (u.says ms k) q }
