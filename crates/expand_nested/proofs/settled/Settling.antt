-- The bodies of formats, with the macros in a table.
-- Assumes nothing.
use mathlib.Core.Path.{◌≡◌, ◌∙◌}
use mathlib.Core.List.{List, []}
use mathlib.Core.Bool.{Bool, true}
use Prim.Native.Nat.{ℕ}
use lib.ListN.{length, take}
use Rattle.definition.specs.Macros.{macros}
use Rattle.nested.specs.Nested.{settled}
use Rattle.layout.specs.items.At.{name_past_of}
use Rattle.walker.specs.declared.walk.Walk.{Walk}
use Rattle.walker.specs.walk.Steps.{walk}
use Rattle.walker.specs.calls.Walk.{combinator_at}
use Rattle.walker.specs.definitions.Params.{ParamsPast}
use Rattle.walker.proofs.bodies.Tested.{format_tested, definition_format, definition_other}
use Rattle.name_table.specs.forks.Leads.{Clear}
use Rattle.expand_macros.specs.declared.known_macros.Macros.{Macros}
use Rattle.expand_macros.specs.known_macros.Table.{Tabled}
use Rattle.expand_nested.specs.unknown.Calls.{AllUnknown}
use Rattle.expand_nested.specs.settled.Settles.{calm, FormatSettles, DefinitionSettles, BodiesSettle, Settles}
use Rattle.expand_nested.proofs.settled.Calls.{calm_by}

pub format_settles : {t : Macros} {book : List ℕ} {at params body : ℕ} → params ≡ name_past_of book at → ParamsPast book params body → (m₁ m₂ : List ℕ) (w : Walk)
    → w ≡ (combinator_at 64 book (walk body 0 64 true) m₁).0 → m₂ ≡ (combinator_at 64 book (walk body 0 64 true) m₁).1 → {row marks : List ℕ} → length m₁ ≡ length row → marks ≡ take w.n m₂ → {r : Bool}
    → AllUnknown t book marks r → FormatSettles t book at row r
format_settles {book = book} {at = at} {body = body} e p m₁ m₂ w hw hm l em v = record {
  says = λ ms k. format_tested at e p m₁ m₂ w hw hm l em (λ c z h g q. v.says ms k ∙ rw q (calm_by ms book c body z h));
}

module _ {t : Macros} {book : List ℕ} {kind at : ℕ} {row : List ℕ} where
  pub definition_settles : kind ≡ 1 → {r : Bool} → FormatSettles t book at row r → DefinitionSettles t book kind at row r
  definition_settles q v = record { says = λ ms k. definition_format q (v.says ms k) }

  pub other_settles : (kind ≡ 1 → ⊥) → DefinitionSettles t book kind at row true
  other_settles q = record { says = λ ms k. definition_other q }

pub book_settles : {t : Macros} {pl hs marks book : List ℕ} {r : Bool} → Tabled t.book.now pl hs t.places.now t.ways.now t.rows → length pl ≡ 512 → length hs ≡ 1280 → Clear hs → length marks ≡ 8192
    → BodiesSettle t book marks r → Settles t.book.now book r
unfolding settled calm
book_settles tb lp lh cl lm v = record { says = λ ms ds el im eb id. (v.says (macros ms []) (tb.says ms el im lp lh cl)).says ds eb id lm }
