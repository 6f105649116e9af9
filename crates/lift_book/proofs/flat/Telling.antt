-- The bodies of formats, one after the other.
-- Assumes nothing.
use mathlib.Core.Path.{◌≡◌, refl, ◌∙◌}
use mathlib.Core.List.{List}
use mathlib.Core.Bool.{Bool}
use Prim.Native.Nat.{ℕ}
use native.Mathlib.Omega.{arith}
use Rattle.definition.specs.Write.{w_definition, w_combinator}
use Rattle.layout.specs.items.At.{name_past_of}
use Rattle.layout.proofs.items.Here.{name_here}
use Rattle.walker.specs.definitions.Params.{ParamsPast}
use Rattle.walker.specs.bodies.Tested.{FormatTested, BodiesTested}
use Rattle.lift_book.specs.flat.Flat.{flat}
use Rattle.lift_book.specs.flat.Past.{flat_at}
use Rattle.lift_book.specs.flat.Told.{Told}
use Rattle.lift_book.proofs.flat.Past.{flat_here}

pub format_told : {s : List ℕ} {at params body : ℕ} → params ≡ name_past_of s at → ParamsPast s params body → {r : Bool} → r ≡ flat_at s body → FormatTested s at flat 8192 r
unfolding w_definition
format_told {s} {body = body} e p f = record {
  says = λ l k m ps c z h dp dc. f ∙ flat_here s (omega arith) c dc body z (p.says l ps (w_combinator c z) (rw e (name_here m h)) dp);
}

pub book_told : {s : List ℕ} {r : Bool} → BodiesTested s flat 8192 r → Told s r
book_told v = record { says = λ ds e b. v.says ds e b refl }
