use mathlib.Core.Path.{refl, sym, ◌∙◌}
use native.Mathlib.Numerals.{add-one}
use lib.ListN.{drop_of_length-le}
use lib.Seq.{drop-cons}
use Rattle.definition.specs.Utf8.{well_formed}
use Rattle.read_book.specs.characters.Ranges.{ranges_by}
use Rattle.read_book.proofs.characters.Characters.{c_end}
use Rattle.read_book.proofs.utf8.utf8.Goals as goal

pub loop-b-init : goal.loop-b-init
unfolding ranges_by
loop-b-init c = refl

pub loop-b-preserved : goal.loop-b-preserved
loop-b-preserved c = c.loop-b.invariant ∙ rw (add-one c.loop-b.b-index, drop-cons _ c.loop-b.b-index 0 c.loop-b-test.true) (c.next-state.ensures _)

pub returns : goal.returns
unfolding well_formed
returns c = sym (c.loop-b.invariant ∙ rw (drop_of_length-le _ c.loop-b-test.false) (c_end _ _))
