use Rattle.read_book.proofs.characters.Characters.{c_lead, c_out, c_in}
use Rattle.read_book.proofs.characters.next.Goals as goal

pub returns-then-a-eq0 : goal.returns-then-a-eq0
returns-then-a-eq0 c = λ t. c_lead _ _ _ t _ _ c.if-a-eq0.true c.lead.ensures

pub returns-then-b-a : goal.returns-then-b-a
returns-then-b-a c = λ t. rw c.wants.ensures (c_out _ _ _ t _ c.if-a-eq0.false c.then-b-a.either)

pub returns : goal.returns
returns c = λ t. rw c.wants-2.ensures (c_in _ _ _ t _ c.if-a-eq0.false c.if-b-a.false c.if-a-b.false)
