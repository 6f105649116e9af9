-- Demand 3 about the bytes that `elaborate`, `elaborate_nested` and their exports write.
-- Assumes nothing.
use mathlib.Core.Path.{◌≡◌}
use lib.ListN.{length}
use Rattle.definition.specs.Answer.{Answer, answer}
use Rattle.demand3.proofs.Delivered.{accepted_is_delivered}
use Rattle.nested.proofs.Results.{accepted_is_delivered as nested-accepted}
use Rattle.nested.specs.Nested.{answer_nested}
use Rattle.what_comes_back.specs.declared.Report.{Report}
use Rattle.what_comes_back.specs.Elaborates.{reported}
use Rattle.elab.proofs.Numbers.{plain_numbers, nested_numbers}
use Rattle.elab.specs.Only.{Says}
use Rattle.elab.specs.Delivers.{ElaborateDelivers, NestedDelivers, as_answer, ExportDelivers, NestedExportDelivers}

pub elaborate_delivers : ElaborateDelivers
elaborate_delivers book out work bytes r after e f z = accepted_is_delivered book out (length work) bytes (reported r) after (plain_numbers book (length out) (length work) e) f z

pub nested_delivers : NestedDelivers
nested_delivers book out work bytes r after e f z = nested-accepted book out (length work) bytes (reported r) after (nested_numbers book (length out) (length work) e) f z

-- what an export hands over is the answer
answer_is : (r : Report) (a : Answer) → Says r a → as_answer r ≡ a
answer_is r a e = rw (e.0, e.1, e.2, e.3, e.4)

pub export_delivers : ExportDelivers
export_delivers book out work bytes r after e f z = accepted_is_delivered book out (length work) bytes (as_answer r) after (answer_is r (answer book (length out) (length work)) e) f z

pub nested_export_delivers : NestedExportDelivers
nested_export_delivers book out work bytes r after e f z = nested-accepted book out (length work) bytes (as_answer r) after (answer_is r (answer_nested book (length out) (length work)) e) f z
