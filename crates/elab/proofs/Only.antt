-- No second answer fits what the contracts say.
-- Assumes nothing.
use mathlib.Core.Path.{◌≡◌, sym, ◌∙◌}
use Rattle.what_comes_back.specs.declared.Report.{Report}
use Rattle.what_comes_back.specs.declared.Numbers.{Numbers}
use Rattle.elab.specs.Only.{OneElaborated, OneNested, OneTested, OneReport, OneNumbers}

pub one_elaborated : OneElaborated
one_elaborated book out work r q e f = e ∙ sym f

pub one_nested : OneNested
one_nested book out work r q e f = e ∙ sym f

pub one_tested : OneTested
one_tested book work r q e f = e ∙ sym f

pub one_report : OneReport
one_report a r q e f =
    let x : ◌≡◌ {A = Report} (record { code = r.code; length = r.length; definitions = r.definitions; lifted = r.lifted; at = r.at }) (record { code = q.code; length = q.length; definitions = q.definitions; lifted = q.lifted; at = q.at })
    = rw (e.0 ∙ sym f.0, e.1 ∙ sym f.1, e.2 ∙ sym f.2, e.3 ∙ sym f.3, e.4 ∙ sym f.4) in
    x

pub one_numbers : OneNumbers
one_numbers a r q e f = let x : ◌≡◌ {A = Numbers} (record { code = r.code; holds = r.holds; at = r.at }) (record { code = q.code; holds = q.holds; at = q.at }) = rw (e.0 ∙ sym f.0, e.1 ∙ sym f.1, e.2 ∙ sym f.2) in x
