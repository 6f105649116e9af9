use mathlib.Core.Path.{◌∙◌}
use Rattle.lift_tables.specs.tables.Parts.{rows_in_of}
use Rattle.lift_tables.proofs.tables.Parts.{rows_stored}
use Rattle.lift_tables.proofs.enter_lift.Rows.{row_put}
use Rattle.lift_tables.proofs.enter_lift.put_row.Goals as goal

pub returns : goal.returns
returns c =
    let p = c.requires in
    let a = rows_stored c.store_in.ensures in
    let b = rows_stored c.store_in-2.ensures in
    let d = rows_stored c.store_in-3.ensures in
    let e = rows_stored c.store_in-4.ensures in
    let f = rows_stored c.store_in-5.ensures in
    record {
      order = f.order ∙ e.order ∙ d.order ∙ b.order ∙ a.order;
      rows = row_put (rows_in_of c.args.sheet.now) c.args.i _ _ _ _ _ a.rows b.rows d.rows e.rows f.rows p.1 p.2 p.3 p.4 p.5;
      params = f.params ∙ e.params ∙ d.params ∙ b.params ∙ a.params;
      made = f.made ∙ e.made ∙ d.made ∙ b.made ∙ a.made;
    }
