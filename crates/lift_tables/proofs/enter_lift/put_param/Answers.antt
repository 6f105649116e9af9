use mathlib.Core.Path.{refl, ◌∙◌}
use native.Mathlib.Omega.{arith}
use Rattle.lift_tables.specs.tables.Parts.{params_in}
use Rattle.lift_tables.proofs.tables.Parts.{params_stored}
use Rattle.lift_tables.proofs.tables.Params.{param_put}
use Rattle.lift_tables.proofs.enter_lift.put_param.Goals as goal

pub returns : goal.returns
returns c =
    let a = params_stored c.store_in.ensures in
    let b = params_stored c.store_in-2.ensures in
    let d = params_stored c.store_in-3.ensures in
    let e = params_stored c.store_in-4.ensures in
    record {
      order = e.order ∙ d.order ∙ b.order ∙ a.order;
      rows = e.rows ∙ d.rows ∙ b.rows ∙ a.rows;
      params = param_put (params_in c.args.sheet.now) c.args.i _ _ _ _ a.params b.params d.params e.params refl (omega arith) (omega arith) (omega arith);
      made = e.made ∙ d.made ∙ b.made ∙ a.made;
    }
