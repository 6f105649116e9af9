use mathlib.Core.Path.{◌∙◌}
use native.Mathlib.Omega.{arith}
use Rattle.expand_definitions.proofs.format.Formats.{len_most, has_params, ready, formatted, defined_format}
use Rattle.expand_definitions.proofs.format.expand_definition.Goals as goal

pub own_params-body-requires : goal.own_params-body-requires
own_params-body-requires c =
    let p = c.requires in
    (has_params p.0.tables.source c.name_past-list.ensures (p.2 (omega arith)), p.0.tables.source, p.1.binders_long)

pub expand_combinator-requires : goal.expand_combinator-requires
expand_combinator-requires c =
    let p = c.requires in (
      p.0,
      ready p.0.tables.source c.name_past-list.ensures c.own_params-body.ensures (c.from-b.ensures ∙ c.number.ensures) (p.2 (omega arith))
          (omega (arith, c.put_bytes-len.auto.dst, p.1.path_long)) (omega (arith, c.own_params-body.auto.binders, p.1.binders_long)) p.1.scratch,
      len_most c.put_bytes-len.ensures p.1.path_long,
      p.3,
    )

pub returns : goal.returns
returns c =
    let p = c.requires in
    defined_format (omega arith) (formatted p.0.tables.source c.name_past-list.ensures c.own_params-body.ensures (c.from-b.ensures ∙ c.number.ensures) (rw c.name_at.ensures at c.put_bytes-len.ensures) c.expand_combinator.ensures)
