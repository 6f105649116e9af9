use mathlib.Core.Path.{◌∙◌}
use Prim.Native.Nat.{ℕ}
use native.Mathlib.Omega.{arith}
use lib.ListN.{length-replicate, get_or-replicate}
use Rattle.name_table.proofs.forks.Rows.{clear_new}
use Rattle.expand_definitions.proofs.naming_pass.Start.{good, expands}
use Rattle.expand_definitions.proofs.naming_pass.expand_definitions.Goals as goal

pub expand_in_order-requires : goal.expand_in_order-requires
expand_in_order-requires c =
    let p = c.requires in (
      good p.0 c.take_kinds-n.ensures (clear_new 1280 (omega arith)) (let l = length-replicate {0} {A = ℕ} 512 0 in omega arith) (let l = length-replicate {0} {A = ℕ} 1280 0 in omega arith) (c.from.ensures ∙ c.number.ensures) (let l = length-replicate {0} {A = ℕ} 512 0 in omega (arith, c.take_kinds-n.auto.places)) (let l = length-replicate {0} {A = ℕ} 1280 0 in omega (arith, c.take_kinds-n.auto.ways)) (let l = length-replicate {0} {A = ℕ} 512 0 in omega arith) (λ i h. get_or-replicate 512 i 0 0 h),
      record { scratch = p.1; path_long = length-replicate {0} {A = ℕ} 255 0; binders_long = p.2 },
      p.0.book,
      p.3,
    )

pub returns : goal.returns
returns c = expands c.requires.0 c.take_kinds-n.ensures (clear_new 1280 (omega arith)) (let l = length-replicate {0} {A = ℕ} 512 0 in omega arith) (let l = length-replicate {0} {A = ℕ} 1280 0 in omega arith) (c.from.ensures ∙ c.number.ensures) c.expand_in_order.ensures
