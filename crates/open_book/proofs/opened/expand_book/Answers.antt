use mathlib.Core.Path.{refl}
use native.Mathlib.Omega.{arith}
use lib.Seq.{length-take-le}
use lib.ListN.{length-take}
use Rattle.std.proofs.lemmas.Result.{err_from_is_err_and}
use Rattle.open_book.proofs.begin.Beginning.{all_bytes}
use Rattle.open_book.proofs.opened.Opening.{opens_6, opens_book}
use Rattle.open_book.proofs.opened.expand_book.Goals as goal

pub slice_bounds-expand_macros-end-2 : goal.slice_bounds-expand_macros-end-2
slice_bounds-expand_macros-end-2 c = simp length-take (omega (arith, c.requires.wide))

pub returns-in_err-expand_macros : goal.returns-in_err-expand_macros
returns-in_err-expand_macros c =
    let e = err_from_is_err_and c.from_residual.result c.from_residual.ensures.1 in
    rw (e.1, e.2) (opens_6 _ _ _ _ c.requires (all_bytes c.args.book.now (λ i. omega (arith, c.type_inv.book i))) (length-take-le 32768 c.args.work.now (omega (arith, c.requires.wide))) refl c.in_err-expand_macros.ensures refl)

pub returns : goal.returns
returns c = opens_book _ _ _ _ c.requires (all_bytes c.args.book.now (λ i. omega (arith, c.type_inv.book i))) (length-take-le 32768 c.args.work.now (omega (arith, c.requires.wide))) refl c.in_ok-expand_macros.ensures _ refl
