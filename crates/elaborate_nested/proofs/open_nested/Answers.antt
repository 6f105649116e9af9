use mathlib.Core.Path.{refl}
use Prim.Native.Nat.{ℕ, ◌≤◌}
use native.Mathlib.Omega.{arith}
use lib.ListN.{length, length-take, length-replicate}
use lib.Seq.{length-take-le}
use Rattle.std.proofs.lemmas.Result.{err_from_is_err_and}
use Rattle.open_book.proofs.begin.Beginning.{all_bytes}
use Rattle.elaborate_nested.proofs.Nesting.{areas_long, opens_code, opens_again, opens_last}
use Rattle.elaborate_nested.proofs.open_nested.Goals as goal

pub slice_bounds-expand_again-end : goal.slice_bounds-expand_again-end
slice_bounds-expand_again-end c = omega (arith, areas_long c.requires c.in_ok-len.ensures, c.open_book.auto.work)

pub slice_bounds-expand_again-end-2 : goal.slice_bounds-expand_again-end-2
slice_bounds-expand_again-end-2 c = simp length-take (omega (arith, areas_long c.requires c.in_ok-len.ensures, c.open_book.auto.work))

pub returns-in_err-len : goal.returns-in_err-len
returns-in_err-len c =
    let p = err_from_is_err_and c.from_residual.result c.from_residual.ensures.1 in
    rw (p.1, p.2) (opens_code c.requires c.in_err-len.ensures)

pub returns-in_err-last : goal.returns-in_err-last
returns-in_err-last c =
    let w : 32768 ≤ length c.open_book.new.work = omega (arith, areas_long c.requires c.in_ok-len.ensures, c.open_book.auto.work) in
    let p = err_from_is_err_and c.from_residual-in_err-last.result c.from_residual-in_err-last.ensures.1 in
    rw (p.1, p.2) (opens_again c.requires c.in_ok-len.ensures (all_bytes c.args.book.now (λ i. omega (arith, c.type_inv.book i))) c.open_book.auto.out
    (length-take-le 32768 c.open_book.new.work w) (length-replicate {0} {A = ℕ} 16384 0) c.in_err-last.ensures refl)

pub returns : goal.returns
returns c =
    let w : 32768 ≤ length c.open_book.new.work = omega (arith, areas_long c.requires c.in_ok-len.ensures, c.open_book.auto.work) in
    opens_last c.requires c.in_ok-len.ensures (all_bytes c.args.book.now (λ i. omega (arith, c.type_inv.book i))) c.open_book.auto.out
    (length-take-le 32768 c.open_book.new.work w) (length-replicate {0} {A = ℕ} 16384 0) c.in_ok-last.ensures refl
