use Rattle.std.proofs.lemmas.Result.{err_from_is_err_and}
use Rattle.expand_nested.proofs.passes.Repeating.{back_grown, back_book}
use Rattle.expand_nested.proofs.passes.pass_back.Goals as goal

pub returns-in_err-made : goal.returns-in_err-made
returns-in_err-made c =
    let e = err_from_is_err_and c.from_residual.result c.from_residual.ensures.1 in
    rw (e.1, e.2) (back_grown c.first.ensures c.in_err-made.ensures)

pub returns : goal.returns
returns c = back_book c.first.ensures c.put_part.ensures c.in_ok-made.ensures
