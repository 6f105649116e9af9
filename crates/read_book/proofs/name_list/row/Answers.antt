use Rattle.read_book.proofs.name_list.Rows.{run_begins, run_goes, run_stops, run_ends}
use Rattle.read_book.proofs.name_list.row.Goals as goal

pub loop-init : goal.loop-init
loop-init g c = run_begins _

pub returns-in_err-here : goal.returns-in_err-here
returns-in_err-here g c = record { count = _; took = c.in_ok-n.ensures; told = run_stops _ c.loop.invariant c.loop-test.true c.in_err-here.ensures c.from_residual-in_err-here.ensures.1 }

pub loop-preserved : goal.loop-preserved
loop-preserved g c = run_goes _ c.loop.invariant c.loop-test.true c.in_ok-here.ensures

pub returns : goal.returns
returns g c = record { count = _; took = c.in_ok-n.ensures; told = run_ends _ c.loop.invariant c.loop-test.false }
