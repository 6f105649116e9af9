use native.Mathlib.Omega.{arith}
use Rattle.std.proofs.Common.{rules}
use Rattle.open_book.proofs.begin.Beginning.{all_bytes, begins_1, begins_2, begins_bad, verdict_inside, begins_sound, begins_plain}
use Rattle.open_book.proofs.begin.begin.Goals as goal

pub returns-then-work-lt65536 : goal.returns-then-work-lt65536
returns-then-work-lt65536 c = begins_1 c.args.book.now c.args.work (omega arith) (search rules)

pub returns-then-book-gt16384 : goal.returns-then-book-gt16384
returns-then-book-gt16384 c = begins_2 c.args.book.now c.args.work (omega arith) (omega arith) (search rules)

pub overflow_cast-result : goal.overflow_cast-result
overflow_cast-result c = omega (arith, verdict_inside c.args.book.now c.args.work (omega arith) (omega arith) c.read.ensures c.in-Err.is)

pub returns-in-Err : goal.returns-in-Err
returns-in-Err c = begins_bad c.args.book.now c.args.work (omega arith) (omega arith) c.read.ensures c.in-Err.is

pub returns-then-has_no_macros : goal.returns-then-has_no_macros
returns-then-has_no_macros c = begins_plain c.args.book.now c.args.work (omega arith) (omega arith) (begins_sound c.args.book.now c.args.work (omega arith) (omega arith) c.read.ensures c.in_default.is (all_bytes c.args.book.now (λ i. omega (arith, c.type_inv.book i)))) c.has_no_macros.ensures c.if-has_no_macros.true

pub returns : goal.returns
returns c = begins_sound c.args.book.now c.args.work (omega arith) (omega arith) c.read.ensures c.in_default.is (all_bytes c.args.book.now (λ i. omega (arith, c.type_inv.book i)))
