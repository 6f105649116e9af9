use native.Mathlib.Omega.{arith}
use mathlib.Core.Path.{refl}
use Rattle.definition.specs.Tree.{is_format, is_constant, is_byte_order, is_macro}
use Rattle.definition.specs.Read.{definition}
use Rattle.read_book.proofs.name_list.Bind.{made, walked}
use Rattle.read_book.proofs.body.Judge.{a_kind, no_such_kind}
use Rattle.read_book.proofs.body.definition.Goals as goal

pub returns-in-1 : goal.returns-in-1
returns-in-1 c = rw c.in-1.is (a_kind 1 is_format refl c.format.ensures)

pub returns-in-2 : goal.returns-in-2
returns-in-2 c = rw c.in-2.is (a_kind 2 is_constant refl c.constant.ensures)

pub returns-in-3 : goal.returns-in-3
unfolding definition
returns-in-3 c = rw c.in-3.is (a_kind 3 is_byte_order refl (made _ (walked c.text.ensures)))

pub returns-in-4 : goal.returns-in-4
returns-in-4 c = rw c.in-4.is (a_kind 4 is_macro refl c.macro_body.ensures)

pub returns-in_default : goal.returns-in_default
returns-in_default c = no_such_kind _ _ (λ e. omega arith) (λ e. omega arith) (λ e. omega arith) (λ e. omega arith)
