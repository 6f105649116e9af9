use native.Mathlib.Omega.{arith}
use mathlib.Core.Path.{refl}
use Rattle.definition.specs.Tree.{no_field, no_case, no_inner}
use Rattle.definition.specs.Read.{name, items, fields, cases, inners, combinator, arg}
use Rattle.read_book.specs.combinator.Tags.{tag_of, case_kind_of}
use Rattle.read_book.proofs.name_list.Bind.{then, fails, made, walked, counts}
use Rattle.read_book.proofs.combinator.Table.{tabled, untabled, of_cases}
use Rattle.read_book.proofs.name_list.Rows.{a_row, an_inner}
use Rattle.read_book.proofs.combinator.Laws.{some_level, no_tag, deep, tag, inner_refused, no_flag, unchained, chains, leaf, no_kind, no_label, a_const, a_field, no_case_label, a_case}
use Rattle.read_book.proofs.combinator.+combinator.Goals as goal

pub array-returns-in_err-d : goal.array-returns-in_err-d
unfolding items
array-returns-in_err-d t c = fails _ c.in_err-d.ensures c.from_residual.ensures.1

pub array-returns : goal.array-returns
unfolding items
array-returns t c = then _ c.in_ok-d.ensures (λ a. made _ c.combinator.ensures)

pub case-returns-in_err-d : goal.case-returns-in_err-d
case-returns-in_err-d t c = no_case_label _ _ c.in_err-d.ensures c.from_residual.ensures.1

pub case-returns : goal.case-returns
case-returns t c = a_case _ _ c.in_ok-d.ensures c.combinator.ensures

pub choice-returns-in_err-d : goal.choice-returns-in_err-d
unfolding items case_kind_of
choice-returns-in_err-d t c = fails _ c.in_err-d.ensures c.from_residual.ensures.1

pub choice-returns-in_err-kind : goal.choice-returns-in_err-kind
unfolding items case_kind_of
choice-returns-in_err-kind t c = then _ c.in_ok-d.ensures (λ a. untabled of_cases _ c.in_err-kind.ensures c.from_residual-in_err-kind.ensures.1)

pub choice-returns : goal.choice-returns
unfolding items case_kind_of
choice-returns t c = then _ c.in_ok-d.ensures (λ a. tabled of_cases _ c.in_ok-kind.ensures (λ l h. counts _ _ _ (made _ c.cases.ensures)))

pub combinator-returns-in_err-d : goal.combinator-returns-in_err-d
combinator-returns-in_err-d t c = inner_refused _ c.in_err-d.ensures c.from_residual.ensures.1

pub combinator-returns-in_err-flag : goal.combinator-returns-in_err-flag
combinator-returns-in_err-flag t c = no_flag _ c.in_ok-d.ensures c.in_err-flag.ensures c.from_residual-in_err-flag.ensures.1

pub combinator-returns-then-flag-ne-MORE : goal.combinator-returns-then-flag-ne-MORE
combinator-returns-then-flag-ne-MORE t c = unchained _ c.in_ok-d.ensures c.in_ok-flag.ensures c.if-flag-ne-MORE.true

pub combinator-overflow_sub-levels : goal.combinator-overflow_sub-levels
combinator-overflow_sub-levels t c = omega (arith, some_level _ c.in_ok-d.ensures)

pub combinator-combinator-requires : goal.combinator-combinator-requires
combinator-combinator-requires t c = omega (arith, some_level _ c.in_ok-d.ensures)

pub combinator-returns : goal.combinator-returns
combinator-returns t c = chains _ c.in_ok-d.ensures c.in_ok-flag.ensures c.if-flag-ne-MORE.false c.combinator.ensures

pub field-returns-in_err-kind : goal.field-returns-in_err-kind
field-returns-in_err-kind t c = no_kind _ c.in_err-kind.ensures c.from_residual.ensures.1

pub field-returns-in_err-e : goal.field-returns-in_err-e
unfolding name
field-returns-in_err-e t c = no_label _ c.in_ok-kind.ensures (walked c.in_err-e.ensures) c.from_residual-in_err-e.ensures.1

pub field-returns-then-kind-eq-CONST : goal.field-returns-then-kind-eq-CONST
unfolding name
field-returns-then-kind-eq-CONST t c = a_const _ c.in_ok-kind.ensures (walked c.in_ok-e.ensures) c.if-kind-eq-CONST.true (walked c.text.ensures)

pub field-returns : goal.field-returns
unfolding name
field-returns t c = a_field _ c.in_ok-kind.ensures (walked c.in_ok-e.ensures) c.if-kind-eq-CONST.false c.combinator.ensures

pub fields-returns : goal.fields-returns
unfolding items fields
fields-returns t c = counts (fields (combinator c.args.levels)) _ _ (made _ (a_row (fields (combinator c.args.levels)) _ no_field (λ l. refl) (λ d r h. h.1) c.row.ensures))

pub inner-returns-in_err-tag : goal.inner-returns-in_err-tag
inner-returns-in_err-tag t c = no_tag _ c.in_err-tag.ensures c.from_residual.ensures.1

pub inner-returns-then-levels-eq0 : goal.inner-returns-then-levels-eq0
inner-returns-then-levels-eq0 t c = deep _ c.in_ok-tag.ensures c.if-levels-eq0.true

pub inner-returns : goal.inner-returns
inner-returns t c = tag _ c.in_ok-tag.ensures c.if-levels-eq0.false c.items.ensures

pub items-returns-in-4 : goal.items-returns-in-4
unfolding tag_of items
items-returns-in-4 t c = rw c.in-4.is c.fields.ensures

pub items-returns-in-5 : goal.items-returns-in-5
unfolding tag_of items
items-returns-in-5 t c = rw c.in-5.is c.wrap.ensures

pub items-returns-in-7 : goal.items-returns-in-7
unfolding tag_of items
items-returns-in-7 t c = rw c.in-7.is c.choice.ensures

pub items-returns-in-8 : goal.items-returns-in-8
unfolding tag_of items
items-returns-in-8 t c = rw c.in-8.is (made _ c.combinator.ensures)

pub items-returns-in-9 : goal.items-returns-in-9
unfolding tag_of items
items-returns-in-9 t c = rw c.in-9.is c.array.ensures

pub items-returns-in-10 : goal.items-returns-in-10
unfolding tag_of items
items-returns-in-10 t c = rw c.in-10.is (made _ c.length_past.ensures)

pub items-returns-in-12 : goal.items-returns-in-12
unfolding tag_of items
items-returns-in-12 t c = rw c.in-12.is (made _ c.combinator-in-12.ensures)

pub items-returns-in-15 : goal.items-returns-in-15
unfolding tag_of items
items-returns-in-15 t c = rw c.in-15.is (c.invocation.ensures (combinator c.args.levels) (arg c.args.levels))

pub items-returns-in-16 : goal.items-returns-in-16
unfolding tag_of items
items-returns-in-16 t c = rw c.in-16.is c.macro_invocation.ensures

pub items-returns-in_default : goal.items-returns-in_default
items-returns-in_default t c = leaf _ _ (λ e. omega arith) (λ e. omega arith) (λ e. omega arith) (λ e. omega arith) (λ e. omega arith) (λ e. omega arith) (λ e. omega arith) (λ e. omega arith) (λ e. omega arith) (walked c.text.ensures)

pub macro_invocation-returns-in_err-d : goal.macro_invocation-returns-in_err-d
unfolding items name
macro_invocation-returns-in_err-d t c = fails _ (walked c.in_err-d.ensures) c.from_residual.ensures.1

pub macro_invocation-returns : goal.macro_invocation-returns
unfolding items name
macro_invocation-returns t c = then _ (walked c.in_ok-d.ensures) (λ a. counts _ _ _ (made _ c.arguments.ensures))

pub wrap-returns-in_err-d : goal.wrap-returns-in_err-d
unfolding items
wrap-returns-in_err-d t c = fails _ (walked c.in_err-d.ensures) c.from_residual.ensures.1

pub wrap-returns-in_err-e : goal.wrap-returns-in_err-e
unfolding items
wrap-returns-in_err-e t c = then _ (walked c.in_ok-d.ensures) (λ a. fails _ c.in_err-e.ensures c.from_residual-in_err-e.ensures.1)

pub wrap-returns : goal.wrap-returns
unfolding items
wrap-returns t c = then _ (walked c.in_ok-d.ensures) (λ a. then _ c.in_ok-e.ensures (λ a. made _ (walked c.text-2.ensures)))

pub cases-returns : goal.cases-returns
unfolding cases
cases-returns t c = a_row (cases (combinator c.args.levels) (case_kind_of c.args.kind)) _ no_case (λ l. refl) (λ d r h. h.1) c.row.ensures

pub arguments-returns : goal.arguments-returns
unfolding inners
arguments-returns t c = a_row (inners (arg c.args.levels)) _ no_inner (λ l. refl) (λ d r h. an_inner _ h.1) c.row.ensures
