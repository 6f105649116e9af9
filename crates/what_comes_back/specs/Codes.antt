-- The definition's codes as the code has them, and their numbers.
use Rattle.std.specs.Prelude.{ℕ}
use Rattle.definition.specs.Code.{Code, work_short, book_long, not_a_book, bad_name, too_deep_of, macro_growth, leftover_macro, no_binder, name_long, result_long, output_short, macro_left}
use Rattle.what_comes_back.specs.declared.Code.{Code as CodeOf}
use Rattle.what_comes_back.specs.declared.Code.TheVariants.{WorkShort, BookLong, NotABook, BadName, TooDeep, MacroGrowth, LeftoverMacro, NoBinder, NameLong, ResultLong, OutputShort, MacroLeft}

abbrev pub code_of : Code → CodeOf
code_of work_short = WorkShort
code_of book_long = BookLong
code_of not_a_book = NotABook
code_of bad_name = BadName
code_of too_deep_of = TooDeep
code_of macro_growth = MacroGrowth
code_of leftover_macro = LeftoverMacro
code_of no_binder = NoBinder
code_of name_long = NameLong
code_of result_long = ResultLong
code_of output_short = OutputShort
code_of macro_left = MacroLeft

-- document 01's table, and document 02's codes behind it
abbrev pub number_of : CodeOf → ℕ
number_of WorkShort = 1
number_of BookLong = 2
number_of NotABook = 3
number_of BadName = 4
number_of TooDeep = 5
number_of MacroGrowth = 6
number_of LeftoverMacro = 7
number_of NoBinder = 8
number_of NameLong = 9
number_of ResultLong = 10
number_of OutputShort = 11
number_of MacroLeft = 12
