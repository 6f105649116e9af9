-- What the tables say of a lift and of a parameter, in numbers: 0 past a table's end.
use Rattle.std.specs.Prelude.{List, ℕ, ◌+◌, ◌*◌, eqb, get_or}
use Rattle.write_result.specs.declared.tables.Row.{Row}
use Rattle.write_result.specs.declared.tables.Param.{Param}

abbrev pub row_numbers : List ℕ → ℕ → Row
row_numbers rows i = record {
  at = get_or rows (5 * i) 0;
  end = get_or rows (5 * i + 1) 0;
  name = get_or rows (5 * i + 2) 0;
  first = get_or rows (5 * i + 3) 0;
  count = get_or rows (5 * i + 4) 0;
}

abbrev pub param_numbers : List ℕ → ℕ → Param
param_numbers params j = record {
  name = get_or params (4 * j) 0;
  length = get_or params (4 * j + 1) 0;
  at = get_or params (4 * j + 2) 0;
  own = eqb (get_or params (4 * j + 3) 0) 1;
}
