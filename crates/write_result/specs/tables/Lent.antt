-- The tables as the code holds them, and as the model has them.
use Rattle.lift_tables.specs.tables.Parts.{pairs}
use Rattle.write_result.specs.declared.tables.Tables.{Tables as Lent}
use Rattle.write_result.specs.splice.Model.{Tables, tables}

abbrev pub tables_of : Lent → Tables
tables_of t = tables t.book.now t.names.now (pairs t.rows.now) (pairs t.params.now) t.number.now
