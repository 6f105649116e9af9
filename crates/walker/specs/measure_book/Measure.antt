-- The walk over all formats, by position and total on any bytes. It mirrors the code.
use Rattle.std.specs.Prelude.{List, ℕ, eqb, length}
use Rattle.layout.specs.items.At.{byte_at, past_at, number_at, name_past_of, pick}
use Rattle.walker.specs.measure.Measure.{Step, many, combinator_at, inner_at}

-- "name, parameters .., combinator": a parameter is a name and an inner, and an inner has fewer levels than the book has bytes
unfoldable pub param_at : List ℕ → Step
param_at s at t = inner_at (length s) s (name_past_of s at) t

abbrev pub params_at : List ℕ → Step
params_at s at t = many (param_at s) s at t

unfoldable pub format_at : List ℕ → ℕ → List ℕ → List ℕ
format_at s at t =
    let g = params_at s (name_past_of s at) t in
    (combinator_at (length s) s g.0 g.1).1

-- an entry of the contents: its kind, a zero, where its body stands and that body's size. Formats are of kind 1
unfoldable pub entry_at : List ℕ → ℕ → List ℕ → List ℕ
entry_at s at t = pick (eqb (byte_at s at) 1) (format_at s (number_at s (past_at s at 2)) t) t

unfoldable pub entry_step : List ℕ → Step
entry_step s at t = (past_at s at 6, entry_at s at t)

-- the table when all formats that the contents list are gone over
unfoldable pub measured_book : List ℕ → List ℕ → List ℕ
measured_book s t = (many (entry_step s) s 0 t).1
