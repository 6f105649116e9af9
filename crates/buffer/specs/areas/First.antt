-- The first of two areas in one list.
use Rattle.std.specs.Prelude.{List, ℕ, take}

abbrev pub first : List ℕ → List ℕ
first areas = take 16384 areas
