-- The test of a name's bytes, which crate `definition` hands in.
use Rattle.std.specs.Prelude.{List, Bool, true, false, ℕ}
use Rattle.definition.specs.Read.{dot_allowed, undotted}

-- "A plain name has no '.'; only selectors and call arguments may have one."
abbrev pub tested : Bool → List ℕ → Bool
tested true = dot_allowed
tested false = undotted
