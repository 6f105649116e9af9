-- A test of every format's body, where the definitions stand in the bytes. The marks that a walk leaves have a row of so many numbers.
use Rattle.std.specs.Prelude.{◌≡◌, List, [], ◌∷◌, Bool, ℕ, ◌≤◌, length}
use Rattle.definition.specs.Tree.{Name, Combinator, Param, Definition, format}
use Rattle.definition.specs.Write.{w_definition, kind_of, kind_byte, w_book}
use Rattle.definition.specs.Size.{levels, levels_p, levels_book}
use Rattle.definition.specs.Bodies.{every_body}
use Rattle.laws.specs.Book.{IsBook}
use Rattle.layout.specs.items.Here.{Here}
use Rattle.walker.specs.declared.definitions.Definitions.{Definitions}
use Rattle.walker.specs.definitions.Listed.{Left}

pub record FormatTested (s : List ℕ) (at : ℕ) (test : Combinator → Bool) (row : ℕ) (r : Bool) : Type 0 where
  pub says : length s ≤ 16384 → row ≡ 8192 → (m : Name) (ps : List Param) (c : Combinator) (z : List ℕ) → Here s at (w_definition (format m ps c) z) → levels_p ps ≤ 64 → levels c ≤ 64
      → r ≡ test c

pub record DefinitionTested (s : List ℕ) (kind at : ℕ) (test : Combinator → Bool) (row : ℕ) (r : Bool) : Type 0 where
  pub says : length s ≤ 16384 → row ≡ 8192 → (d : Definition) (z : List ℕ) → Here s at (w_definition d z) → kind ≡ kind_byte (kind_of d) → levels_book (d ∷ []) ≤ 64 → r ≡ every_body test (d ∷ [])

-- the definitions that are left
pub record BodiesLeft (s : List ℕ) (test : Combinator → Bool) (row : ℕ) (d : Definitions) (r : Bool) : Type 0 where
  pub says : length s ≤ 16384 → row ≡ 8192 → (ds : List Definition) → Left s d ds → r ≡ every_body test ds

pub record BodiesTested (s : List ℕ) (test : Combinator → Bool) (row : ℕ) (r : Bool) : Type 0 where
  pub says : (ds : List Definition) → s ≡ w_book ds → IsBook ds → row ≡ 8192 → r ≡ every_body test ds
