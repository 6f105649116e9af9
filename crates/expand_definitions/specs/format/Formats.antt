-- The naming pass over one definition.
use Rattle.std.specs.Prelude.{◌≡◌, List, [], ◌∷◌, ℕ, ◌≤◌, length, take, Result}
use Rattle.definition.specs.Res.{Res}
use Rattle.definition.specs.Tree.{Name, Combinator, Param, Definition, format}
use Rattle.definition.specs.Write.{w_definition, kind_of, kind_byte}
use Rattle.definition.specs.Size.{levels, levels_p, levels_book}
use Rattle.layout.specs.items.Here.{Here}
use Rattle.lift_tables.specs.declared.enter_lift.Counts.{Counts}
use Rattle.lift_tables.specs.enter_lift.Sheet.{Sheet, sheet_of}
use Rattle.lift_combinator.specs.naming.Lifts.{Scratch}
use Rattle.expand_definitions.specs.walked.Book.{walk_all}
use Rattle.expand_combinator.specs.declared.body.Named.{Named}
use Rattle.what_comes_back.specs.declared.Code.{Code}
use Rattle.expand_combinator.specs.open_child.Good.{Good}
use Rattle.expand_combinator.specs.body.Walks.{Ends}

pub record Space (s path binders bound uses spare : List ℕ) : Type 0 where
  pub scratch : Scratch s bound uses spare
  pub path_long : length path ≡ 255
  pub binders_long : length s ≤ length binders

pub record Format (s : List ℕ) (at : ℕ) : Type 0 where
  pub name : Name
  pub params : List Param
  pub body : Combinator
  pub after : List ℕ
  pub is : Here s at (w_definition (format name params body) after)
  pub deep_params : levels_p params ≤ 64
  pub deep : levels body ≤ 64

-- a walk ends with the answer r, and the tables say what it says
abbrev pub EndsIn : {A : Type 0} → Res Sheet A → List ℕ → List ℕ → List ℕ → List ℕ → List ℕ → List ℕ → List ℕ → List ℕ → List ℕ → Result Named Code → Type 0
EndsIn m s made places ways hints rows params number order r = Ends m r (λ v k. sheet_of s made places rows params (take k order) v) (λ v k. Good s made places ways hints rows params number order v k)

pub record Defined (s : List ℕ) (kind at : ℕ) (made places rows params order : List ℕ) (w : Counts) (n : ℕ) (made' places' ways' hints' rows' params' number' order' : List ℕ) (r : Result Named Code) : Type 0 where
  pub says : (d : Definition) (z : List ℕ) → Here s at (w_definition d z) → kind ≡ kind_byte (kind_of d) → levels_book (d ∷ []) ≤ 64
      → EndsIn (walk_all (d ∷ []) at (sheet_of s made places rows params (take n order) w)) s made' places' ways' hints' rows' params' number' order' r
