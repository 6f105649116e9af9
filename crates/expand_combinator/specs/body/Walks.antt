-- The naming pass over one body: what it asks of the tables, and what they hold afterwards.
use Rattle.std.specs.Prelude.{◌≡◌, List, ℕ, ◌*◌, ◌≤◌, length, take, Result, Ok, Err}
use Rattle.definition.specs.Res.{Res, bad, ok}
use Rattle.definition.specs.Tree.{Name, Combinator}
use Rattle.definition.specs.Size.{levels}
use Rattle.generated_name.specs.child_name.Name.{Held}
use Rattle.lift_tables.specs.declared.enter_lift.Counts.{Counts}
use Rattle.lift_combinator.specs.frames.Frames.{Stands, Standing}
use Rattle.lift_tables.specs.enter_lift.Bound.{bound_from, Sized}
use Rattle.lift_tables.specs.enter_lift.Sheet.{Sheet, sheet_of}
use Rattle.lift_combinator.specs.naming.Walk.{walk}
use Rattle.lift_combinator.specs.naming.Lifts.{Scratch}
use Rattle.expand_combinator.specs.open_child.Good.{Good}
use Rattle.expand_combinator.specs.declared.body.Named.{Named}
use Rattle.what_comes_back.specs.declared.Code.{Code}
use Rattle.what_comes_back.specs.Codes.{code_of}

-- the scratch rows, and the binders: each takes four bytes or more of what stands before the body
pub record Ready (s : List ℕ) (at : ℕ) (path binders : List ℕ) (b : ℕ) (bound uses spare : List ℕ) : Type 0 where
  pub stands : Standing s at
  pub scratch : Scratch s bound uses spare
  pub path_long : length path ≡ 255
  pub binders_long : length s ≤ length binders
  pub few : 4 * b ≤ at
  pub sized : Sized binders b

-- the answer, with document 01's code for a refusal
unfoldable pub Ends : {A : Type 0} → Res Sheet A → Result Named Code → (Counts → ℕ → Sheet) → (Counts → ℕ → Type 0) → Type 0
Ends (bad k t) (Err c) sheet good = c ≡ code_of k
Ends (ok z t) (Ok r) sheet good = (t ≡ sheet r.counts r.finished) × good r.counts r.finished
Ends (bad k t) (Ok r) sheet good = ⊥
Ends (ok z t) (Err c) sheet good = ⊥

pub record Walks (s : List ℕ) (at : ℕ) (path : List ℕ) (len : ℕ) (binders : List ℕ) (b : ℕ) (made places rows params order : List ℕ) (w : Counts) (n : ℕ) (made' places' ways' hints' rows' params' number' order' : List ℕ) (r : Result Named Code) : Type 0 where
  pub walks : (c : Combinator) (name : Name) → Stands s at c → levels c ≤ 64 → Held path len name
      → Ends (walk c at name (bound_from s binders 0 b) (sheet_of s made places rows params (take n order) w)) r
      (λ v m. sheet_of s made' places' rows' params' (take m order') v) (λ v m. Good s made' places' ways' hints' rows' params' number' order' v m)
