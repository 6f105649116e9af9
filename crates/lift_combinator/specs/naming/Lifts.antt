-- One lift: the answer, and what the tables say then. Document 01, "Lifting rules", codes 7 to 10.
use Rattle.std.specs.Prelude.{List, ◌≡◌, Result, Ok, Err, ℕ, ◌+◌, ◌≤◌, ◌<◌, length, take, set}
use Rattle.what_comes_back.specs.Codes.{code_of}
use Rattle.what_comes_back.specs.declared.Code.{Code}
use Rattle.definition.specs.Res.{Res, bad, ok}
use Rattle.definition.specs.Tree.{Name, Combinator}
use Rattle.definition.specs.Write.{w_combinator}
use Rattle.definition.specs.Size.{size, levels}
use Rattle.layout.specs.items.At.{byte_at}
use Rattle.layout.specs.items.Here.{Here}
use Rattle.generated_name.specs.child_name.Name.{Held}
use Rattle.lift_tables.specs.declared.enter_lift.Counts.{Counts}
use Rattle.lift_tables.specs.enter_lift.Bound.{Bound}
use Rattle.lift_tables.specs.enter_lift.Sheet.{Sheet, sheet_of, Tables}
use Rattle.lift_combinator.specs.declared.naming.Lift.{Lift}
use Rattle.lift_combinator.specs.naming.Walk.{Start, starts}

-- a combinator stands from one place up to another, at most 64 levels deep
pub record Whole (s : List ℕ) (at end : ℕ) (c : Combinator) : Type 0 where
  pub after : List ℕ
  pub is : Here s at (w_combinator c after)
  pub deep : levels c ≤ 64
  pub ends : end ≡ at + size c

pub record Some (s : List ℕ) (at end : ℕ) : Type 0 where
  pub what : Combinator
  pub whole : Whole s at end what

-- the scratch tables of collection: 64 heads and four numbers a label for every four bytes, a use for every byte
pub record Scratch (s bound uses spare : List ℕ) : Type 0 where
  pub small : (i : ℕ) → byte_at s i < 256
  pub labels : length s + 64 ≤ length bound
  pub uses_long : length s ≤ length uses
  pub spare_long : length s ≤ length spare

-- the answer: a refusal; or the length of the name in the path, the size of the call and the counts
unfoldable pub Answers : Res Sheet Start → Result Lift Code → List ℕ → (Counts → Sheet) → (Counts → Type 0) → Type 0
Answers (bad k t) (Err c) path sheet good = c ≡ code_of k
Answers (ok b t) (Ok l) path sheet good = Held path l.len b.name × (l.call ≡ b.call) × (t ≡ sheet l.counts) × good l.counts
Answers (bad k t) (Ok l) path sheet good = ⊥
Answers (ok b t) (Err c) path sheet good = ⊥

pub record Lifts (s : List ℕ) (at end : ℕ) (path : List ℕ) (len : ℕ) (env : List Bound) (made places rows params number : List ℕ) (w : Counts) (path' made' places' ways' hints' rows' params' number' : List ℕ) (r : Result Lift Code) : Type 0 where
  pub kept : take len path' ≡ take len path
  pub lifts : (c : Combinator) (base : Name) (finished : List ℕ) → Whole s at end c → Held path len base
      → Answers (starts c at base env (sheet_of s made places rows params finished w)) r path' (λ v. sheet_of s made' places' rows' params' finished v)
      (λ v. Tables s made' places' ways' hints' rows' params' v × (number' ≡ set number at (w.lifts + 1)) × (v.lifts ≡ w.lifts + 1))
