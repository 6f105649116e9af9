-- The step of the pass over a body that opens a child.
use Rattle.std.specs.Prelude.{◌≡◌, List, ◌∷◌, ℕ, ◌+◌, ◌-◌, ◌*◌, ◌≤◌, ◌<◌, min, length, take, Result, Ok, Err}
use Rattle.definition.specs.Code.{Code}
use Rattle.definition.specs.Res.{Res, bad}
use Rattle.definition.specs.Tree.{Name, Combinator}
use Rattle.definition.specs.Size.{size, levels}
use Rattle.layout.specs.items.At.{past_at, pick}
use Rattle.generated_name.specs.child_name.Name.{Held}
use Rattle.lift_combinator.specs.declared.frames.Frame.{Frame}
use Rattle.lift_combinator.specs.frames.Frames.{combinator_end_of, Stands}
use Rattle.lift_tables.specs.declared.enter_lift.Counts.{Counts}
use Rattle.lift_tables.specs.enter_lift.Bound.{bound_from}
use Rattle.lift_tables.specs.enter_lift.Sheet.{Sheet, sheet_of}
use Rattle.lift_combinator.specs.naming.Walk.{Extent}
use Rattle.lift_combinator.specs.naming.Nodes.{Node, Wait, run, Opens}
use Rattle.lift_combinator.specs.naming.Frames.{FrameIs}
use Rattle.expand_combinator.specs.open_child.Good.{Good}
use Rattle.expand_combinator.specs.declared.open_child.Child.{Child}
use Rattle.what_comes_back.specs.declared.Code.{Code as CodeOf}
use Rattle.what_comes_back.specs.Codes.{code_of}

-- ---- what every frame in use keeps
pub record Sound (s : List ℕ) (f : Frame ℕ) : Type 0 where
  -- no inner has fewer than three bytes after lifting, and no call fewer than five
  pub least : 3 ≤ f.done + (f.end - f.here)
  pub call : 0 < f.own → 5 ≤ f.call
  pub own : f.own ≤ 512
  pub child : f.child ≤ f.here
  pub ends : f.end ≤ length s
  -- its numbers have 16 bits
  pub place_most : f.place ≤ length s
  pub last_most : f.last ≤ length s
  pub left_most : f.left ≤ 65535
  pub done_most : f.done ≤ 65535
  pub link_most : f.link ≤ 65535
  pub call_most : f.call ≤ 16384

-- what is left to walk for a frame: its rest, and its chain if that is still to be walked
unfoldable pub weight : List ℕ → Frame ℕ → ℕ
weight s f = let a = past_at s f.end 1 in 3 * (f.end - f.here) + pick f.chained (3 * (combinator_end_of 64 s a - a)) 0 + 1

-- ---- a child
pub record Refuses (m : Res Sheet Extent) (c : CodeOf) : Type 0 where
  pub code : Code
  pub sheet : Sheet
  pub is : m ≡ bad code sheet
  pub tells : c ≡ code_of code

-- the child c of a node: its frame, and that the pass goes on with it
pub record Opened (s path binders : List ℕ) (k at len b : ℕ) (c : Combinator) (n : Node) (wait : Wait) (t u : Sheet) (lifts : ℕ) (g : Frame ℕ) (v : Counts) : Type 0 where
  pub node : Node
  pub frame : FrameIs s path binders k g node
  pub same : (ws : List Wait) → run n ws t ≡ run node (wait ∷ ws) u
  pub place : g.place ≡ at
  pub last : g.last ≡ at + size c
  pub longer : len ≤ g.len
  pub bound : g.bound ≡ b
  pub sound : Sound s g
  pub counted : v.lifts ≡ lifts + min g.own 1
  pub light : weight s g + 2 ≤ 3 * size c

unfoldable pub ChildIs : List ℕ → List ℕ → List ℕ → ℕ → ℕ → ℕ → ℕ → Combinator → Node → Wait → Sheet → ℕ → (Counts → Sheet) → (Counts → Type 0) → Result Child CodeOf → Type 0
ChildIs s path binders k at len b c n wait t lifts sheet good (Err x) = (ws : List Wait) → Refuses (run n ws t) x
ChildIs s path binders k at len b c n wait t lifts sheet good (Ok r) = Opened s path binders k at len b c n wait t (sheet r.counts) lifts r.frame r.counts × good r.counts

pub record Comes (s : List ℕ) (at : ℕ) (path : List ℕ) (len : ℕ) (binders : List ℕ) (b : ℕ) (made places ways hints rows params number : List ℕ) (w : Counts) (path' made' places' ways' hints' rows' params' number' : List ℕ) (r : Result Child CodeOf) : Type 0 where
  pub kept : take len path' ≡ take len path
  pub comes : (c : Combinator) (base : Name) (k : ℕ) (n : Node) (wait : Wait) (order : List ℕ) (m : ℕ) → Stands s at c → levels c ≤ k + 1 → k < 64 → Held path len base
      → Opens n c at base wait → bound_from s binders 0 b ≡ n.env → 4 * b ≤ at → Good s made places ways hints rows params number order w m
      → ChildIs s path' binders k at len b c n wait (sheet_of s made places rows params (take m order) w) w.lifts (λ v. sheet_of s made' places' rows' params' (take m order) v)
      (λ v. Good s made' places' ways' hints' rows' params' number' order v m) r
