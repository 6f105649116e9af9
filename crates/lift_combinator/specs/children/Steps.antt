-- What a frame does next, with the base of its child.
use Rattle.std.specs.Prelude.{◌≡◌, List, [], ℕ}
use Rattle.definition.specs.Tree.{Name, wrap, vec, ints}
use Rattle.definition.specs.Names.{segment, case_segment, shell_segment}
use Rattle.layout.specs.lookup.Name.{name_at}
use Rattle.generated_name.specs.child_name.Name.{Child}
use Rattle.lift_combinator.specs.declared.frames.Frame.{Frame}
use Rattle.lift_combinator.specs.declared.children.Next.{Next}
use Rattle.lift_combinator.specs.declared.children.Next.TheVariants.{Done, Pass, Chain, Label, Case, Anon, Item}
use Rattle.lift_combinator.specs.declared.children.Step.{Step}
use Rattle.lift_combinator.specs.declared.children.Step.TheVariants as step

-- the child at a place takes the node's name, which has so many bytes in the path, '_' and a segment
pub record Based (path : List ℕ) (len : ℕ) (seg : Name) (path' : List ℕ) (at : ℕ) (r : Step) : Type 0 where
  pub to : ℕ
  pub is : r ≡ step.Child at to
  pub named : Child path len seg path' to

-- the step that fits what a frame does next
unfoldable pub StepAt : List ℕ → Frame ℕ → List ℕ → List ℕ → Next → Step → Type 0
StepAt s f path path' Done r = (r ≡ step.Done) × (path' ≡ path)
StepAt s f path path' (Pass e) r = (r ≡ step.Pass e) × (path' ≡ path)
StepAt s f path path' (Chain at) r = (r ≡ step.Child at f.len) × (path' ≡ path)
StepAt s f path path' (Label at a) r = Based path f.len (segment (name_at s a)) path' at r
StepAt s f path path' (Case at) r = Based path f.len (case_segment ints [] f.child) path' at r
StepAt s f path path' (Anon at) r = Based path f.len (shell_segment (wrap [] [])) path' at r
StepAt s f path path' (Item at) r = Based path f.len (shell_segment vec) path' at r
