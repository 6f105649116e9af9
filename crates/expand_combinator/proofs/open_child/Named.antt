-- What a node does next, with the base of its child.
-- Assumes nothing.
use mathlib.Core.Path.{◌≡◌, refl, ap, ◌∙◌}
use mathlib.Core.Bool.{true}
use mathlib.Core.List.{List, ◌∷◌}
use Prim.Native.Nat.{ℕ, ◌≤◌}
use native.Mathlib.Omega.{arith}
use lib.ListN.{length, take, length-append}
use Rattle.definition.specs.Tree.{Name}
use Rattle.definition.specs.Names.{child}
use Rattle.buffer.proofs.writes.Wrote.{same_length}
use Rattle.layout.specs.items.At.{past_at}
use Rattle.generated_name.specs.child_name.Name.{Held, Child}
use Rattle.generated_name.proofs.child_name.Held.{stays}
use Rattle.lift_combinator.specs.declared.frames.Frame.{Frame}
use Rattle.lift_combinator.specs.declared.children.Next.{Next}
use Rattle.lift_combinator.specs.declared.children.Next.TheVariants.{Done, Pass, Chain, Label, Case, Anon, Item}
use Rattle.lift_combinator.specs.declared.children.Step.{Step}
use Rattle.lift_combinator.specs.declared.children.Step.TheVariants as step
use Rattle.lift_combinator.specs.children.Next.{next_of}
use Rattle.lift_combinator.specs.children.Steps.{StepAt}
use Rattle.lift_combinator.specs.naming.Nodes.{Node}
use Rattle.lift_combinator.specs.naming.Frames.{FrameIs, Closing, Passing, Opening, NextIs}
use Rattle.lift_combinator.proofs.naming.Opened.{next_is}

-- ---- the step, as the node says it
pub record Reached (s : List ℕ) (k : ℕ) (f : Frame ℕ) (n : Node) (path' : List ℕ) (at len : ℕ) : Type 0 where
  pub base : Name
  pub opening : Opening s k f n at base
  pub held : Held path' len base
  pub longer : f.len ≤ len
  pub chain : f.chained ≡ true → at ≡ past_at s f.end 1

pub record Reaches (s : List ℕ) (f : Frame ℕ) (path path' : List ℕ) (at len : ℕ) : Type 0 where
  pub kept : take f.len path' ≡ take f.len path
  pub reaches : (binders : List ℕ) (k : ℕ) (n : Node) → length s ≤ 16384 → FrameIs s path binders k f n → Reached s k f n path' at len

unfoldable pub StepIs : List ℕ → Frame ℕ → List ℕ → List ℕ → Step → Type 0
StepIs s f path path' step.Done = (path' ≡ path) × ((binders : List ℕ) (k : ℕ) (n : Node) → length s ≤ 16384 → FrameIs s path binders k f n → Closing f n)
StepIs s f path path' (step.Pass e) = (path' ≡ path) × ((binders : List ℕ) (k : ℕ) (n : Node) → length s ≤ 16384 → FrameIs s path binders k f n → Passing s path binders k f n e)
StepIs s f path path' (step.Child at len) = Reaches s f path path' at len

child_longer : {path path' : List ℕ} {len r : ℕ} (name seg : Name) → Child path len seg path' r → Held path len name → len ≤ r
unfolding child
child_longer name seg w h = omega (arith, h.place, (w.named name h).place, same_length w.wrote, length-append name (95 ∷ seg))

-- where the child stands
unfoldable place_of : Next → ℕ
place_of Done = 0
place_of (Pass e) = e
place_of (Chain at) = at
place_of (Label at a) = at
place_of (Case at) = at
place_of (Anon at) = at
place_of (Item at) = at

chain_place : (s : List ℕ) (f : Frame ℕ) → f.chained ≡ true → place_of (next_of s f) ≡ past_at s f.end 1
unfolding next_of place_of
chain_place s f e = rw e

module _ (s : List ℕ) (f : Frame ℕ) (path : List ℕ) where
  step_done : Done ≡ next_of s f → StepIs s f path path step.Done
  unfolding StepIs NextIs
  step_done e = (refl, λ binders k n small g. rw (← e) at (next_is small g))

  step_pass : (a : ℕ) → Pass a ≡ next_of s f → StepIs s f path path (step.Pass a)
  unfolding StepIs NextIs
  step_pass a e = (refl, λ binders k n small g. rw (← e) at (next_is small g))

  step_chain : (at : ℕ) → Chain at ≡ next_of s f → StepIs s f path path (step.Child at f.len)
  unfolding StepIs NextIs place_of
  step_chain at e = record { kept = refl; reaches = λ binders k n small g. record { base = n.name; opening = rw (← e) at (next_is small g); held = g.name; longer = omega arith; chain = λ q. ap place_of e ∙ chain_place s f q } }

  step-child : (path' : List ℕ) (r : ℕ) (seg : Name) (at : ℕ) (next : Next) → at ≡ place_of next → next ≡ next_of s f
      → ((binders : List ℕ) (k : ℕ) (n : Node) → NextIs s path binders k f n next → Opening s k f n at (child n.name seg)) → Child path f.len seg path' r → StepIs s f path path' (step.Child at r)
  unfolding StepIs
  step-child path' r seg at next a e o w = record {
    kept = stays w.wrote;
    reaches = λ binders k n small g. record {
      base = child n.name seg;
      opening = o binders k n (rw (← e) at (next_is small g));
      held = w.named n.name g.name;
      longer = child_longer n.name seg w g.name;
      chain = λ q. a ∙ ap place_of e ∙ chain_place s f q;
    };
  }

  step_of : (path' : List ℕ) (r : Step) (next : Next) → next ≡ next_of s f → StepAt s f path path' next r → StepIs s f path path' r
  unfolding StepAt NextIs place_of
  step_of path' r Done e x = rw (x.0, x.1) (step_done e)
  step_of path' r (Pass a) e x = rw (x.0, x.1) (step_pass a e)
  step_of path' r (Chain at) e x = rw (x.0, x.1) (step_chain at e)
  step_of path' r (Label at a) e x = rw x.is (step-child path' x.to _ at (Label at a) refl e (λ binders k n o. o) x.named)
  step_of path' r (Case at) e x = rw x.is (step-child path' x.to _ at (Case at) refl e (λ binders k n o. o) x.named)
  step_of path' r (Anon at) e x = rw x.is (step-child path' x.to _ at (Anon at) refl e (λ binders k n o. o) x.named)
  step_of path' r (Item at) e x = rw x.is (step-child path' x.to _ at (Item at) refl e (λ binders k n o. o) x.named)

  pub step_is : (path' : List ℕ) (r : Step) → StepAt s f path path' (next_of s f) r → StepIs s f path path' r
  step_is path' r h = step_of path' r (next_of s f) refl h
