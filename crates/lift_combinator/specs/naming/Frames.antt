-- What a frame says of its node.
use Rattle.std.specs.Prelude.{Bool, true, false, List, [], ◌≡◌, ℕ, ◌+◌, ◌-◌, ◌*◌, ◌≤◌, ◌<◌, length}
use Rattle.definition.specs.Tree.{Name, wrap, vec, CaseKind, enums, ints, arrays, Combinator, Inner, shell}
use Rattle.definition.specs.Names.{segment, child, case_segment, shell_segment}
use Rattle.layout.specs.lookup.Name.{name_at}
use Rattle.definition.specs.Write.{w_combinator, w_fields, w_cases, w_open, w_shut, count_f, count_c}
use Rattle.definition.specs.Size.{size, levels, levels_f, levels_c}
use Rattle.laws.proofs.Sizes.{size_i, size_f, size_c}
use Rattle.layout.specs.items.Here.{Here}
use Rattle.generated_name.specs.child_name.Name.{Held}
use Rattle.lift_tables.specs.tables.Numbers.{plus}
use Rattle.lift_combinator.specs.declared.frames.Frame.{Frame}
use Rattle.lift_combinator.specs.declared.frames.Begin.{Begin}
use Rattle.lift_combinator.specs.declared.frames.Kind.{Kind}
use Rattle.lift_combinator.specs.declared.frames.Kind.TheVariants as kind
use Rattle.lift_combinator.specs.frames.Frames.{Stands}
use Rattle.lift_combinator.specs.declared.children.Next.{Next}
use Rattle.lift_combinator.specs.declared.children.Next.TheVariants.{Done, Pass, Chain, Label, Case, Anon, Item}
use Rattle.lift_combinator.specs.done.Done.{passed, bind_by, bound_after, delivered}
use Rattle.lift_tables.specs.enter_lift.Bound.{bound_from}
use Rattle.lift_tables.specs.enter_lift.Sheet.{Sheet}
use Rattle.lift_combinator.specs.naming.Nodes.{Rest, fields, cases, one, tail, Own, walked, lifted, Link, ahead, behind, Node, rest_of, skip, close, go_on, Wait, deliver, run, Opens}
use Rattle.lift_combinator.specs.naming.Walk.{Extent}

-- the sort of a Choice's cases
unfoldable pub kind_of : CaseKind → Kind
kind_of enums = kind.Enums
kind_of ints = kind.Ints
kind_of arrays = kind.Arrays

-- the rest of an inner begins at `here`, and z follows it
unfoldable pub RestIs : List ℕ → List ℕ → ℕ → Kind → ℕ → ℕ → Rest → Type 0
RestIs s z here sort left child (fields f) = Here s here (w_fields f z) × (sort ≡ kind.Fields) × (left ≡ count_f f)
RestIs s z here sort left child (cases f k i) = Here s here (w_cases f k z) × (sort ≡ kind_of k) × (left ≡ count_c f) × (child ≡ i)
RestIs s z here sort left child (one x c) = Here s here (w_open x (w_combinator c (w_shut x z))) × (sort ≡ kind.One) × (left ≡ 1)
RestIs s z here sort left child (tail k) = sort ≡ kind.Nothing

unfoldable pub size_rest : Rest → ℕ
size_rest (fields f) = size_f f
size_rest (cases f k i) = size_c f k
size_rest (one x c) = size_i (shell x c)
size_rest (tail k) = k

-- the levels below a node
unfoldable pub levels_rest : Rest → ℕ
levels_rest (fields f) = levels_f f
levels_rest (cases f k i) = levels_c f
levels_rest (one x c) = levels c
levels_rest (tail k) = 0

unfoldable pub levels_link : Link → ℕ
levels_link (ahead c p) = levels c
levels_link (behind l) = 0

pub record Begins (s z : List ℕ) (at : ℕ) (i : Inner) (r : Begin) : Type 0 where
  pub here : r.here ≡ at + skip i
  pub rest : RestIs s z r.here r.kind r.left 0 (rest_of i)
  -- each child takes a byte at least
  pub few : r.left ≤ size_i i

-- the chain of an inner that ends at a place
unfoldable pub LinkIs : List ℕ → ℕ → Bool → ℕ → Link → Type 0
LinkIs s end chained link (ahead c p) = (chained ≡ true) × (p ≡ end + 1) × Stands s p c
LinkIs s end chained link (behind l) = (chained ≡ false) × (link ≡ l)

unfoldable pub OwnIs : ℕ → ℕ → Own → Type 0
OwnIs own call walked = own ≡ 0
OwnIs own call (lifted i k) = (own ≡ i + 1) × (call ≡ k)

-- a frame stands for a node with so many levels below it
pub record FrameIs (s path binders : List ℕ) (k : ℕ) (f : Frame ℕ) (n : Node) : Type 0 where
  pub after : List ℕ
  pub rest : RestIs s after f.here f.kind f.left f.child n.rest
  pub ends : f.end ≡ f.here + size_rest n.rest
  pub here : f.here ≡ n.at
  pub done : f.done ≡ n.done
  pub link : LinkIs s f.end f.chained f.link n.link
  pub name : Held path f.len n.name
  pub env : bound_from s binders 0 f.bound ≡ n.env
  pub own : OwnIs f.own f.call n.own
  -- each binder takes four bytes or more of what stands before
  pub few : 4 * f.bound ≤ f.here
  pub deep : levels_rest n.rest ≤ k
  pub deep_link : levels_link n.link ≤ k

-- the answer for each sort of next step
pub record Closing (f : Frame ℕ) (n : Node) : Type 0 where
  pub closes : (t : Sheet) → go_on n t ≡ close n.own (plus f.done (f.end - f.here)) f.link t

pub record Passing (s path binders : List ℕ) (k : ℕ) (f : Frame ℕ) (n : Node) (e : ℕ) : Type 0 where
  pub next : Node
  pub frame : FrameIs s path binders k (passed f e) next
  pub ahead : f.here < e
  pub same : (ws : List Wait) (t : Sheet) → run n ws t ≡ run next ws t

-- a child at a place, with its base: the node waits for it, and its frame then stands for what it is when the child is done
pub record Opening (s : List ℕ) (k : ℕ) (f : Frame ℕ) (n : Node) (at : ℕ) (base : Name) : Type 0 where
  pub child : Combinator
  pub wait : Wait
  pub opens : Opens n child at base wait
  pub stands : Stands s at child
  pub deep : levels child ≤ k
  pub behind : f.here ≤ at
  pub back : (path binders : List ℕ) → FrameIs s path binders k f n → length s ≤ length binders → (z : Extent) → z.inner ≤ 65535
      → FrameIs s path (bind_by s f at z.inner binders) k (delivered f at (at + size child) z.whole (bound_after s f)) (deliver wait z)

unfoldable pub NextIs : List ℕ → List ℕ → List ℕ → ℕ → Frame ℕ → Node → Next → Type 0
NextIs s path binders k f n Done = Closing f n
NextIs s path binders k f n (Pass e) = Passing s path binders k f n e
NextIs s path binders k f n (Chain at) = Opening s k f n at n.name
NextIs s path binders k f n (Label at a) = Opening s k f n at (child n.name (segment (name_at s a)))
NextIs s path binders k f n (Case at) = Opening s k f n at (child n.name (case_segment ints [] f.child))
NextIs s path binders k f n (Anon at) = Opening s k f n at (child n.name (shell_segment (wrap [] [])))
NextIs s path binders k f n (Item at) = Opening s k f n at (child n.name (shell_segment vec))
