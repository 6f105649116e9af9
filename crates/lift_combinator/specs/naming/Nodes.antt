-- The same walk with one node for each level: what a node still has to do, and the nodes that wait for it. Document 01: "The walk's call stack may
-- become one frame for each of the 64 levels." That it is `walk` is shown in proofs/Machine.antt.
use Rattle.std.specs.Prelude.{◌≡◌, List, [], ◌∷◌, ℕ, suc, ◌+◌, length}
use Rattle.definition.specs.Res.{Res, ok, ◌>>=◌}
use Rattle.definition.specs.Tree.{Name, CaseKind, FieldKind, Shell, Combinator, plain, chained, Inner, leaf, struct, choice, shell, bytes, invocation, macro_invocation, Fields, Cases}
use Rattle.definition.specs.Names.{child, shell_segment}
use Rattle.definition.specs.Write.{w_name, w_selector, w_label, w_open, w_shut}
use Rattle.definition.specs.Size.{size}
use Rattle.definition.specs.Collect.{anonymous}
use Rattle.laws.proofs.Sizes.{size_i}
use Rattle.lifting.specs.After.{chain_at, shell_at, field_at, case_at}
use Rattle.lift_tables.specs.tables.Numbers.{plus}
use Rattle.lift_tables.specs.enter_lift.Bound.{Bound}
use Rattle.lift_tables.specs.enter_lift.Sheet.{Sheet}
use Rattle.lift_combinator.specs.naming.Walk.{Extent, called, finish, visit, binds, walk, walk_f, walk_c}

-- the children still to walk, or the bytes that are left
pub data Rest : Type 0 where
  fields : Fields → Rest
  cases : Cases → CaseKind → ℕ → Rest
  one : Shell → Combinator → Rest
  tail : ℕ → Rest

-- a lift's number and the size of its call
pub data Own : Type 0 where
  walked : Own
  lifted : ℕ → ℕ → Own

-- the chain still to walk with its place, or what it takes after lifting
pub data Link : Type 0 where
  ahead : Combinator → ℕ → Link
  behind : ℕ → Link

pub record Node : Type 0 where
  pub link : Link
  pub rest : Rest
  -- where the rest begins, and what the inner takes up to there after lifting
  pub at : ℕ
  pub done : ℕ
  pub name : Name
  pub env : List Bound
  pub own : Own

unfoldable pub rest_of : Inner → Rest
rest_of (leaf k x) = tail (size_i (leaf k x))
rest_of (struct f) = fields f
rest_of (choice s k f) = cases f k 0
rest_of (shell x c) = one x c
rest_of (bytes l) = tail (size_i (bytes l))
rest_of (invocation n a) = tail (size_i (invocation n a))
rest_of (macro_invocation n a) = tail (size_i (macro_invocation n a))

-- how far the rest of an inner begins behind the inner's own place
unfoldable pub skip : Inner → ℕ
skip (leaf k x) = 0
skip (struct f) = 3
skip (choice s k f) = length (w_selector s []) + 4
skip (shell x c) = 0
skip (bytes l) = 0
skip (invocation n a) = 0
skip (macro_invocation n a) = 0

unfoldable pub node_of : Combinator → ℕ → Name → List Bound → Own → Node
node_of (plain i) p name env own = record { link = behind 0; rest = rest_of i; at = p + skip i; done = skip i; name = name; env = env; own = own }
node_of (chained i c) p name env own = record { link = ahead c (chain_at p i); rest = rest_of i; at = p + skip i; done = skip i; name = name; env = env; own = own }

-- the end of a node: "its definition is appended after theirs"
unfoldable pub close : Own → ℕ → ℕ → Sheet → Res Sheet Extent
close walked k l t = ok (record { whole = plus (plus k 1) l; inner = k }) t
close (lifted i call) k l t = ok (called call) (finish i t)

unfoldable pub go_link : Link → Name → List Bound → Sheet → Res Sheet ℕ
go_link (behind l) name env t = ok l t
go_link (ahead c p) name env t = do
  (z, t) ← visit (anonymous c) c p (walk c p) name env t
  ok z.whole t

unfoldable pub go_rest : Rest → ℕ → ℕ → Name → List Bound → Sheet → Res Sheet ℕ
go_rest (fields f) done p name env t = walk_f f done p name env t
go_rest (cases f k i) done p name env t = walk_c f k i done p name env t
go_rest (one x c) done p name env t = do
  (z, t) ← visit (anonymous c) c (shell_at p x) (walk c (shell_at p x)) (child name (shell_segment x)) env t
  ok (plus (plus (plus done (length (w_open x []))) z.whole) (length (w_shut x []))) t
go_rest (tail k) done p name env t = ok (plus done k) t

unfoldable pub go_on : Node → Sheet → Res Sheet Extent
go_on n t = do
  (l, t) ← go_link n.link n.name n.env t
  (k, t) ← go_rest n.rest n.done n.at n.name n.env t
  close n.own k l t

-- a node that waits for a child, and the node that it is when the child is done
unfoldable pub linked : Node → ℕ → Node
linked n l = record { link = behind l; rest = n.rest; at = n.at; done = n.done; name = n.name; env = n.env; own = n.own }

pub data Wait : Type 0 where
  for_chain : Node → Wait
  for_field : FieldKind → Name → Combinator → Fields → Node → Wait
  for_case : List ℕ → Combinator → Cases → CaseKind → ℕ → Node → Wait
  for_one : Shell → Combinator → Node → Wait

unfoldable pub advanced : Node → Rest → ℕ → ℕ → List Bound → Node
advanced n r at done env = record { link = n.link; rest = r; at = at; done = done; name = n.name; env = env; own = n.own }

unfoldable pub deliver : Wait → Extent → Node
deliver (for_chain n) z = linked n z.whole
deliver (for_field k l c f n) z = advanced n (fields f) (field_at n.at l + size c) (plus (plus n.done (1 + length (w_name l []))) z.whole) (binds k l (field_at n.at l) z.inner n.env)
deliver (for_case l c f k i n) z = advanced n (cases f k (suc i)) (case_at n.at k l + size c) (plus (plus n.done (length (w_label k l []))) z.whole) n.env
deliver (for_one x c n) z = advanced n (tail (length (w_shut x []))) (shell_at n.at x + size c) (plus (plus n.done (length (w_open x []))) z.whole) n.env

-- the nodes that wait go on one after the other
unfoldable pub resume : List Wait → Extent → Sheet → Res Sheet Extent
resume [] z t = ok z t
resume (w ∷ ws) z t = do
  (y, t) ← go_on (deliver w z) t
  resume ws y t

unfoldable pub run : Node → List Wait → Sheet → Res Sheet Extent
run n ws t = do
  (z, t) ← go_on n t
  resume ws z t

-- what a node does next: it opens a child and waits, or it is at its end
pub record Opens (n : Node) (c : Combinator) (p : ℕ) (base : Name) (w : Wait) : Type 0 where
  pub opens : (t : Sheet) → go_on n t ≡ visit (anonymous c) c p (walk c p) base n.env t >>= (λ x. go_on (deliver w x.0) x.1)
