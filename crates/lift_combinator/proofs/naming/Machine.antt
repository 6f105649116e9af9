-- The walk with one node for each level, step by step: it is `walk`.
-- Assumes nothing.
use mathlib.Core.Path.{◌≡◌, refl, sym, ◌∙◌}
use mathlib.Core.Bool.{true, false}
use mathlib.Core.List.{List, [], ◌∷◌}
use Prim.Native.Nat.{ℕ, ◌+◌}
use native.Mathlib.Omega.{arith}
use native.Mathlib.Nat.{add-zero}
use lib.ListN.{length}
use Rattle.definition.specs.Res.{Res, bad, ok, ◌>>=◌}
use Rattle.definition.specs.Code.{Code}
use Rattle.definition.specs.Tree.{Name, CaseKind, FieldKind, Shell, Combinator, plain, chained, Inner, leaf, struct, choice, shell, bytes, invocation, macro_invocation, Fields, no_field, field, const, Cases, no_case, case}
use Rattle.definition.specs.Names.{segment, child, case_segment, shell_segment}
use Rattle.definition.specs.Write.{w_name, w_text, w_selector}
use Rattle.definition.specs.Collect.{anonymous}
use Rattle.laws.proofs.Steps.{grouped, follows}
use Rattle.lifting.specs.After.{chain_at, shell_at, field_at, const_end, case_at}
use Rattle.lift_tables.specs.tables.Numbers.{plus}
use Rattle.lift_tables.specs.enter_lift.Bound.{Bound}
use Rattle.lift_tables.specs.enter_lift.Sheet.{Sheet}
use Rattle.lift_combinator.specs.naming.Walk.{Extent, Start, called, starts, finish, visit, walk, walk_i}
use Rattle.lift_combinator.specs.naming.Nodes.{Rest, fields, cases, one, tail, Own, walked, lifted, Link, ahead, behind, Node, rest_of, skip, node_of, close, go_link, go_rest, go_on, linked, Wait, for_chain, for_field, for_case, for_one, advanced, deliver, resume, run, Opens}

-- an inner goes on from where its rest begins
rest_is : (i : Inner) (p : ℕ) (name : Name) (env : List Bound) (t : Sheet) → go_rest (rest_of i) (skip i) (p + skip i) name env t ≡ walk_i i p name env t
unfolding go_rest rest_of skip walk
rest_is (leaf k x) p name env t = refl
rest_is (struct f) p name env t = refl
rest_is (choice s k f) p name env t = let e : p + (length (w_selector s []) + 4) ≡ p + length (w_selector s []) + 4 = omega arith in rw e
rest_is (shell x c) p name env t = rw (add-zero p)
rest_is (bytes l) p name env t = refl
rest_is (invocation n a) p name env t = refl
rest_is (macro_invocation n a) p name env t = refl

-- a node that is walked does what `walk` does, and one that is lifted finishes its lift then
pub walked_is : (c : Combinator) (p : ℕ) (name : Name) (env : List Bound) (t : Sheet) → go_on (node_of c p name env walked) t ≡ walk c p name env t
unfolding go_on node_of go_link close walk
walked_is (plain i) p name env t = rw (rest_is i p name env t)
walked_is (chained i c) p name env t =
    grouped (visit (anonymous c) c (chain_at p i) (walk c (chain_at p i)) name env t) _ _
    ∙ follows (visit (anonymous c) c (chain_at p i) (walk c (chain_at p i)) name env t) _ _ λ z u. rw (rest_is i p name env u)

lifted_is : (c : Combinator) (p : ℕ) (name : Name) (env : List Bound) (i call : ℕ) (t : Sheet) → go_on (node_of c p name env (lifted i call)) t ≡ walk c p name env t >>= (λ x. ok (called call) (finish i x.1))
unfolding go_on node_of go_link close walk
lifted_is (plain i) p name env j call t = rw (rest_is i p name env t) (sym (grouped (walk_i i p name env t) _ _))
lifted_is (chained i c) p name env j call t =
    grouped (visit (anonymous c) c (chain_at p i) (walk c (chain_at p i)) name env t) _ _
    ∙ follows (visit (anonymous c) c (chain_at p i) (walk c (chain_at p i)) name env t) _ _ (λ z u. rw (rest_is i p name env u) (sym (grouped (walk_i i p name env u) _ _)))
    ∙ sym (grouped (visit (anonymous c) c (chain_at p i) (walk c (chain_at p i)) name env t) _ _)

-- a child: "An anonymous child is lifted ..; any other child is walked."
module _ (c : Combinator) (p : ℕ) (base : Name) (env : List Bound) (t : Sheet) where
  visit-walked : anonymous c ≡ false → visit (anonymous c) c p (walk c p) base env t ≡ go_on (node_of c p base env walked) t
  unfolding visit
  visit-walked e = rw e (sym (walked_is c p base env t))

  visit-lifted : (b : Start) (u : Sheet) → anonymous c ≡ true → starts c p base env t ≡ ok b u → visit (anonymous c) c p (walk c p) base env t ≡ go_on (node_of c p b.name env (lifted (length t.rows) b.call)) u
  unfolding visit
  visit-lifted b u e q = rw (e, q) (sym (lifted_is c p b.name env (length t.rows) b.call u))

  visit_refused : (k : Code) (u : Sheet) → anonymous c ≡ true → starts c p base env t ≡ bad k u → visit (anonymous c) c p (walk c p) base env t ≡ bad k u
  unfolding visit
  visit_refused k u e q = rw (e, q)

module _ (rest : Rest) (at done : ℕ) (name : Name) (env : List Bound) (own : Own) where
  abbrev node : Link → Node
  node l = record { link = l; rest = rest; at = at; done = done; name = name; env = env; own = own }

  -- "the chain first"
  pub opens_chain : (c : Combinator) (p : ℕ) → Opens (node (ahead c p)) c p name (for_chain (node (ahead c p)))
  unfolding go_on go_link deliver linked
  opens_chain c p = record { opens = λ t. grouped (visit (anonymous c) c p (walk c p) name env t) _ _ }

module _ (l at done : ℕ) (name : Name) (env : List Bound) (own : Own) where
  abbrev among : Rest → Node
  among r = record { link = behind l; rest = r; at = at; done = done; name = name; env = env; own = own }

  pub opens_field : (k : FieldKind) (a : Name) (c : Combinator) (f : Fields) → Opens (among (fields (field k a c f))) c (field_at at a) (child name (segment a)) (for_field k a c f (among (fields (field k a c f))))
  unfolding go_on go_link go_rest walk deliver advanced
  opens_field k a c f = record { opens = λ t. grouped (visit (anonymous c) c (field_at at a) (walk c (field_at at a)) (child name (segment a)) env t) _ _ }

  pub opens_case : (x : List ℕ) (c : Combinator) (f : Cases) (k : CaseKind) (i : ℕ) → Opens (among (cases (case x c f) k i)) c (case_at at k x) (child name (case_segment k x i)) (for_case x c f k i (among (cases (case x c f) k i)))
  unfolding go_on go_link go_rest walk deliver advanced
  opens_case x c f k i = record { opens = λ t. grouped (visit (anonymous c) c (case_at at k x) (walk c (case_at at k x)) (child name (case_segment k x i)) env t) _ _ }

  pub opens_one : (x : Shell) (c : Combinator) → Opens (among (one x c)) c (shell_at at x) (child name (shell_segment x)) (for_one x c (among (one x c)))
  unfolding go_on go_link go_rest walk deliver advanced
  opens_one x c = record { opens = λ t. grouped (visit (anonymous c) c (shell_at at x) (walk c (shell_at at x)) (child name (shell_segment x)) env t) _ _ }

  -- a Const field is passed
  pub passes_const : (a : Name) (x : List ℕ) (f : Fields) (ws : List Wait) (t : Sheet)
      → run (among (fields (const a x f))) ws t ≡ run (advanced (among (fields (const a x f))) (fields f) (const_end at a x) (plus done (1 + length (w_name a []) + length (w_text x []))) env) ws t
  unfolding run go_on go_link go_rest walk advanced
  passes_const a x f ws t = refl

  -- at its end
  pub ends_fields : (t : Sheet) → go_on (among (fields no_field)) t ≡ close own (plus done 0) l t
  unfolding go_on go_link go_rest walk
  ends_fields t = refl

  pub ends_cases : (k : CaseKind) (i : ℕ) (t : Sheet) → go_on (among (cases no_case k i)) t ≡ close own (plus done 0) l t
  unfolding go_on go_link go_rest walk
  ends_cases k i t = refl

  pub ends_tail : (k : ℕ) (t : Sheet) → go_on (among (tail k)) t ≡ close own (plus done k) l t
  unfolding go_on go_link go_rest
  ends_tail k t = refl

-- one step of the nodes
module _ {n : Node} {c : Combinator} {p : ℕ} {base : Name} {w : Wait} (o : Opens n c p base w) (ws : List Wait) (t : Sheet) where
  opened : run n ws t ≡ visit (anonymous c) c p (walk c p) base n.env t >>= (λ x. resume (w ∷ ws) x.0 x.1)
  unfolding run resume
  opened = rw (o.opens t) (grouped (visit (anonymous c) c p (walk c p) base n.env t) _ _)

  pub steps_walked : anonymous c ≡ false → run n ws t ≡ run (node_of c p base n.env walked) (w ∷ ws) t
  unfolding run
  steps_walked e = opened ∙ (rw (visit-walked c p base n.env t e))

  pub steps_lifted : (b : Start) (u : Sheet) → anonymous c ≡ true → starts c p base n.env t ≡ ok b u → run n ws t ≡ run (node_of c p b.name n.env (lifted (length t.rows) b.call)) (w ∷ ws) u
  unfolding run
  steps_lifted b u e q = opened ∙ (rw (visit-lifted c p base n.env t b u e q))

  pub steps_refused : (k : Code) (u : Sheet) → anonymous c ≡ true → starts c p base n.env t ≡ bad k u → run n ws t ≡ bad k u
  steps_refused k u e q = opened ∙ (rw (visit_refused c p base n.env t k u e q))

-- a node that is done hands over to the one that waits, and the last one ends the walk
module _ (n : Node) (t : Sheet) {z : Extent} {u : Sheet} (e : go_on n t ≡ ok z u) where
  pub steps_back : (w : Wait) (ws : List Wait) → run n (w ∷ ws) t ≡ run (deliver w z) ws u
  unfolding run resume
  steps_back w ws = rw e

  pub steps_last : run n [] t ≡ ok z u
  unfolding run resume
  steps_last = rw e

-- from the root of a body
pub run_root : (c : Combinator) (p : ℕ) (name : Name) (env : List Bound) (t : Sheet) → run (node_of c p name env walked) [] t ≡ walk c p name env t
unfolding run resume
run_root c p name env t = rw (walked_is c p name env t) (same (walk c p name env t))
  where
    same : (m : Res Sheet Extent) → m >>= (λ x. ok x.0 x.1) ≡ m
    same (bad k s) = refl
    same (ok a s) = refl
