-- The walk of the naming pass on trees: it fills a sheet, and tells what each combinator takes after lifting. Document 01, "Lifting rules", codes 7 to 10.
-- It is crate lifting's `trace` with numbers where that has trees: crate walked shows it.
use Rattle.std.specs.Prelude.{Bool, true, false, not, List, [], ◌∷◌, ◌++◌, ℕ, suc, ◌+◌, ◌-◌, leb, length}
use Rattle.definition.specs.Code.{leftover_macro, name_long}
use Rattle.definition.specs.Res.{Res, ok, ◌>>=◌, require}
use Rattle.definition.specs.Tree.{Name, CaseKind, FieldKind, ordinary, dependent, Combinator, plain, chained, Inner, leaf, struct, choice, shell, bytes, invocation, macro_invocation, Fields, no_field, field, const, Cases, no_case, case}
use Rattle.definition.specs.Names.{sorted, segment, child, case_segment, shell_segment, fresh}
use Rattle.definition.specs.Write.{w_name, w_text, w_selector, w_label, w_open, w_shut}
use Rattle.definition.specs.Size.{size}
use Rattle.definition.specs.Collect.{anonymous, free, leftover}
use Rattle.laws.proofs.Sizes.{size_i}
use Rattle.lifting.specs.After.{chain_at, fields_at, cases_at, shell_at, field_at, const_end, case_at}
use Rattle.lift_tables.specs.tables.Numbers.{plus}
use Rattle.lift_tables.specs.enter_lift.Bound.{Bound}
use Rattle.lift_tables.specs.enter_lift.Sheet.{Sheet, enters}

-- what a combinator takes after lifting, chain and all, and its inner alone
pub record Extent : Type 0 where
  pub whole : ℕ
  pub inner : ℕ

-- a lift that was entered: its name, and the size of its call
pub record Start : Type 0 where
  pub name : Name
  pub call : ℕ

abbrev pub Step : Type 0
Step = Name → List Bound → Sheet → Res Sheet Extent

-- "9, 7, 8, 10"
unfoldable pub starts : Combinator → ℕ → Name → List Bound → Sheet → Res Sheet Start
starts c p base env t =
    let n = fresh base t.taken in do
      (u, t) ← require (leb (length n) 255) name_long t
      (u, t) ← require (not (leftover c)) leftover_macro t
      (k, t) ← enters p (p + size c) n (sorted (free c)) env t
      ok (record { name = n; call = k }) t

-- "and its definition is appended after theirs"
unfoldable pub finish : ℕ → Sheet → Sheet
finish i t = record { taken = t.taken; rows = t.rows; finished = t.finished ++ (i ∷ []); bytes = t.bytes; defns = t.defns }

-- a call has no chain
abbrev pub called : ℕ → Extent
called k = record { whole = k; inner = k - 1 }

-- "An anonymous child is lifted whole, chain included, and replaced by a call without a chain; any other child is walked."
unfoldable pub visit : Bool → Combinator → ℕ → Step → Step
visit true c p inside base env t = do
  (b, u) ← starts c p base env t
  (z, u) ← inside b.name env u
  ok (called b.call) (finish (length t.rows) u)
visit false c p inside base env t = inside base env t

-- "A Dependent field binds its label for the fields after it", "types as they stand after lifting, without chain"
unfoldable pub binds : FieldKind → Name → ℕ → ℕ → List Bound → List Bound
binds ordinary l p k env = env
binds dependent l p k env = env ++ (record { name = l; type = record { own = false; at = p }; size = k } ∷ [])

-- "At a node: the chain first, then the children in order."
unfoldable mutual
  pub walk : Combinator → ℕ → Name → List Bound → Sheet → Res Sheet Extent
  walk (plain i) p name env t = do
    (k, t) ← walk_i i p name env t
    ok (record { whole = plus (plus k 1) 0; inner = k }) t
  walk (chained i c) p name env t = do
    (z, t) ← visit (anonymous c) c (chain_at p i) (λ n e t. walk c (chain_at p i) n e t) name env t
    (k, t) ← walk_i i p name env t
    ok (record { whole = plus (plus k 1) z.whole; inner = k }) t

  pub walk_i : Inner → ℕ → Name → List Bound → Sheet → Res Sheet ℕ
  walk_i (leaf k x) p name env t = ok (plus 0 (size_i (leaf k x))) t
  walk_i (struct f) p name env t = walk_f f 3 (fields_at p) name env t
  walk_i (choice s k f) p name env t = walk_c f k 0 (length (w_selector s []) + 4) (cases_at p s) name env t
  walk_i (shell x c) p name env t = do
    (z, t) ← visit (anonymous c) c (shell_at p x) (λ n e t. walk c (shell_at p x) n e t) (child name (shell_segment x)) env t
    ok (plus (plus (plus 0 (length (w_open x []))) z.whole) (length (w_shut x []))) t
  walk_i (bytes l) p name env t = ok (plus 0 (size_i (bytes l))) t
  walk_i (invocation n a) p name env t = ok (plus 0 (size_i (invocation n a))) t
  walk_i (macro_invocation n a) p name env t = ok (plus 0 (size_i (macro_invocation n a))) t

  -- the fields from p on, of an inner of which `done` bytes stand before them
  pub walk_f : Fields → ℕ → ℕ → Name → List Bound → Sheet → Res Sheet ℕ
  walk_f no_field done p name env t = ok (plus done 0) t
  walk_f (field k l c f) done p name env t = do
    (z, t) ← visit (anonymous c) c (field_at p l) (λ n e t. walk c (field_at p l) n e t) (child name (segment l)) env t
    walk_f f (plus (plus done (1 + length (w_name l []))) z.whole) (field_at p l + size c) name (binds k l (field_at p l) z.inner env) t
  walk_f (const l x f) done p name env t = walk_f f (plus done (1 + length (w_name l []) + length (w_text x []))) (const_end p l x) name env t

  pub walk_c : Cases → CaseKind → ℕ → ℕ → ℕ → Name → List Bound → Sheet → Res Sheet ℕ
  walk_c no_case k i done p name env t = ok (plus done 0) t
  walk_c (case l c f) k i done p name env t = do
    (z, t) ← visit (anonymous c) c (case_at p k l) (λ n e t. walk c (case_at p k l) n e t) (child name (case_segment k l i)) env t
    walk_c f k (suc i) (plus (plus done (length (w_label k l []))) z.whole) (case_at p k l + size c) name env t
