-- Lifting rules (`expand_definitions`), codes 7 to 10.
use Rattle.std.specs.Prelude.{List, [], ◌∷◌, ◌++◌, Bool, true, false, cond, not, ◌&&◌, ℕ, suc, ◌+◌, ◌-◌, leb, length}
use Rattle.definition.specs.Code.{leftover_macro, name_long, no_binder, result_long}
use Rattle.definition.specs.Res.{Maybe, absent, just, Res, bad, ok, ◌>>=◌, require}
use Rattle.definition.specs.Tree.{Name, CaseKind, FieldKind, ordinary, dependent, Combinator, plain, chained, Inner, leaf, struct, choice, shell, bytes, invocation, macro_invocation, Fields, no_field, field, const, Cases, no_case, case, Param, Definition, format, constant, byte_order, macro}
use Rattle.definition.specs.Names.{eq_name, elem, remove, before, insert, sorted, root, letter, letters, segment, digits, decimal, child, case_segment, shell_segment, numbered, first_free, fresh}
use Rattle.definition.specs.Write.{size_of, w_book}
use Rattle.definition.specs.Size.{size, size_book}
use Rattle.definition.specs.Macros.{inner_of}
use Rattle.definition.specs.Collect.{anonymous_leaf, anonymous, is_tail, bytes_or_tail, selector_uses, shell_uses, unbound, free, leftover}

-- what the walk carries: the names taken, the definitions lifted so far, and the book as code 10 measures it
pub record State : Type 0 where
  pub taken : List Name
  pub made : List Definition
  pub bytes : ℕ
  pub defns : ℕ

-- "A parameter's type is that of the first binder of that name". Binders are searched in order: "the definition's own parameters, then the Dependent fields passed on the way, outermost first". The definition is the source's, inside what is lifted too (reading 1, docs/READINGS.md)
unfoldable pub binder : List Param → Name → Maybe Inner
binder [] n = absent
binder (p ∷ ps) n = let r = binder ps n in cond (eq_name p.name n) (just p.type) r

-- the binder of one name, and 8 without
unfoldable pub bound : Maybe Inner → Name → State → Res State Param
bound absent n s = bad no_binder s
bound (just i) n s = ok (record { name = n; type = i }) s

unfoldable pub typed : List Param → List Name → State → Res State (List Param)
typed binders [] s = ok [] s
typed binders (n ∷ ns) s = do
  (p, s) ← bound (binder binders n) n s
  (ps, s) ← typed binders ns s
  ok (p ∷ ps) s

-- "A lifted name is taken before its own children are named"
unfoldable pub take : Name → State → State
take n s = record { taken = n ∷ s.taken; made = s.made; bytes = s.bytes; defns = s.defns }

-- "for each lift so far, 6 bytes of contents, the new body and the call, less the combinator moved"
unfoldable pub grow : Definition → Combinator → Combinator → State → State
grow d there moved s = record { taken = s.taken; made = s.made; bytes = (s.bytes + 6 + size_of d + size there) - size moved; defns = s.defns + 1 }

-- "and its definition is appended after theirs"
unfoldable pub append : Definition → State → State
append d s = record { taken = s.taken; made = s.made ++ (d ∷ []); bytes = s.bytes; defns = s.defns }

-- "A Dependent field binds its label for the fields after it", "types as they stand after lifting, without chain" (reading 7, docs/READINGS.md)
unfoldable pub bind : FieldKind → Name → Combinator → List Param → List Param
bind ordinary l d binders = binders
bind dependent l d binders = binders ++ (record { name = l; type = inner_of d } ∷ [])

-- the walk of a node under its name, with the binders in force
abbrev pub Walk : Type 0
Walk = Name → List Param → State → Res State Combinator

-- what a walk lifts, by the child and the count of definitions so far, and what it holds to be within the limits, by bytes and definitions.
-- Document 01's walk is `full`. Two things need another: the laws about code 10 (crate `laws`, `measure_is_size` and those after it) look at walks that stop earlier,
-- and document 02 f will have a walk for the delivery profile, "9, 8, 10 at each lift"
pub record Course : Type 0 where
  pub lifts : Combinator → ℕ → Bool
  pub within : ℕ → ℕ → Bool

-- "An anonymous child is lifted"; "10: result over 16,384 bytes or 512 definitions"
abbrev pub full : Course
full = record { lifts = λ c n. anonymous c; within = λ b n. leb b 16384 && leb n 512 }

module _ (course : Course) where
  -- "9, 7, 8, 10": the measure of 10 is taken with this lift made
  unfoldable pub measured : State → Res State Unit
  measured s = require (course.within s.bytes s.defns) result_long s

  -- "An anonymous child is lifted whole, chain included, and replaced by a call without a chain"; "9, 7, 8, 10", before the lifts inside (reading 2, docs/READINGS.md)
  unfoldable pub lift : Combinator → Walk → Walk
  lift c inside base binders s =
      let n = fresh base s.taken in
      let ns = sorted (free c) in
      let there = plain (invocation n ns) in do
        (u, s) ← require (leb (length n) 255) name_long s
        (u, s) ← require (not (leftover c)) leftover_macro s
        (ps, s) ← typed binders ns s
        (u, s) ← measured (grow (format n ps c) there c s)
        (d, s) ← inside n binders (take n s)
        ok there (append (format n ps d) s)

  -- "any other child is walked", its base for its name, taken or not (reading 6, docs/READINGS.md)
  unfoldable pub child_by : Bool → Combinator → Walk → Walk
  child_by true c inside base binders s = lift c inside base binders s
  child_by false c inside base binders s = inside base binders s

  -- "The root of a body is never lifted itself. At a node: the chain first, then the children in order."
  unfoldable mutual
    pub walk : Combinator → Name → List Param → State → Res State Combinator
    walk (plain i) name binders s = do
      (j, s) ← walk_i i name binders s
      ok (plain j) s
    walk (chained i c) name binders s = do
      (d, s) ← child_by (course.lifts c s.defns) c (λ n b s. walk c n b s) name binders s
      (j, s) ← walk_i i name binders s
      ok (chained j d) s

    pub walk_i : Inner → Name → List Param → State → Res State Inner
    walk_i (leaf k x) name binders s = ok (leaf k x) s
    walk_i (struct f) name binders s = do
      (g, s) ← walk_f f name binders s
      ok (struct g) s
    walk_i (choice x k f) name binders s = do
      (g, s) ← walk_c f k 0 name binders s
      ok (choice x k g) s
    walk_i (shell x c) name binders s = do
      (d, s) ← child_by (course.lifts c s.defns) c (λ n b s. walk c n b s) (child name (shell_segment x)) binders s
      ok (shell x d) s
    walk_i (bytes l) name binders s = ok (bytes l) s
    walk_i (invocation n a) name binders s = ok (invocation n a) s
    walk_i (macro_invocation n a) name binders s = ok (macro_invocation n a) s

    pub walk_f : Fields → Name → List Param → State → Res State Fields
    walk_f no_field name binders s = ok no_field s
    walk_f (field k l c f) name binders s = do
      (d, s) ← child_by (course.lifts c s.defns) c (λ n b s. walk c n b s) (child name (segment l)) binders s
      (g, s) ← walk_f f name (bind k l d binders) s
      ok (field k l d g) s
    walk_f (const l x f) name binders s = do
      (g, s) ← walk_f f name binders s
      ok (const l x g) s

    pub walk_c : Cases → CaseKind → ℕ → Name → List Param → State → Res State Cases
    walk_c no_case k i name binders s = ok no_case s
    walk_c (case l c f) k i name binders s = do
      (d, s) ← child_by (course.lifts c s.defns) c (λ n b s. walk c n b s) (child name (case_segment k l i)) binders s
      (g, s) ← walk_c f k (suc i) name binders s
      ok (case l d g) s

  unfoldable pub walk_all : List Definition → State → Res State (List Definition)
  walk_all [] s = ok [] s
  walk_all (format n ps c ∷ ds) s = do
    (d, s) ← walk c n ps s
    (es, s) ← walk_all ds s
    ok (format n ps d ∷ es) s
  walk_all (constant n x ∷ ds) s = do
    (es, s) ← walk_all ds s
    ok (constant n x ∷ es) s
  walk_all (byte_order x ∷ ds) s = do
    (es, s) ← walk_all ds s
    ok (byte_order x ∷ es) s
  walk_all (macro n ps c ∷ ds) s = do
    (es, s) ← walk_all ds s
    ok (macro n ps c ∷ es) s

-- "Taken at the start: all kind 1 and 2 names."
unfoldable pub names : List Definition → List Name
names [] = []
names (format n ps c ∷ ds) = n ∷ names ds
names (constant n x ∷ ds) = n ∷ names ds
names (byte_order x ∷ ds) = names ds
names (macro n ps c ∷ ds) = names ds

unfoldable pub start : List Definition → State
start ds = record { taken = names ds; made = []; bytes = size_book ds; defns = length ds }

-- the definitions with what was lifted out of them replaced by calls; the lifted ones are in the state. It has all that it takes to compute on its line
unfoldable pub lift_book_of : List Definition → Res State (List Definition)
unfolding eq_name elem remove before insert sorted root letter letters segment digits decimal child case_segment shell_segment numbered first_free fresh size_of size size_book w_book inner_of anonymous_leaf anonymous is_tail bytes_or_tail selector_uses shell_uses unbound free leftover binder bound typed take grow measured append lift child_by bind walk walk_all names start
lift_book_of ds = walk_all full ds (start ds)
