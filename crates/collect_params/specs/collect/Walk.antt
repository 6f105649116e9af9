-- Collection by position, total on any bytes: what the walk answers and what its two tables hold then. It mirrors the code; that it collects
-- the definition's `free` and tells `leftover` is shown in proofs/Link.antt and proofs/Free.antt.
-- Assumes nothing.
use Rattle.std.specs.Prelude.{List, Bool, true, false, Result, Ok, Err, ℕ, zero, suc, ◌+◌, eqb, length}
use Rattle.layout.specs.items.At.{byte_at, past_at, number_at, name_past_of, text_past_of, label_past_of, stands_on_of, pick}
use Rattle.collect_params.specs.declared.scope.Walk.{Walk}
use Rattle.collect_params.specs.scope.Steps.{walk, moved, counted, unbound, bind_by}
use Rattle.collect_params.specs.roots.Recorded.{length_by, call_by, selector_by}
use Rattle.what_comes_back.specs.declared.Code.{Code}
use Rattle.what_comes_back.specs.declared.Code.TheVariants.{LeftoverMacro}

-- a walk and its two tables, the labels bound and the uses, to those after
abbrev pub State : Type 0
State = Walk × List ℕ × List ℕ

abbrev pub Step : Type 0
Step = Walk → List ℕ → List ℕ → State

-- a step, so often
unfoldable pub times : Step → ℕ → Step
times step zero w bound uses = (w, bound, uses)
times step (suc k) w bound uses = let g = step w bound uses in times step k g.0 g.1 g.2

-- a count, and as many steps
unfoldable pub many : Step → List ℕ → Step
many step s w bound uses = times step (number_at s w.at) (moved w (past_at s w.at 2)) bound uses

-- "A Dependent field binds its label for the fields after it.": after its own combinator
unfoldable pub field_by : Step → List ℕ → Step
field_by deep s w bound uses =
    let kind = byte_at s w.at in
    let a = past_at s w.at 1 in
    let e = name_past_of s a in
    let g = deep (moved w e) bound uses in
    let h = bind_by s a g.0 g.1 in
    pick (eqb kind 3) (moved w (text_past_of s e), bound, uses)
    (pick (eqb kind 2) (h.0, h.1, g.2) (g.0, g.1, g.2))

-- a struct's labels are bound no longer behind it
unfoldable pub fields_by : Step → List ℕ → Step
fields_by deep s w bound uses =
    let g = many (field_by deep s) s w bound uses in
    (unbound w g.0, g.1, g.2)

unfoldable pub wrap_by : Step → List ℕ → Step
wrap_by deep s w bound uses =
    let g = deep (moved w (text_past_of s w.at)) bound uses in
    (moved g.0 (text_past_of s g.0.at), g.1, g.2)

unfoldable pub case_by : Step → List ℕ → ℕ → Step
case_by deep s kind w bound uses = deep (moved w (label_past_of s w.at kind)) bound uses

unfoldable pub choice_by : Step → List ℕ → Step
choice_by deep s w bound uses =
    let g = selector_by s bound w uses in
    let a = g.0.at in
    many (case_by deep s (byte_at s a)) s (moved g.0 (past_at s a 1)) bound g.1

unfoldable pub array_by : Step → List ℕ → Step
array_by deep s w bound uses =
    let g = length_by s bound w uses in
    deep g.0 bound g.1

-- "leftover macro invocation met while collecting": its arguments are gone over with no use recorded, since a count past the table's end takes none
unfoldable pub macro_by : Step → List ℕ → Step
macro_by arg s w bound uses =
    let g = many arg s (counted w (name_past_of s w.at) (length uses + 1)) bound uses in
    (walk g.0.at w.n w.b true, g.1, g.2)

-- an inner: `deep` is a combinator directly inside, and `arg` a macro's argument
unfoldable pub inner_by : Step → Step → List ℕ → Step
inner_by deep arg s w bound uses =
    let tag = byte_at s w.at in
    let a = past_at s w.at 1 in
    let v = moved w a in
    let l = length_by s bound v uses in
    let c = call_by s bound v uses in
    pick (eqb tag 4) (fields_by deep s v bound uses)
    (pick (eqb tag 5) (wrap_by deep s v bound uses)
    (pick (eqb tag 7) (choice_by deep s v bound uses)
    (pick (eqb tag 8) (deep v bound uses)
    (pick (eqb tag 9) (array_by deep s v bound uses)
    (pick (eqb tag 10) (l.0, bound, l.1)
    (pick (eqb tag 12) (deep v bound uses)
    (pick (eqb tag 15) (c.0, bound, c.1)
    (pick (eqb tag 16) (macro_by arg s v bound uses)
    (moved w (text_past_of s a), bound, uses)))))))))

-- "Chains are collected only on Bytes and Tail.": a chain on an inner with this tag. On another tag it is gone over with no use recorded, and what it meets is forgotten
unfoldable pub chain_by : Step → ℕ → Step
chain_by deep tag w bound uses =
    let g = deep (counted w w.at (length uses + 1)) bound uses in
    pick (stands_on_of tag) (deep w bound uses) (moved w g.0.at, g.1, g.2)

-- what stands behind the inner that ends at g: a flag, and a chain where it is 1. The inner's tag was `tag`
unfoldable pub tail_by : Step → List ℕ → ℕ → State → State
tail_by deep s tag g =
    let u = moved g.0 (past_at s g.0.at 1) in
    pick (eqb (byte_at s g.0.at) 1) (chain_by deep tag u g.1 g.2) (u, g.1, g.2)

unfoldable pub combinator_by : Bool → Step → Step → List ℕ → Step
combinator_by none deep arg s w bound uses =
    pick none (w, bound, uses) (tail_by deep s (byte_at s w.at) (inner_by deep arg s w bound uses))

unfoldable pub argument_by : Bool → Step → Step → List ℕ → Step
argument_by none deep arg s w bound uses = pick none (w, bound, uses) (inner_by deep arg s w bound uses)

-- with so many levels left
unfoldable mutual
  pub combinator_at : ℕ → List ℕ → Step
  combinator_at zero s w bound uses = combinator_by true (λ v l m. (v, l, m)) (λ v l m. (v, l, m)) s w bound uses
  combinator_at (suc k) s w bound uses = combinator_by false (λ v l m. combinator_at k s v l m) (λ v l m. argument_at k s v l m) s w bound uses

  pub argument_at : ℕ → List ℕ → Step
  argument_at zero s w bound uses = argument_by true (λ v l m. (v, l, m)) (λ v l m. (v, l, m)) s w bound uses
  argument_at (suc k) s w bound uses = argument_by false (λ v l m. combinator_at k s v l m) (λ v l m. argument_at k s v l m) s w bound uses

abbrev pub inner_at : ℕ → List ℕ → Step
inner_at k s w bound uses = inner_by (combinator_at k s) (argument_at k s) s w bound uses

abbrev pub chain_at : ℕ → List ℕ → ℕ → Step
chain_at k s tag w bound uses = chain_by (combinator_at k s) tag w bound uses

abbrev pub field_at : ℕ → List ℕ → Step
field_at k s w bound uses = field_by (combinator_at k s) s w bound uses

abbrev pub fields_at : ℕ → List ℕ → Step
fields_at k s w bound uses = fields_by (combinator_at k s) s w bound uses

abbrev pub wrap_at : ℕ → List ℕ → Step
wrap_at k s w bound uses = wrap_by (combinator_at k s) s w bound uses

abbrev pub case_at : ℕ → List ℕ → ℕ → Step
case_at k s kind w bound uses = case_by (combinator_at k s) s kind w bound uses

abbrev pub cases_at : ℕ → List ℕ → ℕ → Step
cases_at k s kind w bound uses = many (case_at k s kind) s w bound uses

abbrev pub choice_at : ℕ → List ℕ → Step
choice_at k s w bound uses = choice_by (combinator_at k s) s w bound uses

abbrev pub array_at : ℕ → List ℕ → Step
array_at k s w bound uses = array_by (combinator_at k s) s w bound uses

abbrev pub arguments_at : ℕ → List ℕ → Step
arguments_at k s w bound uses = many (argument_at k s) s w bound uses

abbrev pub macro_at : ℕ → List ℕ → Step
macro_at k s w bound uses = macro_by (argument_at k s) s w bound uses

-- the walk that starts at a combinator with nothing bound, and its answer
unfoldable pub collect_at : List ℕ → ℕ → List ℕ → List ℕ → State
collect_at s at bound uses = combinator_at 64 s (walk at 0 0 false) bound uses

abbrev pub answer_of : Walk → Result ℕ Code
answer_of w = pick w.leftover (Err LeftoverMacro) (Ok w.n)
