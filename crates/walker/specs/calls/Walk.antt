-- The walk over a combinator by position, total on any bytes: what the walker answers and what the row of marks holds then.
-- It mirrors the code; that it is the walk over the combinator's tree is shown in proofs/Link.antt.
use Rattle.std.specs.Prelude.{List, Bool, true, false, ℕ, zero, suc, ◌+◌, eqb, length}
use Rattle.layout.specs.items.At.{byte_at, past_at, number_at, name_past_of, text_past_of, length_past_of, selector_past_of, label_past_of, pick}
use Rattle.walker.specs.declared.walk.Walk.{Walk}
use Rattle.walker.specs.marks.Steps.{State, mark_at, call_at}
use Rattle.walker.specs.walk.Steps.{moved, entered, silent, back, chained_to_of, text_or_length_of}

abbrev pub Step : Type 0
Step = Walk → List ℕ → State

-- a step, so often
unfoldable pub times : Step → ℕ → Step
times step zero w m = (w, m)
times step (suc k) w m = let g = step w m in times step k g.0 g.1

-- a count, and as many steps
unfoldable pub many : Step → List ℕ → Step
many step s w m = times step (number_at s w.at) (moved w (past_at s w.at 2)) m

unfoldable pub field_by : Step → List ℕ → Step
field_by deep s w m =
    let b = name_past_of s (past_at s w.at 1) in
    pick (eqb (byte_at s w.at) 3) (moved w (text_past_of s b), m) (deep (moved w b) m)

unfoldable pub wrap_by : Step → List ℕ → Step
wrap_by deep s w m =
    let g = deep (moved w (text_past_of s w.at)) m in
    (moved g.0 (text_past_of s g.0.at), g.1)

unfoldable pub case_by : Step → List ℕ → ℕ → Step
case_by deep s kind w m = deep (moved w (label_past_of s w.at kind)) m

unfoldable pub choice_by : Step → List ℕ → Step
choice_by deep s w m =
    let a = selector_past_of s w.at in
    many (case_by deep s (byte_at s a)) s (moved w (past_at s a 1)) m

unfoldable pub array_by : Step → List ℕ → Step
array_by deep s w m = deep (moved w (length_past_of s w.at)) m

-- the arguments leave no mark, and the walk's count and flag are as before them
unfoldable pub macro_by : Step → List ℕ → ℕ → Step
macro_by arg s at w m =
    let g = many arg s (silent w (name_past_of s w.at) (length m + 1)) m in
    mark_at (back w g.0) at g.0.at g.1

-- an inner with k levels left below it. `deep` is a combinator there, and `arg` a macro's argument
unfoldable pub inner_by : ℕ → Step → Step → List ℕ → Step
inner_by k deep arg s w m =
    let tag = byte_at s w.at in
    let a = past_at s w.at 1 in
    let v = entered w a k in
    pick (eqb tag 4) (many (field_by deep s) s v m)
    (pick (eqb tag 5) (wrap_by deep s v m)
    (pick (eqb tag 7) (choice_by deep s v m)
    (pick (eqb tag 8) (deep v m)
    (pick (eqb tag 9) (array_by deep s v m)
    (pick (eqb tag 12) (deep v m)
    (pick (eqb tag 15) (call_at s v w.at m)
    (pick (eqb tag 16) (macro_by arg s w.at v m)
    (moved v (text_or_length_of s a tag), m))))))))

-- what stands behind the inner that ends at g: a flag, and a chain where it is 1. The inner's tag was `tag`
unfoldable pub tail_by : Step → List ℕ → ℕ → State → State
tail_by deep s tag g =
    let u = moved g.0 (past_at s g.0.at 1) in
    pick (eqb (byte_at s g.0.at) 1) (deep (chained_to_of u tag) g.1) (u, g.1)

unfoldable pub combinator_by : Bool → ℕ → Step → Step → List ℕ → Step
combinator_by none k deep arg s w m = pick none (w, m) (tail_by deep s (byte_at s w.at) (inner_by k deep arg s w m))

unfoldable pub argument_by : Bool → ℕ → Step → Step → List ℕ → Step
argument_by none k deep arg s w m = pick none (w, m) (inner_by k deep arg s w m)

-- with so many levels left
unfoldable mutual
  pub combinator_at : ℕ → List ℕ → Step
  combinator_at zero s w m = combinator_by true zero (λ v l. (v, l)) (λ v l. (v, l)) s w m
  combinator_at (suc k) s w m = combinator_by false k (λ v l. combinator_at k s v l) (λ v l. argument_at k s v l) s w m

  pub argument_at : ℕ → List ℕ → Step
  argument_at zero s w m = argument_by true zero (λ v l. (v, l)) (λ v l. (v, l)) s w m
  argument_at (suc k) s w m = argument_by false k (λ v l. combinator_at k s v l) (λ v l. argument_at k s v l) s w m

abbrev pub inner_at : ℕ → List ℕ → Step
inner_at k s w m = inner_by k (combinator_at k s) (argument_at k s) s w m

abbrev pub field_at : ℕ → List ℕ → Step
field_at k s w m = field_by (combinator_at k s) s w m

abbrev pub fields_at : ℕ → List ℕ → Step
fields_at k s w m = many (field_at k s) s w m

abbrev pub wrap_at : ℕ → List ℕ → Step
wrap_at k s w m = wrap_by (combinator_at k s) s w m

abbrev pub case_at : ℕ → List ℕ → ℕ → Step
case_at k s kind w m = case_by (combinator_at k s) s kind w m

abbrev pub cases_at : ℕ → List ℕ → ℕ → Step
cases_at k s kind w m = many (case_at k s kind) s w m

abbrev pub choice_at : ℕ → List ℕ → Step
choice_at k s w m = choice_by (combinator_at k s) s w m

abbrev pub array_at : ℕ → List ℕ → Step
array_at k s w m = array_by (combinator_at k s) s w m

abbrev pub arguments_at : ℕ → List ℕ → Step
arguments_at k s w m = many (argument_at k s) s w m

abbrev pub macro_at : ℕ → List ℕ → ℕ → Step
macro_at k s at w m = macro_by (argument_at k s) s at w m

-- an inner, gone over with nothing recorded
unfoldable pub skip_at : ℕ → List ℕ → Step
skip_at k s w m =
    let g = inner_at k s (silent w w.at (length m + 1)) m in
    (back w g.0, g.1)
