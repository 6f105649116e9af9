-- The walk that fills the table of ends, by position and total on any bytes: where it stands then and what the table holds. It mirrors the code.
-- That it leaves a right table right is shown in `measure_book`, proofs/measure_book/Measured.antt; which places have an entry is nobody's business for that, only for speed.
use Rattle.std.specs.Prelude.{List, Bool, true, false, ℕ, zero, suc, eqb, leb, length, set}
use Rattle.layout.specs.items.At.{byte_at, past_at, number_at, name_past_of, text_past_of, list_past_of, length_past_of, selector_past_of, label_past_of, pick}
use Rattle.walker.specs.walk.Steps.{text_or_length_of}

-- a place and the table
abbrev pub State : Type 0
State = ℕ × List ℕ

abbrev pub Step : Type 0
Step = ℕ → List ℕ → State

-- the table with an end, as far as it reaches and two bytes tell it
unfoldable pub kept : List ℕ → ℕ → ℕ → List ℕ
kept t at end = pick (leb (length t) at) t (pick (leb 65536 end) t (set t at end))

-- a step, so often
unfoldable pub times : Step → ℕ → Step
times step zero at t = (at, t)
times step (suc k) at t = let g = step at t in times step k g.0 g.1

-- a count, and as many steps
unfoldable pub many : Step → List ℕ → Step
many step s at t = times step (number_at s at) (past_at s at 2) t

unfoldable pub field_by : Step → List ℕ → Step
field_by deep s at t =
    let b = name_past_of s (past_at s at 1) in
    pick (eqb (byte_at s at) 3) (text_past_of s b, t) (deep b t)

unfoldable pub wrap_by : Step → List ℕ → Step
wrap_by deep s at t =
    let g = deep (text_past_of s at) t in
    (text_past_of s g.0, g.1)

unfoldable pub case_by : Step → List ℕ → ℕ → Step
case_by deep s kind at t = deep (label_past_of s at kind) t

unfoldable pub choice_by : Step → List ℕ → Step
choice_by deep s at t =
    let a = selector_past_of s at in
    many (case_by deep s (byte_at s a)) s (past_at s a 1) t

-- behind the tag of an inner. `deep` is a combinator there, and `arg` a macro's argument
unfoldable pub behind_by : Step → Step → List ℕ → ℕ → Step
behind_by deep arg s tag at t =
    pick (eqb tag 4) (many (field_by deep s) s at t)
    (pick (eqb tag 5) (wrap_by deep s at t)
    (pick (eqb tag 7) (choice_by deep s at t)
    (pick (eqb tag 8) (deep at t)
    (pick (eqb tag 9) (deep (length_past_of s at) t)
    (pick (eqb tag 12) (deep at t)
    (pick (eqb tag 15) (list_past_of s (name_past_of s at), t)
    (pick (eqb tag 16) (many arg s (name_past_of s at) t)
    (text_or_length_of s at tag, t))))))))

unfoldable pub inner_by : Step → Step → List ℕ → Step
inner_by deep arg s at t =
    let g = behind_by deep arg s (byte_at s at) (past_at s at 1) t in
    (g.0, kept g.1 at g.0)

-- what stands behind the inner that ends at g: a flag, and a chain where it is 1
unfoldable pub tail_by : Step → List ℕ → State → State
tail_by deep s g =
    let a = past_at s g.0 1 in
    pick (eqb (byte_at s g.0) 1) (deep a g.1) (a, g.1)

unfoldable pub combinator_by : Bool → Step → Step → List ℕ → Step
combinator_by none deep arg s at t = pick none (at, t) (tail_by deep s (inner_by deep arg s at t))

unfoldable pub argument_by : Bool → Step → Step → List ℕ → Step
argument_by none deep arg s at t = pick none (at, t) (inner_by deep arg s at t)

-- with so many levels left
unfoldable mutual
  pub combinator_at : ℕ → List ℕ → Step
  combinator_at zero s at t = combinator_by true (λ p u. (p, u)) (λ p u. (p, u)) s at t
  combinator_at (suc k) s at t = combinator_by false (λ p u. combinator_at k s p u) (λ p u. argument_at k s p u) s at t

  pub argument_at : ℕ → List ℕ → Step
  argument_at zero s at t = argument_by true (λ p u. (p, u)) (λ p u. (p, u)) s at t
  argument_at (suc k) s at t = argument_by false (λ p u. combinator_at k s p u) (λ p u. argument_at k s p u) s at t

abbrev pub inner_at : ℕ → List ℕ → Step
inner_at k s at t = inner_by (combinator_at k s) (argument_at k s) s at t

abbrev pub behind_at : ℕ → List ℕ → ℕ → Step
behind_at k s tag at t = behind_by (combinator_at k s) (argument_at k s) s tag at t

abbrev pub field_at : ℕ → List ℕ → Step
field_at k s at t = field_by (combinator_at k s) s at t

abbrev pub fields_at : ℕ → List ℕ → Step
fields_at k s at t = many (field_at k s) s at t

abbrev pub wrap_at : ℕ → List ℕ → Step
wrap_at k s at t = wrap_by (combinator_at k s) s at t

abbrev pub case_at : ℕ → List ℕ → ℕ → Step
case_at k s kind at t = case_by (combinator_at k s) s kind at t

abbrev pub choice_at : ℕ → List ℕ → Step
choice_at k s at t = choice_by (combinator_at k s) s at t

abbrev pub arguments_at : ℕ → List ℕ → Step
arguments_at k s at t = many (argument_at k s) s at t
