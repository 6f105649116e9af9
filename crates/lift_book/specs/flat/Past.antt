-- Where what stands at a place ends, and None where it is not calm, total on any bytes. It mirrors the code; that it is the test on trees is shown in proofs/Past.antt.
use Rattle.std.specs.Prelude.{List, Bool, true, false, ℕ, zero, suc, eqb, Option, Some, None, is_some, option_and_then}
use Rattle.layout.specs.items.At.{byte_at, past_at, number_at, name_past_of, text_past_of, list_past_of, length_past_of, selector_past_of, label_past_of, pick}
use Rattle.walker.specs.walk.Steps.{text_or_length_of}
use Rattle.walker.specs.ends.Ends.{inner_end_of}

-- from a place to the one behind, if there is one
abbrev pub Step : Type 0
Step = ℕ → Option ℕ

-- a step, so often; after None there is no other
unfoldable pub times : Step → ℕ → Step
times step zero at = Some at
times step (suc k) at = option_and_then (times step k) (step at)

-- a count, and as many steps
unfoldable pub many : Step → List ℕ → Step
many step s at = times step (number_at s at) (past_at s at 2)

-- `deep` is a combinator, here and below
unfoldable pub wrap_by : Step → List ℕ → Step
wrap_by deep s at = option_and_then (λ e. Some (text_past_of s e)) (deep (text_past_of s at))

unfoldable pub inner_by : Step → List ℕ → Step
inner_by deep s at =
    let tag = byte_at s at in
    let a = past_at s at 1 in
    pick (eqb tag 3) None
    (pick (eqb tag 4) None
    (pick (eqb tag 5) (wrap_by deep s a)
    (pick (eqb tag 6) None
    (pick (eqb tag 7) None
    (pick (eqb tag 8) (deep a)
    (pick (eqb tag 9) (deep (length_past_of s a))
    (pick (eqb tag 12) (deep a)
    (pick (eqb tag 15) (Some (list_past_of s (name_past_of s a)))
    (pick (eqb tag 16) (Some (inner_end_of s at))
    (Some (text_or_length_of s a tag)))))))))))

-- what stands behind the inner that ends at e: a flag, and a chain where it is 1
unfoldable pub tail_by : Step → List ℕ → Step
tail_by deep s e = pick (eqb (byte_at s e) 1) (deep (past_at s e 1)) (Some (past_at s e 1))

unfoldable pub combinator_by : Bool → Step → List ℕ → Step
combinator_by none deep s at = pick none None (option_and_then (tail_by deep s) (inner_by deep s at))

-- with so many levels left
unfoldable pub calm_past_of : ℕ → List ℕ → Step
calm_past_of zero s at = combinator_by true (λ a. None) s at
calm_past_of (suc k) s at = combinator_by false (λ a. calm_past_of k s a) s at

abbrev pub inner_past_of : ℕ → List ℕ → Step
inner_past_of k s at = inner_by (calm_past_of k s) s at

abbrev pub wrap_past_of : ℕ → List ℕ → Step
wrap_past_of k s at = wrap_by (calm_past_of k s) s at

abbrev pub tail_past_of : ℕ → List ℕ → Step
tail_past_of k s e = tail_by (calm_past_of k s) s e

-- the root of a body, which has 64 levels
unfoldable pub field_by : Step → List ℕ → Step
field_by deep s at =
    let b = name_past_of s (past_at s at 1) in
    pick (eqb (byte_at s at) 3) (Some (text_past_of s b)) (deep b)

unfoldable pub case_by : Step → List ℕ → ℕ → Step
case_by deep s kind at = deep (label_past_of s at kind)

unfoldable pub choice_by : Step → List ℕ → Step
choice_by deep s at =
    let a = selector_past_of s at in
    many (case_by deep s (byte_at s a)) s (past_at s a 1)

unfoldable pub root_by : Step → List ℕ → Step
root_by deep s at =
    let tag = byte_at s at in
    let a = past_at s at 1 in
    pick (eqb tag 3) (Some (text_past_of s a))
    (pick (eqb tag 4) (many (field_by deep s) s a)
    (pick (eqb tag 6) (Some (text_past_of s a))
    (pick (eqb tag 7) (choice_by deep s a) (inner_by deep s at))))

abbrev pub field_past_of : List ℕ → Step
field_past_of s at = field_by (calm_past_of 63 s) s at

abbrev pub fields_past_of : List ℕ → Step
fields_past_of s at = many (field_past_of s) s at

abbrev pub case_past : List ℕ → ℕ → Step
case_past s kind at = case_by (calm_past_of 63 s) s kind at

abbrev pub choice_past_of : List ℕ → Step
choice_past_of s at = choice_by (calm_past_of 63 s) s at

abbrev pub root_past_of : List ℕ → Step
root_past_of s at = root_by (calm_past_of 63 s) s at

-- the body at a place, if it is flat
unfoldable pub body_past_of : List ℕ → Step
body_past_of s at = option_and_then (tail_past_of 63 s) (root_past_of s at)

-- whether it is
unfoldable pub flat_at : List ℕ → ℕ → Bool
flat_at s at = is_some (body_past_of s at)
