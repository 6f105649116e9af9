-- Document 02 b, "Macros that call macros": a nested mode beside the present one.
use Rattle.std.specs.Prelude.{List, [], ◌∷◌, Bool, true, false, ◌&&◌, ◌||◌, not, ℕ, zero, suc, length}
use Rattle.definition.specs.Code.{number, macro_left}
use Rattle.definition.specs.Out.{Out, refused, done, ◌>>=◌}
use Rattle.definition.specs.Tree.{Name, Combinator, plain, chained, Inner, leaf, struct, choice, shell, bytes, invocation, macro_invocation, Fields, no_field, field, const, Cases, no_case, case, Definition}
use Rattle.definition.specs.Names.{eq_name}
use Rattle.definition.specs.Size.{size_book, levels_book}
use Rattle.definition.specs.Write.{w_book}
use Rattle.definition.specs.Macros.{Macro, macros, expand_all, expand_list, expand_book}
-- "the pass of document 01", with any macros: a word of this mode too
unfoldable pub use Rattle.definition.specs.Macros.{pass}
use Rattle.definition.specs.Bodies.{every_body}
use Rattle.definition.specs.Contents.{read_book_of}
use Rattle.definition.specs.Lift.{lift_book_of}
use Rattle.definition.specs.Answer.{source, Result, outcome, expanded_by, lifted_from, attempt_by, Answer, answered, fault_of, fault_at, filled}
use Rattle.definition.specs.Listing.{listed}

-- every macro call passes a test, where the pass reaches (document 01, rule 2)
unfoldable mutual
  pub every_macro_call : Combinator → (Name → Bool) → Bool
  every_macro_call (plain i) test = every_macro_call_i i test
  every_macro_call (chained i c) test = every_macro_call_i i test && every_macro_call c test

  pub every_macro_call_i : Inner → (Name → Bool) → Bool
  every_macro_call_i (leaf k x) test = true
  every_macro_call_i (struct f) test = every_macro_call_f f test
  every_macro_call_i (choice s k f) test = every_macro_call_c f test
  every_macro_call_i (shell x c) test = every_macro_call c test
  every_macro_call_i (bytes l) test = true
  every_macro_call_i (invocation n a) test = true
  every_macro_call_i (macro_invocation n a) test = test n

  pub every_macro_call_f : Fields → (Name → Bool) → Bool
  every_macro_call_f no_field test = true
  every_macro_call_f (field k l c f) test = every_macro_call c test && every_macro_call_f f test
  every_macro_call_f (const l x f) test = every_macro_call_f f test

  pub every_macro_call_c : Cases → (Name → Bool) → Bool
  every_macro_call_c no_case test = true
  every_macro_call_c (case l c f) test = every_macro_call c test && every_macro_call_c f test
  -- There is none for Inners: "Parameter types and macro arguments are not" walked.
  -- Known calls inside macro arguments are where no pass reaches:
  -- they stay, and do not count.

unfoldable pub is_macro : List Macro → Name → Bool
is_macro [] n = false
is_macro (m ∷ ms) n = eq_name m.name n || is_macro ms n

-- "no known macro call stands where the pass reaches"
unfoldable pub settled : List Macro → List Definition → Bool
settled ms ds = every_body (λ c. every_macro_call c (λ n. not (is_macro ms n))) ds

-- "until no known macro call stands where the pass reaches": else what comes next
unfoldable pub until : Bool → List Definition → Out (List Definition) → Out (List Definition)
until true ds next = done ds
until false ds next = next

-- "run it again on its result with the same macros", at most so many times; "12, a known call left after pass 16". The pass has code 6 in it: "Code 6 is tested in every pass"
unfoldable pub again : ℕ → List Macro → List Definition → Out (List Definition)
again zero ms ds = until (settled ms ds) ds (refused macro_left)
again (suc left) ms ds = let next = (pass ms ds >>= λ es. again left ms es) in until (settled ms ds) ds next

-- "At most 16 passes": the pass of document 01, and 15 more
unfoldable pub nested_list : List Definition → Out (List Definition)
nested_list ds = do
  es ← expand_list ds
  again 15 (macros ds []) es

-- the expanded list "after the last pass": codes 2 to 6, and 12 "after 6 and before any lift"
unfoldable pub expanded_nested : List ℕ → Out (List Definition)
expanded_nested book = expanded_by nested_list book

-- then document 01's steps
unfoldable pub elaborated_nested : List ℕ → Out Result
elaborated_nested book = lifted_from (expanded_nested book)

unfoldable pub attempt_nested_of : List ℕ → ℕ → ℕ → Out Result
attempt_nested_of book outLength workLength = attempt_by elaborated_nested book outLength workLength

-- what `listing --nested` prints
abbrev pub listing_nested : List ℕ → List ℕ
listing_nested book = listed (fault_of book) (elaborated_nested book)

-- the answer of document 01's call
unfoldable pub answer_nested : List ℕ → ℕ → ℕ → Answer
unfolding number answered fault_at outcome source attempt_nested_of elaborated_nested expanded_nested nested_list again until pass settled is_macro every_macro_call every_body eq_name macros expand_all expand_list expand_book size_book levels_book read_book_of w_book lift_book_of
answer_nested book outLength workLength = answered (fault_at book workLength) (attempt_nested_of book outLength workLength)

-- what the output holds afterwards; of the work area it is `zeroed` of document 01
unfoldable pub output_nested : List ℕ → List ℕ → ℕ → List ℕ
unfolding filled outcome source attempt_nested_of elaborated_nested expanded_nested nested_list again until pass settled is_macro every_macro_call every_body eq_name macros expand_all expand_list expand_book size_book levels_book read_book_of w_book lift_book_of
output_nested book out workLength = filled (attempt_nested_of book (length out) workLength) out
