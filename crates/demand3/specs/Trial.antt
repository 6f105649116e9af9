-- Two books, the result that each should have, and results that demand 3 rules out: each is what a lift with one error would leave.
use Rattle.std.specs.Prelude.{◌≡◌, List, [], ◌∷◌, ◌++◌}
use Prim.Native.String.{String}
use Rattle.definition.specs.Tree.{Combinator, plain, struct, choice, by, enums, Fields, no_field, const, no_case, Param, Definition}
use Rattle.definition.specs.Utf8.{utf8}
use Rattle.definition.specs.Out.{done}
use Rattle.definition.specs.Write.{w_book}
use Rattle.definition.specs.Answer.{elaborated}
use Rattle.definition.specs.Notation.{Int, Enum, Bits, Nothing, Bytes, Vec, Array, Call, ord, dep, on, one, param, fmt}
use Rattle.demand3.specs.Demand3.{Demand3}
use Rattle.demand3.specs.Delivered.{DeliveredFrom}

abbrev call : String → List String → Combinator
call n xs = plain (Call n xs)

-- one body for each place of a use: a length of Bytes, a length of Array, a selector, an argument of a call
abbrev pub in_bytes : Combinator
in_bytes = one "x" (plain (Bytes ("n" ∷ [])))

abbrev pub in_array : Combinator
in_array = one "x" (plain (Array ("n" ∷ []) (plain Nothing)))

abbrev pub in_selector : Combinator
in_selector = plain (choice (by (utf8 "n.k")) enums (on "A" (plain Nothing) no_case))

abbrev pub in_call : Combinator
in_call = one "x" (call "m" ("n.k" ∷ []))

-- the list after expansion: a format with a Vec of an Enum, a Bits, two structs under one label, a choice and a struct with a call
abbrev pub list : List Definition
list = fmt "m" [] (plain (struct (
    dep "n" (plain (Int "i")) (
    ord "e" (plain (Vec (plain Enum))) (
    ord "b" (plain Bits) (
    ord "h" in_bytes (
    ord "h" in_array (
    ord "s" in_selector (
    ord "c" in_call no_field))))))))) ∷ []

-- what a result may have right or wrong
pub record Result : Type 0 where
  -- what stands in the Vec, and what stands at `b`
  pub item : Combinator
  pub bits : Combinator
  -- the second name made of `m_h`
  pub second : String
  -- the parameters of the last four
  pub of_bytes : List Param
  pub of_array : List Param
  pub of_selector : List Param
  pub of_call : List Param

abbrev pub kept : Result → List Definition
kept r = fmt "m" [] (plain (struct (
    dep "n" (plain (Int "i")) (
    ord "e" (call "m_e" []) (
    ord "b" r.bits (
    ord "h" (call "m_h" ("n" ∷ [])) (
    ord "h" (call r.second ("n" ∷ [])) (
    ord "s" (call "m_s" ("n" ∷ [])) (
    ord "c" (call "m_c" ("n" ∷ [])) no_field))))))))) ∷ []

abbrev pub lifted : Result → List Definition
lifted r = fmt "m_e_item" [] (plain Enum)
    ∷ fmt "m_e" [] (plain (Vec r.item))
    ∷ fmt "m_b" [] (plain Bits)
    ∷ fmt "m_h" r.of_bytes in_bytes
    ∷ fmt r.second r.of_array in_array
    ∷ fmt "m_s" r.of_selector in_selector
    ∷ fmt "m_c" r.of_call in_call ∷ []

abbrev n : Param
n = param "n" (Int "i")

abbrev pub right : Result
right = record {
  item = call "m_e_item" [];
  bits = call "m_b" [];
  second = "m_h_0";
  of_bytes = n ∷ [];
  of_array = n ∷ [];
  of_selector = n ∷ [];
  of_call = n ∷ [];
}

abbrev pub Meets : Result → Type 0
Meets r = Demand3 list (kept r) (lifted r)

abbrev from : Combinator → Combinator → String → Result
from item bits second = record { item = item; bits = bits; second = second; of_array = n ∷ []; of_selector = n ∷ []; of_call = n ∷ []; of_bytes = n ∷ [] }

abbrev with : List Param → List Param → List Param → List Param → Result
with b a s c = record { item = right.item; bits = right.bits; second = right.second; of_bytes = b; of_array = a; of_selector = s; of_call = c }

-- the second book: two names to hand down, two layouts that are alike, one that is not, and a Const
abbrev pub alike : Combinator
alike = one "x" (plain (Bytes ("k" ∷ "n" ∷ [])))

abbrev pub unlike : Combinator
unlike = one "y" (plain (Bytes ("k" ∷ "n" ∷ [])))

abbrev pub mark : String → Fields
mark x = const (utf8 "z") (utf8 x) no_field

abbrev pub packed : Combinator → Combinator → Combinator → Fields → List Definition
packed a b c last = fmt "p" [] (plain (struct (
    dep "k" (plain (Int "i")) (
    dep "n" (plain (Int "i")) (
    ord "a" a (
    ord "b" b (
    ord "c" c last))))))) ∷ []

abbrev pub source : List Definition
source = packed alike alike unlike (mark "1")

-- its result: each call hands both names down
abbrev handing : String → Combinator
handing x = call x ("k" ∷ "n" ∷ [])

abbrev both : List Param
both = param "k" (Int "i") ∷ n ∷ []

abbrev pub packing : Combinator → List Definition
packing a = packed a (handing "p_b") (handing "p_c") (mark "1")

abbrev pub made : List Param → Combinator → String → Combinator → List Definition
made ps a x c = fmt "p_a" ps a ∷ fmt "p_b" both alike ∷ fmt x both c ∷ []

abbrev pub right_made : List Definition
right_made = made both alike "p_c" unlike

-- each right one is given, the first is shown to meet demand 3 by hand, and each wrong one does not meet it
pub record Trial : Type 0 where
  pub met : Meets right
  pub given : elaborated (w_book list) ≡ done (record { kept = kept right; lifted = lifted right })
  pub enum_kept_in_a_vec : Meets (from (plain Enum) right.bits right.second) → ⊥
  pub bits_not_lifted : Meets (from right.item (plain Bits) right.second) → ⊥
  pub name_taken_twice : Meets (from right.item right.bits "m_h") → ⊥
  pub name_of_a_format : Meets (from right.item right.bits "m") → ⊥
  pub parameter_too_many : Meets (with (n ∷ param "e" Nothing ∷ []) (n ∷ []) (n ∷ []) (n ∷ [])) → ⊥
  pub parameter_twice : Meets (with (n ∷ n ∷ []) (n ∷ []) (n ∷ []) (n ∷ [])) → ⊥
  -- one too few, for each place of a use
  pub bytes_forgotten : Meets (with [] (n ∷ []) (n ∷ []) (n ∷ [])) → ⊥
  pub array_forgotten : Meets (with (n ∷ []) [] (n ∷ []) (n ∷ [])) → ⊥
  pub selector_forgotten : Meets (with (n ∷ []) (n ∷ []) [] (n ∷ [])) → ⊥
  pub argument_forgotten : Meets (with (n ∷ []) (n ∷ []) (n ∷ []) []) → ⊥
  pub given_packed : elaborated (w_book source) ≡ done (record { kept = packing (handing "p_a"); lifted = right_made })
  -- putting back gives another list
  pub field_dropped : Demand3 source (packed (handing "p_a") (handing "p_b") (handing "p_c") no_field) right_made → ⊥
  pub bodies_exchanged : Demand3 source (packing (handing "p_a")) (made both unlike "p_c" alike) → ⊥
  pub text_changed : Demand3 source (packed (handing "p_a") (handing "p_b") (handing "p_c") (mark "2")) right_made → ⊥
  -- another definition stands between the two that have one name
  pub name_taken_again : Demand3 source (packed (handing "p_a") (handing "p_b") (handing "p_a") (mark "1")) (made both alike "p_a" unlike) → ⊥
  pub first_parameter_too_many : Demand3 source (packing (call "p_a" ("e" ∷ "k" ∷ "n" ∷ []))) (made (param "e" Nothing ∷ both) alike "p_c" unlike) → ⊥
  -- a lifted definition that nobody calls, or itself alone; one that is called for two layouts that are alike
  pub nobody_calls : Demand3 source (packing (handing "p_a")) (right_made ++ (fmt "p_d" [] (plain Enum) ∷ [])) → ⊥
  pub calls_itself : Demand3 source (packing (handing "p_a")) (right_made ++ (fmt "p_d" [] (call "p_d" []) ∷ [])) → ⊥
  pub called_twice : Demand3 source (packed (handing "p_a") (handing "p_a") (handing "p_c") (mark "1")) (fmt "p_a" both alike ∷ fmt "p_c" both unlike ∷ []) → ⊥
  -- arguments that are not the parameters, or not in their order
  pub other_arguments : Demand3 source (packing (call "p_a" ("k" ∷ "k" ∷ []))) right_made → ⊥
  pub other_order : Demand3 source (packing (call "p_a" ("n" ∷ "k" ∷ []))) right_made → ⊥
  -- of the empty book: an answer that counts a definition and a lift, and one that counts a lift alone
  pub counted_too_many : DeliveredFrom (done []) (record { code = 0; size = 2; definitions = 1; lifts = 1; at = 0 }) (0 ∷ 0 ∷ []) → ⊥
  pub lifts_too_many : DeliveredFrom (done []) (record { code = 0; size = 2; definitions = 0; lifts = 1; at = 0 }) (0 ∷ 0 ∷ []) → ⊥
