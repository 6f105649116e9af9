-- What bodies are after lifting, and which definitions come out of them: functions of the tree, its place and the records. Document 01, "Lifting rules".
use Rattle.std.specs.Prelude.{◌≡◌, ◌⊎◌, Bool, true, false, List, [], ◌∷◌, ◌++◌, ℕ, ◌+◌, ◌*◌, ◌≤◌, length}
use Rattle.definition.specs.Res.{Maybe, absent, just}
use Rattle.definition.specs.Tree.{Name, Text, Shell, Selector, CaseKind, Combinator, plain, chained, Inner, leaf, struct, choice, shell, bytes, invocation, macro_invocation, Fields, no_field, field, const, Cases, no_case, case, Param, Definition, format, constant, byte_order, macro}
use Rattle.definition.specs.Names.{sorted}
use Rattle.definition.specs.Write.{w_name, w_text, w_selector, w_label, w_open, size_of}
use Rattle.definition.specs.Size.{size}
use Rattle.definition.specs.Macros.{inner_of}
use Rattle.definition.specs.Collect.{anonymous, free}
use Rattle.laws.proofs.Sizes.{size_i, head}
use Rattle.lifting.specs.Records.{Ref, own, passed, Record, find, call}

-- where the parts of what begins at p begin; the byte after an inner says whether a chain follows
abbrev pub chain_at : ℕ → Inner → ℕ
chain_at p i = p + size_i i + 1

abbrev pub fields_at : ℕ → ℕ
fields_at p = p + 3

abbrev pub cases_at : ℕ → Selector → ℕ
cases_at p s = p + length (w_selector s []) + 4

abbrev pub shell_at : ℕ → Shell → ℕ
shell_at p x = p + length (w_open x [])

abbrev pub field_at : ℕ → Name → ℕ
field_at p l = p + 1 + length (w_name l [])

abbrev pub const_end : ℕ → Name → Text → ℕ
const_end p l x = p + 1 + length (w_name l []) + length (w_text x [])

abbrev pub case_at : ℕ → CaseKind → List ℕ → ℕ
case_at p k l = p + length (w_label k l [])

-- "An anonymous child is lifted whole, chain included, and replaced by a call without a chain; any other child is walked."
unfoldable pub replaced : Bool → Combinator → Maybe Record → Combinator
replaced false d m = d
replaced true d absent = d
replaced true d (just r) = call r

unfoldable mutual
  pub out : Combinator → ℕ → List Record → Combinator
  out (plain i) p rs = plain (out_i i p rs)
  out (chained i c) p rs = chained (out_i i p rs) (replaced (anonymous c) (out c (chain_at p i) rs) (find rs (chain_at p i)))

  pub out_i : Inner → ℕ → List Record → Inner
  out_i (leaf k x) p rs = leaf k x
  out_i (struct f) p rs = struct (out_f f (fields_at p) rs)
  out_i (choice s k f) p rs = choice s k (out_c f k (cases_at p s) rs)
  out_i (shell x c) p rs = shell x (replaced (anonymous c) (out c (shell_at p x) rs) (find rs (shell_at p x)))
  out_i (bytes l) p rs = bytes l
  out_i (invocation n a) p rs = invocation n a
  out_i (macro_invocation n a) p rs = macro_invocation n a

  pub out_f : Fields → ℕ → List Record → Fields
  out_f no_field p rs = no_field
  out_f (field k l c f) p rs = field k l (replaced (anonymous c) (out c (field_at p l) rs) (find rs (field_at p l))) (out_f f (field_at p l + size c) rs)
  out_f (const l x f) p rs = const l x (out_f f (const_end p l x) rs)

  pub out_c : Cases → CaseKind → ℕ → List Record → Cases
  out_c no_case k p rs = no_case
  out_c (case l c f) k p rs = case l (replaced (anonymous c) (out c (case_at p k l) rs) (find rs (case_at p k l))) (out_c f k (case_at p k l + size c) rs)

-- a combinator that is lifted, and its place
pub record Lift : Type 0 where
  pub at : ℕ
  pub what : Combinator

abbrev pub lift_at : Combinator → ℕ → Lift
lift_at c p = record { at = p; what = c }

unfoldable pub itself : Bool → Combinator → ℕ → List Lift
itself true c p = lift_at c p ∷ []
itself false c p = []

-- "and its definition is appended after theirs": the lifts out of what stands at a place, in the order of their definitions
unfoldable mutual
  pub lifts : Combinator → ℕ → List Lift
  lifts (plain i) p = lifts_i i p
  lifts (chained i c) p = (lifts c (chain_at p i) ++ itself (anonymous c) c (chain_at p i)) ++ lifts_i i p

  pub lifts_i : Inner → ℕ → List Lift
  lifts_i (leaf k x) p = []
  lifts_i (struct f) p = lifts_f f (fields_at p)
  lifts_i (choice s k f) p = lifts_c f k (cases_at p s)
  lifts_i (shell x c) p = lifts c (shell_at p x) ++ itself (anonymous c) c (shell_at p x)
  lifts_i (bytes l) p = []
  lifts_i (invocation n a) p = []
  lifts_i (macro_invocation n a) p = []

  pub lifts_f : Fields → ℕ → List Lift
  lifts_f no_field p = []
  lifts_f (field k l c f) p = (lifts c (field_at p l) ++ itself (anonymous c) c (field_at p l)) ++ lifts_f f (field_at p l + size c)
  lifts_f (const l x f) p = lifts_f f (const_end p l x)

  pub lifts_c : Cases → CaseKind → ℕ → List Lift
  lifts_c no_case k p = []
  lifts_c (case l c f) k p = (lifts c (case_at p k l) ++ itself (anonymous c) c (case_at p k l)) ++ lifts_c f k (case_at p k l + size c)

-- out of a child, itself last
abbrev pub lifts_k : Combinator → ℕ → List Lift
lifts_k c p = lifts c p ++ itself (anonymous c) c p

-- "types as they stand after lifting, without chain"
unfoldable pub type_of : List Record → Ref → Inner
type_of rs (own i p) = i
type_of rs (passed c p) = inner_of (replaced (anonymous c) (out c p rs) (find rs p))

unfoldable pub params_of : List Record → List Name → List Ref → List Param
params_of rs [] ts = []
params_of rs (n ∷ ns) [] = []
params_of rs (n ∷ ns) (t ∷ ts) = record { name = n; type = type_of rs t } ∷ params_of rs ns ts

-- the definition made by a lift; each lift has its record
unfoldable pub made_by : Maybe Record → List Record → Lift → Definition
made_by absent rs l = format [] [] l.what
made_by (just r) rs l = format r.name (params_of rs r.params r.types) (out l.what l.at rs)

unfoldable pub definition_of : List Record → Lift → Definition
definition_of rs l = made_by (find rs l.at) rs l

-- a definition whose body begins at p
unfoldable pub out_d : Definition → ℕ → List Record → Definition
out_d (format n ps c) p rs = format n ps (out c (p + head n ps) rs)
out_d (constant n x) p rs = constant n x
out_d (byte_order x) p rs = byte_order x
out_d (macro n ps c) p rs = macro n ps c

unfoldable pub lifts_d : Definition → ℕ → List Lift
lifts_d (format n ps c) p = lifts c (p + head n ps)
lifts_d (constant n x) p = []
lifts_d (byte_order x) p = []
lifts_d (macro n ps c) p = []

-- the definitions of a list, of which the first body begins at p
unfoldable pub out_all : List Definition → ℕ → List Record → List Definition
out_all [] p rs = []
out_all (d ∷ ds) p rs = out_d d p rs ∷ out_all ds (p + size_of d) rs

unfoldable pub lifts_all : List Definition → ℕ → List Lift
lifts_all [] p = []
lifts_all (d ∷ ds) p = lifts_d d p ++ lifts_all ds (p + size_of d)

-- "the first offset is 2 + 6n"
abbrev pub first_at : List Definition → ℕ
first_at ds = 2 + 6 * length ds

-- a lift of the list stands at a place
abbrev pub Stands : ℕ → List Lift → Type 0
Stands x [] = ⊥
Stands x (l ∷ ls) = (l.at ≡ x) ⊎ Stands x ls

-- the record of a lift
pub record Found (rs : List Record) (l : Lift) : Type 0 where
  pub of : Record
  pub found : find rs l.at ≡ just of
  pub begins : of.at ≡ l.at
  pub ends : of.end ≡ l.at + size l.what
  pub named : length of.name ≤ 255
  pub needed : of.params ≡ sorted (free l.what)

abbrev pub AllFound : List Record → List Lift → Type 0
AllFound rs [] = Unit {0}
AllFound rs (l ∷ ls) = Found rs l × AllFound rs ls
