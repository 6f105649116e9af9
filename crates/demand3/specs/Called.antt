-- Demand 3: "putting each lifted body back at its call": the calls that stand in bodies, and when a name has one.
use Rattle.std.specs.Prelude.{◌≡◌, List, [], ◌∷◌, ◌++◌, Bool, true, false, cond, length}
use Rattle.definition.specs.Tree.{Name, Combinator, plain, chained, Inner, leaf, struct, choice, shell, bytes, invocation, macro_invocation, Fields, no_field, field, const, Cases, no_case, case, Definition, format, constant, byte_order, macro}
use Rattle.definition.specs.Names.{eq_name}

-- a call: its name, its arguments, and whether a chain stands on it
pub record Call : Type 0 where
  pub name : Name
  pub arguments : List Name
  pub chain : Bool

-- the calls in a combinator, "macro arguments aside"
unfoldable mutual
  pub calls : Combinator → List Call
  calls (plain i) = calls_i i false
  calls (chained i c) = calls_i i true ++ calls c

  pub calls_i : Inner → Bool → List Call
  calls_i (leaf k x) chain = []
  calls_i (struct f) chain = calls_f f
  calls_i (choice s k f) chain = calls_c f
  calls_i (shell x c) chain = calls c
  calls_i (bytes l) chain = []
  calls_i (invocation n a) chain = record { name = n; arguments = a; chain = chain } ∷ []
  calls_i (macro_invocation n a) chain = []

  pub calls_f : Fields → List Call
  calls_f no_field = []
  calls_f (field k l c f) = calls c ++ calls_f f
  calls_f (const l x f) = calls_f f

  pub calls_c : Cases → List Call
  calls_c no_case = []
  calls_c (case l c f) = calls c ++ calls_c f

-- in all bodies
unfoldable pub calls_in : List Definition → List Call
calls_in [] = []
calls_in (format n ps c ∷ ds) = calls c ++ calls_in ds
calls_in (constant n x ∷ ds) = calls_in ds
calls_in (byte_order x ∷ ds) = calls_in ds
calls_in (macro n ps c ∷ ds) = calls_in ds

-- those of one name
unfoldable pub of_name : Name → List Call → List Call
of_name n [] = []
of_name n (x ∷ xs) = let r = of_name n xs in cond (eq_name x.name n) (x ∷ r) r

abbrev pub calls_of : Name → List Definition → List Call
calls_of n ds = of_name n (calls_in ds)

-- this holds of each
abbrev pub Each : (Call → Type 0) → List Call → Type 0
Each P [] = Unit {0}
Each P (x ∷ xs) = P x × Each P xs

-- "its call": there is one, and no chain stands on it
pub record Once (xs : List Call) : Type 0 where
  pub one : length xs ≡ 1
  pub no_chain : Each (λ x. x.chain ≡ false) xs

-- these are the arguments
abbrev pub Handed : List Name → List Call → Type 0
Handed ns xs = Each (λ x. x.arguments ≡ ns) xs
