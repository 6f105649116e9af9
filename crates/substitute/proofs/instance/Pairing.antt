-- What stands where in a macro's definition and in a call of it.
-- Assumes nothing.
use mathlib.Core.Path.{◌≡◌, ◌∙◌}
use mathlib.Core.List.{List}
use Prim.Native.Nat.{ℕ, min}
use lib.ListN.{length}
use Rattle.definition.specs.Tree.{Name, Inners, macro_invocation}
use Rattle.definition.specs.Write.{w_u16, w_name, w_all, w_list, w_inner, w_inners, w_combinator, w_definition, count_a}
use Rattle.definition.specs.Macros.{Macro}
use Rattle.layout.specs.items.At.{past_at, number_at, name_past_of, names_past_of}
use Rattle.layout.specs.items.Here.{Here}
use Rattle.layout.proofs.items.Here.{next_here, number_here, number_past, name_here, names_here}
use Rattle.substitute.specs.instance.Paired.{Defined, Paired}

module _ {macros : List ℕ} {def : ℕ} (m : Macro) (d : Defined macros def m) where
  list_at : Here macros (name_past_of macros def) (w_list w_name m.params (w_combinator m.body d.rest))
  unfolding w_definition
  list_at = name_here m.name d.here

  params_count : number_at macros (name_past_of macros def) ≡ length m.params
  unfolding w_list
  params_count = number_here (length m.params) (w_all w_name m.params (w_combinator m.body d.rest)) list_at

  pub params_at : Here macros (past_at macros (name_past_of macros def) 2) (w_all w_name m.params (w_combinator m.body d.rest))
  unfolding w_list
  params_at = number_past (length m.params) list_at

  pub body_at : Here macros (names_past_of macros (number_at macros (name_past_of macros def)) (past_at macros (name_past_of macros def) 2)) (w_combinator m.body d.rest)
  body_at = rw params_count (names_here m.params params_at)

module _ {book : List ℕ} {call : ℕ} (n : Name) (xs : Inners) (z : List ℕ) (h : Here book call (w_inner (macro_invocation n xs) z)) where
  count_at : Here book (name_past_of book (past_at book call 1)) (w_u16 (count_a xs) (w_inners xs z))
  unfolding w_inner
  count_at = name_here n (next_here h)

  args_count : number_at book (name_past_of book (past_at book call 1)) ≡ count_a xs
  args_count = number_here (count_a xs) (w_inners xs z) count_at

  pub args_at : Here book (past_at book (name_past_of book (past_at book call 1)) 2) (w_inners xs z)
  args_at = number_past (count_a xs) count_at

pub paired : {macros book : List ℕ} {def call p k q j n r : ℕ} → p ≡ name_past_of macros def → k ≡ number_at macros p → q ≡ past_at book call 1 → j ≡ name_past_of book q → n ≡ number_at book j → r ≡ min k n → Paired macros def book call r
paired ep ek eq ej en er = record { says = λ m d n xs z h. er ∙ rw (ek, ep, en, ej, eq, params_count m d, args_count n xs z h) }
