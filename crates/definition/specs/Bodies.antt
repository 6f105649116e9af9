-- Tests over the bodies of formats, macro arguments aside.
use Rattle.std.specs.Prelude.{List, [], ◌∷◌, Bool, true, ◌&&◌}
use Rattle.definition.specs.Tree.{Name, Combinator, plain, chained, Inner, leaf, struct, choice, shell, bytes, invocation, macro_invocation, Fields, no_field, field, const, Cases, no_case, case, Definition, format, constant, byte_order, macro}
use Rattle.definition.specs.Collect.{bytes_or_tail}

-- every called name passes a test
unfoldable mutual
  pub every_invocation : Combinator → (Name → Bool) → Bool
  every_invocation (plain i) test = every_invocation_i i test
  every_invocation (chained i c) test = every_invocation_i i test && every_invocation c test

  pub every_invocation_i : Inner → (Name → Bool) → Bool
  every_invocation_i (leaf k x) test = true
  every_invocation_i (struct f) test = every_invocation_f f test
  every_invocation_i (choice s k f) test = every_invocation_c f test
  every_invocation_i (shell x c) test = every_invocation c test
  every_invocation_i (bytes l) test = true
  every_invocation_i (invocation n a) test = test n
  every_invocation_i (macro_invocation n a) test = true

  pub every_invocation_f : Fields → (Name → Bool) → Bool
  every_invocation_f no_field test = true
  every_invocation_f (field k l c f) test = every_invocation c test && every_invocation_f f test
  every_invocation_f (const l x f) test = every_invocation_f f test

  pub every_invocation_c : Cases → (Name → Bool) → Bool
  every_invocation_c no_case test = true
  every_invocation_c (case l c f) test = every_invocation c test && every_invocation_c f test

-- every chain stands on Bytes or Tail
unfoldable mutual
  pub chains_ok : Combinator → Bool
  chains_ok (plain i) = chains_ok_i i
  chains_ok (chained i c) = bytes_or_tail i && (chains_ok_i i && chains_ok c)

  pub chains_ok_i : Inner → Bool
  chains_ok_i (leaf k x) = true
  chains_ok_i (struct f) = chains_ok_f f
  chains_ok_i (choice s k f) = chains_ok_c f
  chains_ok_i (shell x c) = chains_ok c
  chains_ok_i (bytes l) = true
  chains_ok_i (invocation n a) = true
  chains_ok_i (macro_invocation n a) = true

  pub chains_ok_f : Fields → Bool
  chains_ok_f no_field = true
  chains_ok_f (field k l c f) = chains_ok c && chains_ok_f f
  chains_ok_f (const l x f) = chains_ok_f f

  pub chains_ok_c : Cases → Bool
  chains_ok_c no_case = true
  chains_ok_c (case l c f) = chains_ok c && chains_ok_c f

unfoldable pub every_body : (Combinator → Bool) → List Definition → Bool
every_body test [] = true
every_body test (format n ps c ∷ ds) = test c && every_body test ds
every_body test (constant n x ∷ ds) = every_body test ds
every_body test (byte_order x ∷ ds) = every_body test ds
every_body test (macro n ps c ∷ ds) = every_body test ds
