-- Anonymous combinators, and the free names of a combinator. Code 7.
use Rattle.std.specs.Prelude.{List, [], ◌∷◌, ◌++◌, map, Bool, true, false, ◌||◌}
use Rattle.definition.specs.Tree.{Name, Leaf, constraint_int, constraint_enum, bits, enum, tail, nothing, never, Shell, wrap, vec, option, array, Selector, none, by, FieldKind, ordinary, dependent, Combinator, plain, chained, Inner, leaf, struct, choice, shell, bytes, invocation, macro_invocation, Fields, no_field, field, const, Cases, no_case, case}
use Rattle.definition.specs.Names.{remove, root}

-- "A combinator is anonymous if its inner is Struct, Choice, Enum or Bits, or is Wrap, Vec, Array or Option around an anonymous one; chains are not looked at."
unfoldable pub anonymous_leaf : Leaf → Bool
anonymous_leaf constraint_int = false
anonymous_leaf constraint_enum = false
anonymous_leaf bits = true
anonymous_leaf enum = true
anonymous_leaf tail = false
anonymous_leaf nothing = false
anonymous_leaf never = false

unfoldable mutual
  pub anonymous : Combinator → Bool
  anonymous (plain i) = anonymous_i i
  anonymous (chained i c) = anonymous_i i

  pub anonymous_i : Inner → Bool
  anonymous_i (leaf k x) = anonymous_leaf k
  anonymous_i (struct f) = true
  anonymous_i (choice s k f) = true
  anonymous_i (shell x c) = anonymous c
  anonymous_i (bytes l) = false
  anonymous_i (invocation n a) = false
  anonymous_i (macro_invocation n a) = false

-- "Chains are collected only on Bytes and Tail."
unfoldable pub is_tail : Leaf → Bool
is_tail constraint_int = false
is_tail constraint_enum = false
is_tail bits = false
is_tail enum = false
is_tail tail = true
is_tail nothing = false
is_tail never = false

unfoldable pub bytes_or_tail : Inner → Bool
bytes_or_tail (leaf k x) = is_tail k
bytes_or_tail (struct f) = false
bytes_or_tail (choice s k f) = false
bytes_or_tail (shell x c) = false
bytes_or_tail (bytes l) = true
bytes_or_tail (invocation n a) = false
bytes_or_tail (macro_invocation n a) = false

abbrev pub only : Bool → List Name → List Name
only true ns = ns
only false ns = []

abbrev pub only_if : Bool → Bool → Bool
only_if true b = b
only_if false b = false

-- "Uses are Choice selectors and Invocation arguments (the part before the first '.'), and roots of lengths."
unfoldable pub selector_uses : Selector → List Name
selector_uses none = []
selector_uses (by n) = root n ∷ []

unfoldable pub shell_uses : Shell → List Name
shell_uses (wrap x y) = []
shell_uses vec = []
shell_uses option = []
shell_uses (array l) = l.roots

-- "A Dependent field binds its label for the fields after it.": the names free in those, without it
unfoldable pub unbound : FieldKind → Name → List Name → List Name
unbound ordinary l ns = ns
unbound dependent l ns = remove l ns

-- the free root names, one for each use
unfoldable mutual
  pub free : Combinator → List Name
  free (plain i) = free_i i
  free (chained i c) = free_i i ++ only (bytes_or_tail i) (free c)

  pub free_i : Inner → List Name
  free_i (leaf k x) = []
  free_i (struct f) = free_f f
  free_i (choice s k f) = selector_uses s ++ free_c f
  free_i (shell x c) = shell_uses x ++ free c
  free_i (bytes l) = l.roots
  free_i (invocation n a) = map root a
  free_i (macro_invocation n a) = []

  pub free_f : Fields → List Name
  free_f no_field = []
  free_f (field k l c f) = free c ++ unbound k l (free_f f)
  free_f (const l x f) = free_f f

  pub free_c : Cases → List Name
  free_c no_case = []
  free_c (case l c f) = free c ++ free_c f

-- "7: leftover macro invocation met while collecting": nowhere but where `free` goes (reading 8, docs/READINGS.md; crate `laws`, `leftover_is_found`)
unfoldable mutual
  pub leftover : Combinator → Bool
  leftover (plain i) = leftover_i i
  leftover (chained i c) = leftover_i i || only_if (bytes_or_tail i) (leftover c)

  pub leftover_i : Inner → Bool
  leftover_i (leaf k x) = false
  leftover_i (struct f) = leftover_f f
  leftover_i (choice s k f) = leftover_c f
  leftover_i (shell x c) = leftover c
  leftover_i (bytes l) = false
  leftover_i (invocation n a) = false
  leftover_i (macro_invocation n a) = true

  pub leftover_f : Fields → Bool
  leftover_f no_field = false
  leftover_f (field k l c f) = leftover c || leftover_f f
  leftover_f (const l x f) = leftover_f f

  pub leftover_c : Cases → Bool
  leftover_c no_case = false
  leftover_c (case l c f) = leftover c || leftover_c f
