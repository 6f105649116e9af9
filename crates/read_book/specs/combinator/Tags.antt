-- What tags and kinds of cases stand for, with an entry for every byte.
use Rattle.std.specs.Prelude.{ℕ, get_or}
use Rattle.definition.specs.Res.{Maybe, absent, just}
use Rattle.definition.specs.Tree.{Inner, CaseKind, arrays, never}
use Rattle.definition.specs.Read.{Reader, items, combinator, arg, Tag, is_leaf, tags, case_kinds}

module _ {A : Type 0} where
  abbrev pub or_else : Maybe A → A → A
  or_else absent a = a
  or_else (just b) a = b

-- what a tag starts. A byte that is no tag is refused before this is asked
unfoldable pub tag_of : ℕ → Tag
tag_of b = or_else (get_or tags b absent) (is_leaf never)

unfoldable pub case_kind_of : ℕ → CaseKind
case_kind_of b = or_else (get_or case_kinds b absent) arrays

-- what stands behind a tag, with so many levels left for what is inside
abbrev pub items_at : ℕ → Tag → Reader Inner
items_at levels t s = items (λ s. combinator levels s) (λ s. arg levels s) t s
