-- What a book can hold: names pass their tests, and names, texts and counts have the bounds that bytes impose. Document 01, "The definition book".
use Rattle.std.specs.Prelude.{◌≡◌, List, [], ◌∷◌, Bool, true, ℕ, ◌≤◌, ◌<◌, length}
use Rattle.definition.specs.Tree.{Name, Len, Shell, wrap, vec, option, array, Selector, none, by, CaseKind, enums, ints, arrays, Combinator, plain, chained, Inner, leaf, struct, choice, shell, bytes, invocation, macro_invocation, Fields, no_field, field, const, Cases, no_case, case, Inners, no_inner, inner, Param, Definition, format, constant, byte_order, macro}
use Rattle.definition.specs.Read.{dot_allowed, undotted}
use Rattle.definition.specs.Size.{size_book, levels_book}

abbrev pub Bytes : List ℕ → Type 0
Bytes [] = Unit {0}
Bytes (b ∷ s) = (b < 256) × Bytes s

-- "`name` = one length byte, then that many bytes of UTF-8."; the test is `undotted` for a plain name, `dot_allowed` for a selector or an argument of a call
pub record Named (test : List ℕ → Bool) (n : Name) : Type 0 where
  pub passes : test n ≡ true
  pub short : length n ≤ 255
  pub small : Bytes n

abbrev pub AllNamed : (List ℕ → Bool) → List Name → Type 0
AllNamed test [] = Unit {0}
AllNamed test (n ∷ ns) = Named test n × AllNamed test ns

abbrev pub GoodLen : Len → Type 0
GoodLen l = AllNamed undotted l.roots × Bytes l.text

abbrev pub GoodS : Selector → Type 0
GoodS none = Unit {0}
GoodS (by n) = Named dot_allowed n

abbrev pub GoodL : CaseKind → List ℕ → Type 0
GoodL enums l = Named undotted l
GoodL ints l = Bytes l
GoodL arrays l = Bytes l

abbrev pub GoodShell : Shell → Type 0
GoodShell (wrap x y) = Bytes x × Bytes y
GoodShell vec = Unit {0}
GoodShell option = Unit {0}
GoodShell (array l) = GoodLen l

abbrev mutual
  pub Good : Combinator → Type 0
  Good (plain i) = GoodI i
  Good (chained i c) = GoodI i × Good c

  pub GoodI : Inner → Type 0
  GoodI (leaf k x) = Bytes x
  GoodI (struct f) = GoodF f
  GoodI (choice s k f) = GoodS s × GoodC f k
  GoodI (shell x c) = GoodShell x × Good c
  GoodI (bytes l) = GoodLen l
  GoodI (invocation n a) = Named undotted n × AllNamed dot_allowed a
  GoodI (macro_invocation n a) = Named undotted n × GoodA a

  pub GoodF : Fields → Type 0
  GoodF no_field = Unit {0}
  GoodF (field k l c f) = Named undotted l × (Good c × GoodF f)
  GoodF (const l x f) = Named undotted l × (Bytes x × GoodF f)

  pub GoodC : Cases → CaseKind → Type 0
  GoodC no_case k = Unit {0}
  GoodC (case l c f) k = GoodL k l × (Good c × GoodC f k)

  pub GoodA : Inners → Type 0
  GoodA no_inner = Unit {0}
  GoodA (inner i f) = GoodI i × GoodA f

abbrev pub GoodP : List Param → Type 0
GoodP [] = Unit {0}
GoodP (p ∷ ps) = Named undotted p.name × (GoodI p.type × GoodP ps)

abbrev pub GoodD : Definition → Type 0
GoodD (format n ps c) = Named undotted n × (GoodP ps × Good c)
GoodD (constant n x) = Named undotted n × Bytes x
GoodD (byte_order x) = Bytes x
GoodD (macro n ps c) = Named undotted n × (AllNamed undotted ps × Good c)

abbrev pub GoodAll : List Definition → Type 0
GoodAll [] = Unit {0}
GoodAll (d ∷ ds) = GoodD d × GoodAll ds

-- the definitions of a book. That the length of a text and each count are below 65,536, and each offset, follows from the size of the book
pub record IsBook (ds : List Definition) : Type 0 where
  pub good : GoodAll ds
  -- "At most 64 levels."
  pub deep : levels_book ds ≤ 64
  -- "u16 count n, 0 to 512"
  pub few : length ds ≤ 512
  -- "A book is at most 16,384 bytes, a name 255."
  pub short : size_book ds ≤ 16384
